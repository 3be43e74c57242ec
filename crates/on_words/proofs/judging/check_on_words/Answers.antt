-- `on_words::judging::check_on_words` meets its contract: 20, or check of the list in the words, and zeros in the end. Assumes nothing.
use Rattle.on_words.proofs.Pairless.{check_turned, check_served}
use Rattle.on_words.proofs.judging.check_on_words.Goals as goal
use Rattle.on_words.proofs.judging.check_on_words.Goals.{in-Err, in-Ok}

pub returns : goal.returns
returns c = elim c.match-check_some_pair.branch [
  | in-Err w ↦ rw w.judged-is (check_turned _ _ _ c.clear.ensures _ w.in-Err.ensures)
  | in-Ok w ↦
      let list = w.list.ensures in
      rw w.judged-is
      (check_served _ _ _ c.clear.ensures w.in-Ok.ensures (rw (list.value, list.modules, list.pairs) at w.check_words-judged.ensures))
]
