-- `on_words::kitting::kit_on_words` meets its contract: 20, 21, or the kit of the list in the words, and zeros in the end. Assumes nothing.
use mathlib.Core.Path.{sym}
use Rattle.on_words.proofs.Kits.{kit_refused, kit_done, in_range}
use Rattle.on_words.proofs.kitting.kit_on_words.Goals as goal
use Rattle.on_words.proofs.kitting.kit_on_words.Goals.{in-Err, in-Ok}

pub kit-requires-clause-some : goal.kit-requires-clause-some
kit-requires-clause-some c = (in_range _ c.args.head.m _ (sym c.in-Ok.ensures)).0

pub kit-requires-clause-few : goal.kit-requires-clause-few
kit-requires-clause-few c = rw c.list.ensures.modules (in_range _ c.args.head.m _ (sym c.in-Ok.ensures)).1

pub returns : goal.returns
returns c = elim c.match-check_least.branch [
  | in-Err w ↦ rw (w.made-is, w.members-is) (kit_refused _ _ _ c.clear.ensures _ w.in-Err.ensures)
  | in-Ok w ↦
      let list = w.list.ensures in
      rw (w.made-is, w.members-is) (kit_done _ _ _ c.clear.ensures w.in-Ok.ensures (rw list.value at w.kit.ensures))
]
