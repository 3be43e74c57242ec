-- `on_words::solving::solve_on_words` meets its contract: 20, or solve on the front of the words, and zeros in the end. Assumes nothing.
use mathlib.Core.Path.{◌≡◌, ◌∙◌}
use native.Mathlib.Omega.{arith}
use lib.ListN.{length, take, drop}
use lib.Seq.{length-take-le, drop_at}
use Rattle.on_words.proofs.Filling.{cleared_past}
use Rattle.on_words.proofs.Sheets.{front_list}
use Rattle.on_words.proofs.Pairless.{solve_turned, solve_served}
use Rattle.on_words.proofs.solving.solve_on_words.Goals as goal
use Rattle.on_words.proofs.solving.solve_on_words.Goals.{in-Err, in-Ok}

pub returns : goal.returns
returns c = elim c.match-check_some_pair.branch [
  | in-Err w ↦
      rw (w.found-is, w.members-is, w.cores-is, w.shares-is)
      (solve_turned _ _ _ _ (rw w.work-is at c.clear.ensures) _ w.in-Err.ensures)
  | in-Ok w ↦
      let work = c.args.work.now in
      let holds = c.requires.holds_list in
      let front_long : length (take 12288 work) ≡ 12288 = length-take-le 12288 work holds.long in
      let past = drop_at w.solve.new.words (drop 12288 work) 12288 (w.solve.auto.words ∙ front_long) in
      rw (w.found-is, w.members-is, w.cores-is, w.shares-is)
      (solve_served _ _ _ _ ((rw w.work-is at c.clear.ensures) ∙ cleared_past 12288 _ _ (omega arith) past) w.in-Ok.ensures holds
      (rw (front_list _ _ work holds) at w.solve.ensures))
]
