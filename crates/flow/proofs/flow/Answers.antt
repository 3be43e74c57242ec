-- `flow::flow` meets its contract: whatever modules have of their own, units move within pairs only. Assumes nothing.
use Rattle.std.proofs.Common.{◌∙◌}
use Rattle.slots.proofs.Moves.{kept_loads}
use Rattle.flow.proofs.Cutting.{marked_at, flowed_good, flowed_bad}
use Rattle.flow.proofs.flow.Goals.{then-split, else-split}
use Rattle.flow.proofs.flow.Goals as goal

pub returns-clause-flowed : goal.returns-clause-flowed
returns-clause-flowed c = λ own l.
    let e = rw c.unwrap-split.ensures at c.settle.ensures.settled in
    let marked = marked_at (c.mark_at_least.auto.group ∙ c.requires.scope_len.1) (rw c.requires.scope_len.1 at c.mark_at_least.ensures) in
    elim c.if-split.branch [
      | then-split w ↦
          let so = w.if-split.true in
          flowed_good c.args.units.now.graph.pairs e.kept (kept_loads e.kept l) (rw w.rank-is at marked) so (e.good so)
          (rw c.settle.ensures.kept.same.graph at w.drain.ensures)
      | else-split w ↦
          let so = w.if-split.false in
          flowed_bad c.args.units.now.graph.pairs e.kept (kept_loads e.kept l) (rw w.rank-is at marked) so (e.bad so)
    ]
