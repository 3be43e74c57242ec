-- `flow::staying::Staying::spill` meets its contract: along the arcs, who leads out drains. Assumes nothing.
use Rattle.std.proofs.Common.{arith, ◌∙◌}
use Rattle.flow.proofs.Draining.{drains_more}
use Rattle.flow.proofs.staying.Staying.spill.Goals.{in-Some, in_default}
use Rattle.flow.proofs.staying.Staying.spill.Goals as goal

pub loop-arc-preserved : goal.loop-arc-preserved
loop-arc-preserved c =
    let i = c.loop-arc.invariant in
    elim c.match-exit_along.branch [
      | in-Some w ↦
          let r = w.release.ensures in rw w.self-is (record { drains = drains_more i.drains r.drains; same = r.same ∙ i.same; at = omega (arith, r.queue.0) })
      | in_default w ↦ rw w.self-is i
    ]
