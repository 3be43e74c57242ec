-- The turns so far keep units within pairs. The measure: the places not yet looked at.
use Rattle.std.proofs.Common.{◌-◌}
use Rattle.slots.specs.Views.{UnitsKept}
use Rattle.push.proofs.phase.Phase.run.Given as goal

abbrev pub invariant-loop-v : goal.invariant-loop-v
invariant-loop-v l = UnitsKept l.fn.units l.units

abbrev pub decreases-loop-v : goal.decreases-loop-v
decreases-loop-v l = 640 - l.self.active.at
