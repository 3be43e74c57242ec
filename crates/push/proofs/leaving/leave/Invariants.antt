-- The moves made keep units within pairs.
use Rattle.slots.specs.Views.{UnitsKept}
use Rattle.push.proofs.leaving.leave.Given as goal

abbrev pub invariant-loop-arc : goal.invariant-loop-arc
invariant-loop-arc l = UnitsKept l.fn.units l.units
