-- The phases so far keep units within pairs.
use Rattle.slots.specs.Views.{UnitsKept}
use Rattle.push.proofs.phases.Given as goal

abbrev pub invariant-loop : goal.invariant-loop
invariant-loop l = UnitsKept l.fn.units l.units
