-- The arcs passed keep units within pairs, and nobody is taken from the queue.
use Rattle.std.proofs.Common.{◌≡◌}
use Rattle.slots.specs.Views.{UnitsKept}
use Rattle.push.proofs.phase.Phase.push_from.Given as goal

abbrev pub invariant-loop-i : goal.invariant-loop-i
invariant-loop-i l = record {
  kept : UnitsKept l.fn.units l.units;
  at : l.self.active.at ≡ l.initial.self.active.at;
}
