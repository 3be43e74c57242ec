-- The pairs passed hold their units, and the loads have what they hold.
use Rattle.slots.proofs.Spreading.{SpreadUpto}
use Rattle.slots.proofs.split.spread.Given as goal

abbrev pub invariant-loop-j : goal.invariant-loop-j
invariant-loop-j l = SpreadUpto l.graph.n l.graph.m l.q l.j l.graph.ends.now l.weights l.scope l.initial.hold l.initial.load l.hold l.load
