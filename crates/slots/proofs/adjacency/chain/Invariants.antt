-- The slots passed are chained.
use Rattle.slots.specs.Rows.{Chained}
use Rattle.slots.proofs.adjacency.chain.Given as goal

abbrev pub invariant-loop-s : goal.invariant-loop-s
invariant-loop-s l = Chained l.list.n l.s l.list.ends.now l.list.weights.now l.last l.before l.degrees
