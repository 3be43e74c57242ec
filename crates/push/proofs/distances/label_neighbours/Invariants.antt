-- Neighbours join; nobody is taken from the queue.
use Rattle.std.proofs.Common.{◌≡◌}
use Rattle.push.proofs.distances.label_neighbours.Given as goal

abbrev pub invariant-loop-arc : goal.invariant-loop-arc
invariant-loop-arc l = l.reached.at ≡ l.initial.reached.at
