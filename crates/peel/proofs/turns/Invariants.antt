-- i modules have left.
use Rattle.peel.proofs.Orders.{TurnsDone}
use Rattle.peel.proofs.turns.Given as goal

abbrev pub invariant-loop-i : goal.invariant-loop-i
invariant-loop-i l = TurnsDone l.adjacency.list l.i l.initial.order l.initial.finals l.ranking.links.keys.now l.order l.finals
