-- `peel::turns` meets its contract: i modules have left.
use native.Mathlib.Omega.{arith}
use Rattle.slots.proofs.Words.{held_few}
use Rattle.peel.specs.Turns.{TurnOf}
use Rattle.peel.proofs.Orders.{turn_ranked, turn_below, turn_next}
use Rattle.peel.proofs.turns.Goals as goal

pub turn-leaver-requires : goal.turn-leaver-requires
turn-leaver-requires c = turn_ranked c.loop-i.invariant (omega arith)

pub overflow_cast-order : goal.overflow_cast-order
unfolding TurnOf
overflow_cast-order c =
    let below = turn_below c.loop-i.invariant (omega arith) (c.turn-leaver.ensures _ c.loop-i.invariant.ranked) in
    let few = held_few c.args.adjacency.list.held in
    omega arith

pub loop-i-preserved : goal.loop-i-preserved
unfolding TurnOf
loop-i-preserved c =
    turn_next c.loop-i.invariant (omega arith) (c.turn-leaver.ensures _ c.loop-i.invariant.ranked) c.requires.order_long c.requires.finals_long
