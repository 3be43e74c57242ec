-- `slots::chain` meets its contract: one slot more is chained.
use native.Mathlib.Omega.{arith}
use Rattle.slots.proofs.Passing.{chained_fits, chained_next}
use Rattle.slots.proofs.Words.{held_few}
use Rattle.slots.proofs.adjacency.chain.Goals as goal

pub add-requires-clause-d_bound : goal.add-requires-clause-d_bound
add-requires-clause-d_bound c =
    chained_fits c.args.list.held (omega arith) (rw c.from-graph.ensures.ends at c.module-v.ensures.value) c.loop-s.invariant

pub loop-s-preserved : goal.loop-s-preserved
loop-s-preserved c =
    let few = held_few c.args.list.held in
    chained_next c.args.list.held (omega arith) (rw c.from-graph.ensures.ends at c.module-v.ensures.value) c.loop-s.invariant
    (omega arith) (omega arith) (omega arith) c.add.ensures
