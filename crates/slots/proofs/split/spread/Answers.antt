-- `slots::spread` meets its contract: the pairs passed hold their units, and the loads have what they hold.
use Rattle.slots.specs.Rows.{first_end, second_end}
use Rattle.slots.proofs.Spreading.{Turn, spread_start, spread_fits, spread_fits_too, spread_next}
use Rattle.slots.proofs.split.spread.Goals.{After-first_part-x}
use Rattle.slots.proofs.split.spread.Goals as goal

-- pair j gets its units
turn : (c : After-first_part-x) →
    Turn c.args.graph.n c.args.graph.m c.args.q c.loop-j.j c.args.graph.ends.now c.args.weights.now c.args.scope.now c.args.hold.now c.args.load.now
    c.loop-j.hold c.loop-j.load c.first_end-a.result c.second_end-b.result c.pair_units-u.result c.first_part-x.result
unfolding first_end second_end
turn c = record {
  list = c.args.graph.pairs;
  light = c.requires.weights;
  few = c.requires.q_bound;
  room = c.requires.room;
  own_small = c.requires.own;
  upto = c.loop-j.invariant;
  low = c.loop-j-test.true;
  first = c.first_end-a.ensures.value;
  second = c.second_end-b.ensures.value;
  all = c.pair_units-u.ensures;
  part = c.first_part-x.ensures;
}

pub loop-j-init : goal.loop-j-init
loop-j-init c = spread_start c.requires.room.long

pub add-requires-clause-d_bound : goal.add-requires-clause-d_bound
add-requires-clause-d_bound c = spread_fits (turn (goal.at.add-requires-clause-d_bound c).After-first_part-x)

pub add-requires-in-loop-j-clause-d_bound : goal.add-requires-in-loop-j-clause-d_bound
add-requires-in-loop-j-clause-d_bound c =
    spread_fits_too (turn (goal.at.add-requires-in-loop-j-clause-d_bound c).After-first_part-x) c.add.ensures

pub loop-j-preserved : goal.loop-j-preserved
loop-j-preserved c = spread_next (turn (goal.at.loop-j-preserved c).After-first_part-x) c.add.ensures c.add-in-loop-j.ensures
