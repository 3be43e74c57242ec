-- `peel::lower_neighbours` meets its contract: the neighbours passed that are present carry less, or are gathered.
use Rattle.std.proofs.Common.{◌≡◌, ◌+◌, set, cond, ap, ◌∙◌, arith, rules}
use Rattle.slots.specs.Neighbours.{neighbours_of, neighbours_left}
use Rattle.slots.proofs.Words.{held_few}
use Rattle.slots.proofs.Rows.{row_fits}
use Rattle.peel.proofs.Walks.{Gathering, gathering_start, gathering_fit, gathering_next, gathering_lowerable, gathering_flushed}
use Rattle.peel.proofs.lower_neighbours.Goals as goal
use Rattle.peel.proofs.lower_neighbours.Goals.{After-from-count}

pub loop-neighbour-init : goal.loop-neighbour-init
loop-neighbour-init c =
    let all = ap neighbours_left c.into_iter-neighbour-iterator.ensures.into_iter_gives ∙ c.neighbours-neighbour-items.ensures in
    record {
      can = tt;
      finite = tt;
      few = omega arith;
      gathering = rw all (gathering_start (row_fits c.args.adjacency.list.held _ _ (omega arith)) (omega arith) c.requires.lowerable);
    }

pub has-requires : goal.has-requires
has-requires c =
    let f = gathering_fit c.loop-neighbour.invariant.gathering c.in-Some.ensures.steps in
    let few = held_few c.args.adjacency.list.held in
    omega arith

-- once the neighbour at hand is counted; `before` leads back there
gathered : (c : After-from-count) →
    Gathering c.args.adjacency.list.n (neighbours_of c.args.adjacency.list c.args.v) (neighbours_left c.next.new.self)
    (set c.loop-neighbour.touched c.loop-neighbour.count c.in-Some.neighbour) (c.loop-neighbour.count + c.from-count.result)
    c.args.ranking.now.links.keys.now c.loop-neighbour.ranking.links.keys.now
gathered c =
    let step : c.from-count.result ≡ cond c.has.result 1 0 = search rules in
    gathering_next c.loop-neighbour.invariant.gathering c.in-Some.ensures.steps c.has.result c.from-count.result (omega arith) c.has.ensures step

pub loop-neighbour-preserved : goal.loop-neighbour-preserved
loop-neighbour-preserved c =
    let g = gathered c.before in
    record { can = tt; finite = tt; few = omega arith; gathering = g }

pub lower_all-requires-clause-there : goal.lower_all-requires-clause-there
lower_all-requires-clause-there c = (gathered c.before.before.before.before).there

pub lower_all-requires-clause-lowerable : goal.lower_all-requires-clause-lowerable
lower_all-requires-clause-lowerable c = gathering_lowerable (gathered c.before.before.before.before)

pub loop-neighbour-preserved-then-count-eq64 : goal.loop-neighbour-preserved-then-count-eq64
loop-neighbour-preserved-then-count-eq64 c =
    let g = gathered c.before.before.before.before.before in
    record { can = tt; finite = tt; few = omega arith; gathering = gathering_flushed g c.lower_all.ensures }
