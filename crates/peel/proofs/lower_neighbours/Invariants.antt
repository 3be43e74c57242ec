-- The neighbours passed that are present carry less, or are gathered.
use Rattle.std.proofs.Common.{◌<◌}
use Rattle.slots.specs.Neighbours.{neighbours_of, neighbours_left}
use Rattle.peel.proofs.Walks.{Gathering}
use Rattle.peel.proofs.lower_neighbours.Given as goal

abbrev pub invariant-loop-neighbour : goal.invariant-loop-neighbour
invariant-loop-neighbour l =
    record {
      can : (goal.iterator-loop-neighbour).can_next l.neighbour-iterator;
      finite : (goal.iterator-loop-neighbour).is_finite l.neighbour-iterator;
      few : l.count < 64;
      gathering :
          Gathering l.adjacency.list.n (neighbours_of l.adjacency.list l.v) (neighbours_left l.neighbour-iterator) l.touched l.count
          l.initial.ranking.links.keys.now l.ranking.links.keys.now;
    }
