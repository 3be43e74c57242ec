-- `peel::turn` meets its contract: the first of the ranking is the leaver, its neighbours carry less, and a walk over the ranking is in order.
use Rattle.ranking.specs.Promise.{RankedInOrder}
use Rattle.ranking.proofs.Promises.{ranked_in_order}
use Rattle.peel.specs.Steps.{SomeRanked}
use Rattle.peel.proofs.Ranks.{ranked_below, ranked_lowerable, ranked_left}
use Rattle.peel.proofs.Stepping.{turn_of}
use Rattle.peel.proofs.turn.Goals as goal

pub take-leaver-requires : goal.take-leaver-requires
unfolding SomeRanked
take-leaver-requires c = c.requires.1.1

pub lower_neighbours-requires-clause-below : goal.lower_neighbours-requires-clause-below
unfolding SomeRanked
lower_neighbours-requires-clause-below c = ranked_below c.args.adjacency.list c.requires.1.0 c.take-leaver.ensures

pub lower_neighbours-requires-clause-lowerable : goal.lower_neighbours-requires-clause-lowerable
unfolding SomeRanked
lower_neighbours-requires-clause-lowerable c = ranked_lowerable c.args.adjacency.list c.requires.1.0 c.take-leaver.ensures

pub returns : goal.returns
unfolding RankedInOrder
returns c =
    turn_of _ _ (ranked_in_order _ _ _ _ _ c.args.ranking.now.ranked) (ranked_in_order _ _ _ _ _ c.lower_neighbours.new.ranking.ranked) c.take-leaver.ensures
    (λ s r. ranked_left c.args.adjacency.list r c.take-leaver.ensures c.lower_neighbours.ensures)
