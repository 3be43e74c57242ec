-- `peel::lower_all` meets its contract: the neighbours from the index on are due.
use Rattle.std.proofs.Common.{◌∙◌, arith}
use Rattle.std.proofs.lemmas.List.{drop_more, drop_all}
use Rattle.ranking.proofs.Order.{has_below}
use Rattle.peel.specs.Steps.{IsPresent}
use Rattle.peel.proofs.Walks.{lowering_enough, lowering_next, lowering_end}
use Rattle.peel.proofs.lower_all.Goals as goal

pub lower-requires-clause-there : goal.lower-requires-clause-there
unfolding IsPresent
lower-requires-clause-there c =
    c.loop-neighbour.invariant.present _ ∙ c.requires.there c.loop-neighbour.neighbour-index _ (omega arith)

pub lower-requires-clause-v_bound : goal.lower-requires-clause-v_bound
lower-requires-clause-v_bound c = has_below _ _ (lower-requires-clause-there c)

pub lower-requires-clause-enough : goal.lower-requires-clause-enough
lower-requires-clause-enough c =
    lowering_enough c.loop-neighbour.invariant (drop_more c.args.touched.now c.loop-neighbour.neighbour-index _ (omega arith))
    (lower-requires-clause-there c)

pub loop-neighbour-preserved : goal.loop-neighbour-preserved
loop-neighbour-preserved c =
    lowering_next c.loop-neighbour.invariant (drop_more c.args.touched.now c.loop-neighbour.neighbour-index _ (omega arith)) c.lower.ensures

pub returns : goal.returns
returns c = lowering_end c.loop-neighbour.invariant (drop_all c.loop-neighbour.neighbour-index c.args.touched.now (omega arith))
