-- The neighbours from the index on are due.
use Rattle.std.proofs.Common.{drop}
use Rattle.peel.proofs.Walks.{Lowering}
use Rattle.peel.proofs.lower_all.Given as goal

abbrev pub invariant-loop-neighbour : goal.invariant-loop-neighbour
invariant-loop-neighbour l = Lowering l.touched (drop l.neighbour-index l.touched) l.initial.ranking.links.keys.now l.ranking.links.keys.now
