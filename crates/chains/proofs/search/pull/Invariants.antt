-- `chains::search::pull`: the module at hand is on a chain to the root. The measure is its rank.
use Rattle.std.proofs.Common.{get_or}
use Rattle.chains.proofs.Pulling.{Chain}
use Rattle.chains.proofs.search.pull.Given as goal

abbrev pub invariant-loop-units : goal.invariant-loop-units
invariant-loop-units l = Chain l.p l.root l.reached.rank l.reached.from l.fn.units l.units l.c

abbrev pub decreases-loop-units : goal.decreases-loop-units
decreases-loop-units l = get_or l.reached.rank l.c 0
