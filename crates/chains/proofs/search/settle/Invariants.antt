-- `chains::search::settle`: no load before the root's is above p. The measure is what lies above p.
use Rattle.chains.specs.Search.{excess}
use Rattle.chains.proofs.Settling.{Settling}
use Rattle.chains.proofs.search.settle.Given as goal

abbrev pub invariant-loop-root : goal.invariant-loop-root
invariant-loop-root l = Settling l.p l.root l.fn.units l.units

abbrev pub invariant-loop-units : goal.invariant-loop-units
invariant-loop-units l = Settling l.p l.root l.fn.units l.units

abbrev pub decreases-loop-units : goal.decreases-loop-units
decreases-loop-units l = excess l.fn.units.graph.n l.p l.units.load.now
