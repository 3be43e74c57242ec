-- `flow::staying::Staying::start`: of the modules passed it is known who stays.
use Rattle.flow.proofs.Draining.{DrainStarting}
use Rattle.flow.proofs.staying.Staying.start.Given as goal

abbrev pub invariant-loop-v : goal.invariant-loop-v
invariant-loop-v l = DrainStarting l.units.graph.n l.p l.v l.scope l.units.load.now l.rank l.queue.modules l.queue.tail
