-- `flow::drain::drain`: who may stay so far; the ranks are those lent. The measure: the modules not yet looked at and those not queued, of 512.
use Rattle.std.proofs.Common.{◌≡◌, ◌+◌, ◌-◌}
use Rattle.flow.proofs.Draining.{Draining}
use Rattle.flow.proofs.drain.drain.Given as goal

abbrev pub invariant-loop-u : goal.invariant-loop-u
invariant-loop-u l = record {
  staying : Draining l.units.graph.n l.units.graph.m l.p l.scope l.units.graph.ends.now l.units.hold.now l.units.load.now l.staying.rank.now;
  same : l.staying.rank.ghost_name ≡ l.initial.staying.rank.ghost_name;
}

abbrev pub decreases-loop-u : goal.decreases-loop-u
decreases-loop-u l = (512 - l.staying.queue.at) + (512 - l.staying.queue.tail)
