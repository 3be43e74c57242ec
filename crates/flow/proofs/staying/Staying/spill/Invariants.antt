-- `flow::staying::Staying::spill`: modules drain along the arcs passed.
use Rattle.std.proofs.Common.{◌≡◌}
use Rattle.flow.specs.Drain.{Drains}
use Rattle.flow.proofs.staying.Staying.spill.Given as goal

abbrev pub invariant-loop-arc : goal.invariant-loop-arc
invariant-loop-arc l = record {
  drains : Drains l.units.graph.n l.units.graph.m l.units.graph.ends.now l.units.hold.now l.initial.self.rank.now l.initial.self.queue.modules
      l.initial.self.queue.tail l.self.rank.now l.self.queue.modules l.self.queue.tail;
  same : l.self.rank.ghost_name ≡ l.initial.self.rank.ghost_name;
  at : l.self.queue.at ≡ l.initial.self.queue.at;
}
