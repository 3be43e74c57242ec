-- `chains::search::search`: the modules reached so far are a search tree, none of them loaded below p. The measure: the modules not yet looked at and those
-- not reached, of 512.
use Rattle.std.proofs.Common.{◌≡◌, ◌+◌, ◌-◌, ◌≤◌}
use Rattle.chains.proofs.Visiting.{Scan}
use Rattle.chains.proofs.search.search.Given as goal

abbrev pub invariant-loop-arc : goal.invariant-loop-arc
invariant-loop-arc l = record {
  scan : Scan l.units.graph.n l.units.graph.m l.p l.root l.units.graph.ends.now l.units.hold.now l.units.load.now l.reached.rank l.reached.from;
  at : l.reached.queue.at ≡ l.initial.reached.queue.at;
  tail : l.initial.reached.queue.tail ≤ l.reached.queue.tail;
}

abbrev pub invariant-scan : goal.invariant-scan
invariant-scan l =
    Scan l.units.graph.n l.units.graph.m l.p l.root l.units.graph.ends.now l.units.hold.now l.units.load.now l.reached.rank l.reached.from

abbrev pub decreases-scan : goal.decreases-scan
decreases-scan l = (512 - l.reached.queue.at) + (512 - l.reached.queue.tail)
