-- What the loop of `groups::inside_count` keeps true.
use Rattle.std.proofs.Common.{◌≡◌}
use Rattle.groups.proofs.Counts.{inside_upto}
use Rattle.groups.proofs.inside_count.Given as goal

abbrev pub invariant-loop-j : goal.invariant-loop-j
invariant-loop-j l = l.count ≡ inside_upto l.j l.list.ends.now l.list.weights.now l.group
