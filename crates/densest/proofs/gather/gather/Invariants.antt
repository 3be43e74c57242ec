-- What the loop of `densest::gather::gather` keeps: the pairs passed are packed, and gathered.
use Rattle.std.proofs.Common.{length}
use Rattle.densest.proofs.Gathering.{Gathering}
use Rattle.densest.proofs.gather.gather.Given as goal

abbrev pub invariant-loop-j : goal.invariant-loop-j
invariant-loop-j l = Gathering (length l.core) (length l.initial.shares) l.j l.i l.core l.initial.words l.words l.shares
