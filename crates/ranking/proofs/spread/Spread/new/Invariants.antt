-- The greatest degree is a number of 32 bits.
use Rattle.std.proofs.Common.{◌≤◌}
use Rattle.ranking.proofs.spread.Spread.new.Given as goal

abbrev pub invariant-loop-degree : goal.invariant-loop-degree
invariant-loop-degree l = record { most : l.most ≤ 4294967295 }
