-- What the loop of `densest::gather::keep_at_least` keeps: of the numbers passed those of k or more are kept, and the others are 0.
use Rattle.std.proofs.Common.{◌≡◌, ℕ, ◌<◌, cond, leb, get_or}
use Rattle.densest.proofs.gather.keep_at_least.Given as goal

abbrev pub invariant-loop-v : goal.invariant-loop-v
invariant-loop-v l = (i : ℕ) → i < l.v → get_or l.kept i 0 ≡ cond (leb l.k (get_or l.cores i 0)) (get_or l.cores i 0) 0
