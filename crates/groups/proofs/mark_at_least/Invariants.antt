-- What the loop of `groups::mark_at_least` keeps true.
use Rattle.std.proofs.Common.{◌≡◌, ℕ, ◌<◌, leb, get_or}
use Rattle.theory.specs.Basics.{mark}
use Rattle.groups.proofs.mark_at_least.Given as goal

abbrev pub invariant-loop-v : goal.invariant-loop-v
invariant-loop-v l = (i : ℕ) → i < l.v → get_or l.group i 0 ≡ mark (leb l.k (get_or l.numbers i 0))
