-- What the contracts of the count of a group cite.
--   size_of     a group's size, or the refusal of what is no group
--   ratio_of    its inside count and size, or that refusal
--   IsSmall     the bounds of both
-- Assumes nothing: these are definitions.
use Rattle.std.specs.Prelude.{◌≤◌, cond, List, ℕ, Result, Ok, Err}
use Rattle.theory.specs.Lists.{Pairs}
use Rattle.theory.specs.Groups.{is_group, inside, size}
use Rattle.refusals.specs.declared.Refusal.{Refusal}
use Rattle.refusals.specs.declared.Refusal.TheVariants.{BadMembers}
use Rattle.numbers.specs.declared.Ratio.{Ratio}

-- the size of a group, and refusal 7 where the bytes make none
unfoldable pub size_of : Pairs → (members : List ℕ) → Result ℕ Refusal
size_of g s = cond (is_group g s) (Ok (size s)) (Err BadMembers)

-- the ratio of a group (its density), and refusal 7 where the bytes make none
unfoldable pub ratio_of : Pairs → (members : List ℕ) → Result Ratio Refusal
ratio_of g s = cond (is_group g s) (Ok (record { p = inside g s; q = size s })) (Err BadMembers)

-- no larger than an inside count over a size can be: up to 4,096 pairs, each up to 1,000 times, and up to 512 modules
pub record IsSmall (r : Ratio) : Type 0 where
  pub inside : r.p ≤ 4096000
  pub modules : r.q ≤ 512
