-- Sizes and inside counts.
--   sum_size                                       the size of a group as a sum
--   inside_upto, upto_none, upto_next, upto_all    the inside count of the first j pairs: none, one more, all
--   light, upto_small                              a pair's weight, and an inside count, are small
-- Assumes nothing.
use mathlib.Core.Path.{◌≡◌, refl, sym, ◌∙◌, ap}
use mathlib.Core.Bool.{Bool, cond}
use mathlib.Core.List.{List}
use Prim.Native.Nat.{ℕ, ◌+◌, ◌≤◌, ◌<◌}
use native.Mathlib.Omega.{arith}
use native.Mathlib.Numerals.{add-one}
use lib.ListN.{get_or}
use Rattle.std.specs.List.{sum}
use Rattle.std.proofs.lemmas.List.Recursion.{is_sum_by}
use Rattle.theory.specs.Groups.{size, holds_pair, inside}
use Rattle.theory.specs.Words.{word_pair, list_in, HeldWords}
use Rattle.theory.proofs.Bounds.{inside_bound}
use Rattle.slots.specs.Slots.{total}
use Rattle.slots.proofs.Totals.{total_upto}
use Rattle.slots.proofs.Words.{good_pair, inside_total}
use Rattle.groups.specs.Pairs.{inner_at}

-- the size of a group is the sum of its bytes
pub sum_size : (xs : List ℕ) → sum xs ≡ size xs
unfolding size
sum_size xs = sym (is_sum_by size (λ x. x) refl (λ _ _. refl) xs)

-- the inside count of the first j pairs
unfoldable pub inside_upto : (j : ℕ) → (ends weights group : List ℕ) → ℕ
inside_upto j ends weights group = total j (λ i. cond (holds_pair group (word_pair ends weights i)) (get_or weights i 0) 0)

pub upto_none : (ends weights group : List ℕ) → 0 ≡ inside_upto 0 ends weights group
unfolding inside_upto total
upto_none ends weights group = refl

pub upto_all : (n m : ℕ) (ends weights group : List ℕ) → inside_upto m ends weights group ≡ inside (list_in n m ends weights) group
unfolding inside_upto
upto_all n m ends weights group = sym (inside_total n m ends weights group)

-- pair j adds y
pub upto_next : (ends weights group : List ℕ) (j x y : ℕ) (b : Bool) → x ≡ inside_upto j ends weights group → b ≡ inner_at ends group j →
    y ≡ cond b (get_or weights j 0) 0 → x + y ≡ inside_upto (j + 1) ends weights group
unfolding inside_upto total holds_pair word_pair
upto_next ends weights group j x y b e f h =
    let k : y ≡ cond (inner_at ends group j) (get_or weights j 0) 0 = h ∙ ap (λ (z : Bool). cond z (get_or weights j 0) 0) f in
    rw add-one (omega arith)

module _ (n m : ℕ) (ends weights : List ℕ) (held : HeldWords n m ends weights) (j : ℕ) where
  -- a pair's weight
  pub light : j < m → get_or weights j 0 ≤ 1000
  light l = (good_pair n m ends weights held.listed j l).light

  -- no part of the inside count is above the whole
  pub upto_small : (group : List ℕ) → j ≤ m → inside_upto j ends weights group ≤ 4096000
  unfolding inside_upto
  upto_small group l =
      omega (
        arith,
        total_upto j m (λ i. cond (holds_pair group (word_pair ends weights i)) (get_or weights i 0) 0) l,
        inside_total n m ends weights group,
        inside_bound (list_in n m ends weights) group held.listed,
      )

-- what a loop that adds up the inside count cites
pub ruleset counting = (light, upto_none, upto_next, upto_all, upto_small)
