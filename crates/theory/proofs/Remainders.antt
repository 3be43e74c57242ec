-- The sets left over in the leaving order, place by place, and the densest of them.
--   leaver_at                 who stands at place i leaves the remainder at i
--   leaver_in                 it is there
--   remainder_full, remainder_bytes, remainder_size    a byte of 0 or 1 for each module; N − i are left when i have left
--   remainder_sub             later remainders lie in earlier ones
--   remainder_group           a remainder with a module left is a group
--   densest_le                the densest of the first i is one of them
--   densest_best, densest_larger    no remainder of as many modules is denser, and none as dense is larger
-- Of the leaver it is used only that it is present: no tie rule matters.
-- Assumes nothing.
use mathlib.Core.Path.{◌≡◌, refl, sym, ◌∙◌}
use mathlib.Core.Bool.{Bool, true, false, cond}
use mathlib.Core.List.{List}
use mathlib.Core.Logic.{⊎_elim}
use mathlib.Core.Option.{some}
use Prim.Native.Nat.{ℕ, zero, suc, ◌+◌, ◌*◌, ◌≤◌, ◌<◌}
use native.Mathlib.Omega.{arith}
use lib.Dec.{leb}
use lib.ListN.{length, get_or}
use borrow.Author.Tests.{leb-true, leb-false, le-leb}
use Rattle.theory.specs.Lists.{Pairs}
use Rattle.theory.specs.Groups.{is_in, size, bytes_good, is_group, inside, at_most}
use Rattle.theory.specs.Leaving.{leaver, leaving, left_behind, remainder}
use Rattle.theory.specs.Kits.{denser_of, densest_upto}
use Rattle.theory.specs.Promise.{LeaverFewest, LeavingSteps}
use Rattle.theory.proofs.Tests.{no}
use Rattle.theory.proofs.Groups.{Sub, everyone_bits, bits_group, size_everyone, size_leave, good_leave, none_comes}
use Rattle.theory.proofs.Densest.{at_most_trans, at_most_or}
use Rattle.theory.proofs.Leaving.{leaver_fewest, leaving_steps}
use Rattle.theory.proofs.Peeling.{peeled}

module _ (g : Pairs) where
  pub leaver_at : (i : ℕ) → i < g.n → leaver g (remainder g i) ≡ some (get_or (leaving g) i 0)
  unfolding LeavingSteps
  leaver_at i l = (leaving_steps g).1 i l

  pub remainder_full : (i : ℕ) → i ≤ g.n → length (remainder g i) ≡ g.n
  remainder_full i l = (peeled g i l).full

  pub leaver_in : (i : ℕ) → i < g.n → is_in (remainder g i) (get_or (leaving g) i 0) ≡ true
  unfolding LeaverFewest
  leaver_in i l = (leaver_fewest g (remainder g i) (get_or (leaving g) i 0) (leaver_at i l)).1

  -- later remainders lie in earlier ones
  pub remainder_sub : (i j : ℕ) → i ≤ j → Sub (remainder g j) (remainder g i)
  unfolding remainder left_behind
  remainder_sub i zero l = let same : i ≡ 0 = omega arith in rw same (λ u e. e)
  remainder_sub i (suc j) l = go (leb i j) refl (remainder_sub i j)
    where
      go : (t : Bool) → leb i j ≡ t → (i ≤ j → Sub (remainder g j) (remainder g i)) → Sub (remainder g (suc j)) (remainder g i)
      go true e ih = λ u k. ih (leb-true i j e) u (none_comes (remainder g j) (get_or (leaving g) j 0) u k)
      go false e ih = let same : i ≡ suc j = omega (arith, leb-false i j e) in rw same (λ u k. k)

  pub remainder_size : (i : ℕ) → i ≤ g.n → size (remainder g i) + i ≡ g.n
  unfolding remainder left_behind
  remainder_size zero h = omega (arith, size_everyone g)
  remainder_size (suc i) h =
      omega (arith, remainder_size i (omega arith), size_leave (remainder g i) (get_or (leaving g) i 0) (leaver_in i h))

  pub remainder_bytes : (i : ℕ) → bytes_good (remainder g i) ≡ true
  unfolding remainder left_behind
  remainder_bytes zero = (everyone_bits g).1
  remainder_bytes (suc i) = good_leave (remainder g i) (get_or (leaving g) i 0) (remainder_bytes i)

  pub remainder_group : (i : ℕ) → i < g.n → is_group g (remainder g i) ≡ true
  remainder_group i l =
      bits_group g (remainder g i) (remainder_full i (omega arith), remainder_bytes i) (omega (arith, remainder_size i (omega arith)))

-- ---- the densest of them

-- the densest of the first i is one of them
pub densest_le : (g : Pairs) (i : ℕ) → densest_upto g i ≤ i
unfolding densest_upto denser_of
densest_le g zero = omega arith
densest_le g (suc i) = go (at_most g (remainder g (suc i)) (remainder g (densest_upto g i))) (densest_le g i)
  where
    go : (t : Bool) → densest_upto g i ≤ i → cond t (densest_upto g i) (suc i) ≤ suc i
    go true ih = omega arith
    go false ih = omega arith

-- what is compared is a ratio: remainders with a module left are groups
as_dense_self : (g : Pairs) (s : List ℕ) → at_most g s s ≡ true
unfolding at_most
as_dense_self g s = le-leb (inside g s * size s) (inside g s * size s) (omega arith)

-- one more remainder: the densest so far stays, or gives way to it
densest_cases : (g : Pairs) (i : ℕ) (P : ℕ → Type 0) →
    (at_most g (remainder g (suc i)) (remainder g (densest_upto g i)) ≡ true → P (densest_upto g i)) →
    (at_most g (remainder g (suc i)) (remainder g (densest_upto g i)) ≡ false → P (suc i)) → P (densest_upto g (suc i))
unfolding densest_upto denser_of
densest_cases g i P stays gives = go (at_most g (remainder g (suc i)) (remainder g (densest_upto g i))) refl
  where
    go : (t : Bool) → at_most g (remainder g (suc i)) (remainder g (densest_upto g i)) ≡ t → P (cond t (densest_upto g i) (suc i))
    go true e = stays e
    go false e = gives e

-- a number up to i + 1 is one up to i, or i + 1
up_to : (i : ℕ) (P : ℕ → Type 0) → ((j : ℕ) → j ≤ i → P j) → P (suc i) → (j : ℕ) → j ≤ suc i → P j
up_to i P below here j l = go (leb j i) refl
  where
    go : (t : Bool) → leb j i ≡ t → P j
    go true e = below j (leb-true j i e)
    go false e = let same : j ≡ suc i = omega (arith, leb-false j i e) in rw same here

-- no remainder so far is denser
pub densest_best : (g : Pairs) (i : ℕ) → i < g.n → (j : ℕ) → j ≤ i → at_most g (remainder g j) (remainder g (densest_upto g i)) ≡ true
unfolding densest_upto
densest_best g zero h = λ j l. let same : j ≡ 0 = omega arith in rw same (as_dense_self g (remainder g 0))
densest_best g (suc i) h =
    densest_cases g i (λ d. (j : ℕ) → j ≤ suc i → at_most g (remainder g j) (remainder g d) ≡ true)
    (λ e. up_to i (λ j. at_most g (remainder g j) (remainder g (densest_upto g i)) ≡ true) (densest_best g i (omega arith)) e)
    (λ e. up_to i (λ j. at_most g (remainder g j) (remainder g (suc i)) ≡ true)
    (λ j l.
    at_most_trans g (remainder g j) (remainder g (densest_upto g i)) (remainder g (suc i))
    (remainder_group g (densest_upto g i) (omega (arith, densest_le g i)))
    (densest_best g i (omega arith) j l) (other e))
    (as_dense_self g (remainder g (suc i))))
  where
    other : at_most g (remainder g (suc i)) (remainder g (densest_upto g i)) ≡ false →
        at_most g (remainder g (densest_upto g i)) (remainder g (suc i)) ≡ true
    other e = ⊎_elim (λ a. a) (λ a. no (sym e ∙ a)) (at_most_or g (remainder g (densest_upto g i)) (remainder g (suc i)))

-- and none as dense is larger
pub densest_larger : (g : Pairs) (i : ℕ) → i < g.n → (j : ℕ) → j ≤ i →
    at_most g (remainder g (densest_upto g i)) (remainder g j) ≡ true → densest_upto g i ≤ j
unfolding densest_upto
densest_larger g zero h = λ j l e. omega arith
densest_larger g (suc i) h =
    densest_cases g i (λ d. (j : ℕ) → j ≤ suc i → at_most g (remainder g d) (remainder g j) ≡ true → d ≤ j)
    (λ e. up_to i (λ j. at_most g (remainder g (densest_upto g i)) (remainder g j) ≡ true → densest_upto g i ≤ j)
    (densest_larger g i (omega arith)) (λ _. omega (arith, densest_le g i)))
    (λ e. up_to i (λ j. at_most g (remainder g (suc i)) (remainder g j) ≡ true → suc i ≤ j)
    (λ j l a. no (sym e
    ∙ at_most_trans g (remainder g (suc i)) (remainder g j) (remainder g (densest_upto g i)) (remainder_group g j (omega arith)) a
    (densest_best g i (omega arith) j l)))
    (λ _. omega arith))
