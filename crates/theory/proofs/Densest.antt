-- Ratios of groups: their order, densest groups, and the found group.
--   at_most_trans, at_most_or                   ratios are totally preordered
--   union_dense, shared_dense                   the union and the intersection of densest groups are as dense
--   union_densest, shared_densest               so they are densest
--   found_densest, found_largest, found_no_pairs    what the found group is
--   found_alone                                 there is one found group at the most
-- Assumes nothing.
use mathlib.Core.Path.{◌≡◌, refl, sym, ap, ◌∙◌}
use mathlib.Core.Bool.{Bool, true, false}
use mathlib.Core.List.{List}
use mathlib.Core.Logic.{◌⊎◌, inl, inr, ⊎_elim}
use Prim.Native.Nat.{ℕ, zero, suc, ◌+◌, ◌*◌, ◌≤◌, ◌<◌}
use native.Mathlib.Omega.{arith}
use native.Mathlib.Nat.{mul-le-mul_right, le_of_mul-le-mul_right}
use lib.Dec.{leb}
use borrow.Author.Tests.{leb-true, leb-false}
use Rattle.theory.specs.Lists.{Pairs}
use Rattle.theory.specs.Groups.{size, is_group, everyone, inside_of, inside, at_most, union, shared, Densest, Found}
use Rattle.theory.specs.Promise.{FoundAlone, FoundLargest, FoundNoPairs, UnionDensest, SharedDensest}
use Rattle.theory.proofs.Tests.{tests}
use Rattle.theory.proofs.Groups.{group_bits, size_pos, union_group, shared_group, size_union, supermodular, inside_none, within_size}
use Rattle.theory.proofs.Groups.{within_both, within_union, everyone_group, sub_within, length_everyone, in_everyone, in_lt}

pub at_most_trans : (g : Pairs) (s t u : List ℕ) → is_group g t ≡ true →
    at_most g s t ≡ true → at_most g t u ≡ true → at_most g s u ≡ true
unfolding at_most
at_most_trans g s t u h c d =
    let c' = simp tests at c in
    let d' = simp tests at d in
    simp tests (le_of_mul-le-mul_right (omega (arith, mul-le-mul_right (size u) c', mul-le-mul_right (size s) d')) (size_pos g t h))

le_or : (a b : ℕ) → (a ≤ b) ⊎ (b ≤ a)
le_or a b = go (leb a b) refl
  where
    go : (t : Bool) → leb a b ≡ t → (a ≤ b) ⊎ (b ≤ a)
    go true e = inl (leb-true a b e)
    go false e = inr (omega (arith, leb-false a b e))

pub at_most_or : (g : Pairs) (s t : List ℕ) → (at_most g s t ≡ true) ⊎ (at_most g t s ≡ true)
unfolding at_most
at_most_or g s t = ⊎_elim (λ h. inl (simp tests h)) (λ h. inr (simp tests h)) (le_or (inside g s * size t) (inside g t * size s))

-- s is densest and t as dense: so are their union and, unless it is empty, what they share
module _ (g : Pairs) (s t : List ℕ) (h : is_group g s ≡ true) (k : is_group g t ≡ true)
    (best : (u : List ℕ) → is_group g u ≡ true → at_most g u s ≡ true) (d : at_most g s t ≡ true) where
  super : inside g s + inside g t ≤ inside g (union s t) + inside g (shared s t)
  unfolding inside
  super = supermodular g.pairs s t (group_bits g s h).1 (group_bits g t k).1

  shared_le : inside g (shared s t) * size s ≤ inside g s * size (shared s t)
  unfolding at_most inside
  shared_le = go (size (shared s t)) refl
    where
      go : (z : ℕ) → size (shared s t) ≡ z → inside g (shared s t) * size s ≤ inside g s * size (shared s t)
      go zero e = omega (arith, ap (λ (z : ℕ). z * size s) (inside_none g.pairs (shared s t) e))
      go (suc z) e = simp tests at (best (shared s t) (shared_group g s t h k (omega arith)))

  pub union_dense : at_most g s (union s t) ≡ true
  unfolding at_most
  union_dense =
      let d' = simp tests at d in
      simp tests (omega (arith, shared_le, mul-le-mul_right (size s) super, ap (λ (z : ℕ). inside g s * z) (size_union s t)))

  pub shared_dense : 0 < size (shared s t) → at_most g s (shared s t) ≡ true
  unfolding at_most
  shared_dense pos =
      let d' = simp tests at d in
      let u = simp tests at (best (union s t) (union_group g s t h k)) in
      simp tests (omega (arith, mul-le-mul_right (size s) super, ap (λ (z : ℕ). inside g s * z) (size_union s t)))

-- what is as dense as a densest group is densest
as_dense : (g : Pairs) (s u : List ℕ) → Densest g s → is_group g u ≡ true → at_most g s u ≡ true → Densest g u
as_dense g s u d h k = record { group = h; greatest = λ t i. at_most_trans g t s u d.group (d.greatest t i) k }

pub union_densest : UnionDensest
unfolding UnionDensest
union_densest g s t d e =
    as_dense g s (union s t) d (union_group g s t d.group e.group)
    (union_dense g s t d.group e.group d.greatest (e.greatest s d.group))

pub shared_densest : SharedDensest
unfolding SharedDensest
shared_densest g s t d e pos =
    as_dense g s (shared s t) d (shared_group g s t d.group e.group pos)
    (shared_dense g s t d.group e.group d.greatest (e.greatest s d.group) pos)

-- a found group is densest
pub found_densest : (g : Pairs) (s : List ℕ) → Found g s → Densest g s
found_densest g s f = record { group = f.group; greatest = f.greatest }

-- it is the densest group with the most modules: another densest group adds nothing to it
pub found_largest : FoundLargest
unfolding FoundLargest
found_largest g s l = (
  λ f. (found_densest g s f, λ t d. within_size t s (f.largest t d.group (d.greatest s f.group))),
  λ h.
      record {
        group = h.0.group;
        greatest = h.0.greatest;
        largest = λ t i k.
            within_union s t ((group_bits g s h.0.group).0 ∙ sym (group_bits g t i).0)
            (h.1 (union s t) (unfold UnionDensest in (union_densest g s t h.0 (as_dense g s t h.0 i k))));
      },
)

-- without pairs every group has ratio 0
pub found_no_pairs : FoundNoPairs
unfolding FoundNoPairs at_most inside
found_no_pairs g l e =
    record {
      group = everyone_group g l;
      greatest = λ t i. rw e (unfold inside_of in simp tests (omega arith));
      largest = λ t i k.
          let b = group_bits g t i in
          sub_within t (everyone g) (b.0 ∙ sym (length_everyone g)) b.1 (λ m j. in_everyone g m (omega (arith, in_lt t m j, b.0)));
    }

-- two found groups hold each other
pub found_alone : FoundAlone
unfolding FoundAlone
found_alone g s t l f h =
    within_both s t (h.largest s f.group (f.greatest t h.group)) (f.largest t h.group (h.greatest s f.group))
