-- The found group, by a search through all sets of modules.
--   by_bit           what holds of each byte list of one byte more, by its first byte
--   find             a byte list of length n that passes a test, or that none does
--   found_outright   the search ends at the found group
--   found_length     which has a byte for each module
--   found_there      so it is there
-- Assumes nothing.
use mathlib.Core.Path.{◌≡◌, refl, sym, ◌∙◌}
use mathlib.Core.Bool.{Bool, true, false, ◌&&◌, cond}
use mathlib.Core.List.{List, [], ◌∷◌, ◌++◌, map}
use mathlib.Core.Logic.{◌⊎◌, inl, inr, ⊎_elim}
use Prim.Native.Nat.{ℕ, zero, suc, ◌≤◌}
use native.Mathlib.Omega.{arith}
use lib.ListN.{length}
use borrow.Author.Tests.{ltb-false, not-true, not-false}
use Rattle.theory.specs.Lists.{Pairs, is_list}
use Rattle.theory.specs.Groups.{size, bytes_good, is_group, everyone, at_most, subsets, outranks, better_group, best_of, found_of}
use Rattle.theory.specs.Promise.{FoundThere, FoundOutright, FoundLargest}
use Rattle.theory.proofs.Tests.{tests, no, by_test, or_cases, or_fails, and_fails}
use Rattle.theory.proofs.Groups.{Bits, group_bits, everyone_group}
use Rattle.theory.proofs.Densest.{at_most_or, at_most_trans, found_largest}

-- ---- byte lists, a byte at a time

-- the byte lists of length 0, and those of one byte more
by_nil : (C : List ℕ → Type 0) → C [] → (t : List ℕ) → Bits 0 t → C t
by_nil C c [] b = c
by_nil C c (x ∷ t) b = absurd (omega arith)

pub by_bit : (n : ℕ) (C : List ℕ → Type 0) → ((t : List ℕ) → Bits n t → C (0 ∷ t)) → ((t : List ℕ) → Bits n t → C (1 ∷ t)) →
    (t : List ℕ) → Bits (suc n) t → C t
unfolding bytes_good
by_bit n C z o [] b = absurd (omega arith)
by_bit n C z o (zero ∷ t) b = z t (omega arith, (simp tests at b.1).1)
by_bit n C z o (suc zero ∷ t) b = o t (omega arith, (simp tests at b.1).1)
by_bit n C z o (suc (suc x) ∷ t) b = absurd (omega (arith, simp tests at b.1))

-- a byte list of length n that passes a test, or that none does
abbrev pub FoundOrNone : (n : ℕ) (P : List ℕ → Bool) → Type 0
FoundOrNone n P = ((s : List ℕ) × Bits n s × (P s ≡ true)) ⊎ ((t : List ℕ) → Bits n t → P t ≡ true → ⊥)

pub find : (n : ℕ) (P : List ℕ → Bool) → FoundOrNone n P
unfolding bytes_good
find zero P =
    by_test (P []) (λ e. inl ([], (refl, refl), e)) (λ e. inr (by_nil (λ t. P t ≡ true → ⊥) (λ p. no (sym e ∙ p))))
find (suc n) P = join (find n (λ t. P (0 ∷ t))) (find n (λ t. P (1 ∷ t)))
  where
    join : FoundOrNone n (λ t. P (0 ∷ t)) → FoundOrNone n (λ t. P (1 ∷ t)) → FoundOrNone (suc n) P
    join (inl s) f = inl (0 ∷ s.0, (omega (arith, s.1.0), s.1.1), s.2)
    join (inr a) (inl s) = inl (1 ∷ s.0, (omega (arith, s.1.0), s.1.1), s.2)
    join (inr a) (inr b) = inr (by_bit n (λ t. P t ≡ true → ⊥) a b)

-- ---- all sets of modules

-- what holds of each set of a list of sets
abbrev Each : (List ℕ → Type 0) → List (List ℕ) → Type 0
Each C [] = Unit {0}
Each C (t ∷ ts) = C t × Each C ts

each_append : (C : List ℕ → Type 0) (ts us : List (List ℕ)) → Each C (ts ++ us) → Each C ts × Each C us
each_append C [] us e = (tt, e)
each_append C (t ∷ ts) us e = let r = each_append C ts us e.1 in ((e.0, r.0), r.1)

each_map : (C : List ℕ → Type 0) (x : ℕ) (ts : List (List ℕ)) → Each C (map (λ s. x ∷ s) ts) → Each (λ t. C (x ∷ t)) ts
each_map C x [] e = tt
each_map C x (t ∷ ts) e = (e.0, each_map C x ts e.1)

-- every byte list of length n is among the subsets: what holds of each of them holds of it
each_subset : (n : ℕ) (C : List ℕ → Type 0) → Each C (subsets n) → (t : List ℕ) → Bits n t → C t
unfolding subsets
each_subset zero C e = by_nil C e.0
each_subset (suc n) C e =
    let h = each_append C (map (λ s. 0 ∷ s) (subsets n)) (map (λ s. 1 ∷ s) (subsets n)) e in
    by_bit n C (each_subset n (λ t. C (0 ∷ t)) (each_map C 0 (subsets n) h.0))
    (each_subset n (λ t. C (1 ∷ t)) (each_map C 1 (subsets n) h.1))

-- ---- the search

module _ (g : Pairs) where
  -- t does not go before s: its ratio is no higher and, where it is as high, it has no more modules
  abbrev Below : (t s : List ℕ) → Type 0
  Below t s = (at_most g t s ≡ true) × (at_most g s t ≡ true → size t ≤ size s)

  -- an order of groups
  below_self : (s : List ℕ) → Below s s
  unfolding at_most
  below_self s = (simp tests (omega arith), λ e. omega arith)

  below_trans : (s t u : List ℕ) → is_group g s ≡ true → is_group g t ≡ true → is_group g u ≡ true → Below s t → Below t u → Below s u
  below_trans s t u hs ht hu c d = (
    at_most_trans g s t u ht c.0 d.0,
    λ e. omega (arith, c.1 (at_most_trans g t u s hu d.0 e), d.1 (at_most_trans g u s t hs e c.0)),
  )

  -- whatever is outranked is below
  outranked : (t s : List ℕ) → outranks g t s ≡ true → Below s t
  unfolding outranks
  outranked t s e =
      ⊎_elim
      (λ h.
      let f = not-true (at_most g t s) h in
      (⊎_elim (λ i. i) (λ i. no (sym f ∙ i)) (at_most_or g s t), λ i. no (sym f ∙ i)))
      (λ h. let h' = simp tests at h in (h'.0, λ i. omega (arith, h'.1)))
      (or_cases _ _ e)

  -- and so is whatever does not outrank
  not_outranked : (t s : List ℕ) → outranks g t s ≡ false → Below t s
  unfolding outranks
  not_outranked t s e =
      let f = or_fails _ _ e in
      (not-false (at_most g t s) f.0, λ i. ltb-false _ _ (and_fails (at_most g s t) _ f.1 i))

  -- a group r above s, and above each group of ts
  abbrev Tops : (r s : List ℕ) (ts : List (List ℕ)) → Type 0
  Tops r s ts = (is_group g r ≡ true) × Below s r × Each (λ t. is_group g t ≡ true → Below t r) ts

  -- the better of two is above both
  better_tops : (s t : List ℕ) → is_group g s ≡ true → Tops (better_group g s t) s (t ∷ [])
  unfolding better_group
  better_tops s t h = go (is_group g t && outranks g t s) refl
    where
      go : (b : Bool) → (is_group g t && outranks g t s) ≡ b → Tops (cond b t s) s (t ∷ [])
      go true e = let e' = simp tests at e in (e'.0, outranked t s e'.1, (λ i. below_self t, tt))
      go false e = (h, below_self s, (λ i. not_outranked t s (and_fails (is_group g t) (outranks g t s) e i), tt))

  -- and the best of many above all
  best_tops : (s : List ℕ) (ts : List (List ℕ)) → is_group g s ≡ true → Tops (best_of g s ts) s ts
  unfolding best_of
  best_tops s [] h = (h, below_self s, tt)
  best_tops s (t ∷ ts) h =
      let b = better_tops s t h in
      let r = best_tops (better_group g s t) ts b.0 in
      let up : (u : List ℕ) → is_group g u ≡ true → Below u (better_group g s t) → Below u (best_of g (better_group g s t) ts) =
      λ u i c. below_trans u (better_group g s t) (best_of g (better_group g s t) ts) i b.0 r.0 c r.1 in
      (r.0, up s h b.1, (λ i. up t i (b.2.0 i), r.2))

-- no group goes before the one found: it is densest, and no densest group has more modules
pub found_outright : FoundOutright
unfolding FoundOutright FoundLargest found_of
found_outright g l =
    let r = best_tops g (everyone g) (subsets g.n) (everyone_group g l) in
    let below : (t : List ℕ) → is_group g t ≡ true → Below g t (found_of g) =
    λ t h. each_subset g.n (λ u. is_group g u ≡ true → Below g u (found_of g)) r.2 t (group_bits g t h) h in
    (found_largest g (found_of g) l).1
    (record { group = r.0; greatest = λ t h. (below t h).0 }, λ t d. (below t d.group).1 (d.greatest (found_of g) r.0))

-- it has a byte for each module
pub found_length : (g : Pairs) → is_list g ≡ true → length (found_of g) ≡ g.n
unfolding FoundOutright
found_length g l = (group_bits g (found_of g) (found_outright g l).group).0

-- so there is a found group
pub found_there : FoundThere
unfolding FoundThere FoundOutright
found_there g l = (found_of g, found_outright g l)
