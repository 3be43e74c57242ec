-- Causes in a row, and what follows where two module numbers are not refused.
--   refusal_first    a number given by the causes in front
--   refusal_split    where no cause is met, none of those in front is
--   pair_number, count_number    the number that two modules give, and that a stop count gives
--   pair_round, causes_round    2,5 is the same pair as 5,2, and refused alike
--   pair_then        where two module numbers are not refused the causes behind decide
--   numbers_known    both are then modules, as they are numbered, and differ
--   pair_fit         two such numbers are not refused
--   modules_known    numbered from 0, both are below N
--   count_fit        a stop count of 1 to 1,000 is not refused
--   count_known, count_then             one that is not refused is 1 to 1,000, and the causes behind decide
--   count_stays      a raised count that is not refused is at most 1,000
--   stops_round      w stops of 2,5 are w stops of 5,2
--   stops_good       with such a count that pair is one that a list may hold
-- Assumes nothing.
use mathlib.Core.Path.{◌≡◌, refl, sym, ◌∙◌}
use mathlib.Core.Bool.{true, false, ◌&&◌, cond, and_comm}
use mathlib.Core.Logic.{◌≢◌}
use mathlib.Core.List.{List, [], ◌∷◌, ◌++◌}
use Prim.Native.Nat.{ℕ, zero, suc, ◌+◌, ◌≤◌, ◌<◌, min, max}
use native.Mathlib.Omega.{arith}
use lib.Dec.{leb, eqb}
use borrow.Author.Tests.{eqb-true, eqb-false, eq-eqb, ne_eqb, le-leb, lt-ltb, ltb-false}
use Rattle.theory.specs.Lists.{Pair, ends_in_range, smaller_first, weight_in_range}
use Rattle.theory.specs.Refusals.{Cause, cause, refusal}
use Rattle.theory.proofs.Tests.{tests, by_test}
use Rattle.pairs.specs.Held.{weight_of, smaller_first_pair, stops_of}
use Rattle.pairs.specs.Causes.{is_module, module_unknown, self_paired, pair_causes, count_outside, count_causes, count_passes}

-- a number given by the first of two lists of causes is given by both together
pub refusal_first : (cs ds : List Cause) → (refusal cs ≡ 0 → ⊥) → refusal (cs ++ ds) ≡ refusal cs
unfolding refusal
refusal_first [] ds h = absurd (h refl)
refusal_first (c ∷ cs) ds h = by_test c.met (λ t. rw t) (λ t. rw t (refusal_first cs ds (rw t at h)))

-- and where none is given, none of the first is
pub refusal_split : (cs ds : List Cause) → refusal (cs ++ ds) ≡ 0 → refusal cs ≡ 0
refusal_split cs ds e = go (refusal cs) refl
  where
    go : (k : ℕ) → refusal cs ≡ k → refusal cs ≡ 0
    go zero d = d
    go (suc k) d = absurd (omega (arith, refusal_first cs ds (λ z. omega (arith, d, z)), d, e))

-- the number that two modules give, and that a stop count gives
pub pair_number : (lowest n a b : ℕ) → refusal (pair_causes lowest n a b) ≡ cond (eqb a b) 5 (cond (is_module lowest n a && is_module lowest n b) 0 4)
unfolding pair_causes self_paired module_unknown cause refusal
pair_number lowest n a b = by_test (is_module lowest n a && is_module lowest n b) (λ t. rw t) (λ t. rw t)

pub count_number : (w : ℕ) → refusal (count_causes w) ≡ cond (leb 1 w && leb w 1000) 0 18
unfolding count_causes count_outside cause refusal
count_number w = by_test (leb 1 w && leb w 1000) (λ t. rw t) (λ t. rw t)

-- 2,5 is the same pair as 5,2
module _ (a b : ℕ) where
  pub pair_round : smaller_first_pair a b ≡ smaller_first_pair b a
  unfolding smaller_first_pair
  pair_round =
      let low : min a b ≡ min b a = omega arith in
      let high : max a b ≡ max b a = omega arith in
      rw (low, high)

  self_round : self_paired a b ≡ self_paired b a
  unfolding self_paired
  self_round = by_test (eqb a b) (λ t. t ∙ sym (eq-eqb b a (sym (eqb-true a b t)))) (λ t. t ∙ sym (ne_eqb b a (λ e. eqb-false a b t (sym e))))

  -- with any count
  pub stops_round : (w : ℕ) → stops_of a b w ≡ stops_of b a w
  unfolding stops_of
  stops_round w =
      let low : min a b ≡ min b a = omega arith in
      let high : max a b ≡ max b a = omega arith in
      rw (low, high)

  -- and refused alike
  pub causes_round : (lowest n : ℕ) → pair_causes lowest n a b ≡ pair_causes lowest n b a
  unfolding pair_causes module_unknown
  causes_round lowest n = rw (and_comm (is_module lowest n a) (is_module lowest n b), self_round)

-- two numbers that are not refused are modules, and differ; and the causes that stand behind decide
module _ (lowest n a b : ℕ) (taken : refusal (pair_causes lowest n a b) ≡ 0) where
  known : ((is_module lowest n a && is_module lowest n b) ≡ true) × (eqb a b ≡ false)
  known =
      let none = sym (pair_number lowest n a b) ∙ taken in
      by_test (eqb a b)
      (λ t. absurd (omega (arith, rw t at none)))
      (λ t. by_test (is_module lowest n a && is_module lowest n b) (λ u. (u, t)) (λ u. absurd (omega (arith, rw (t, u) at none))))

  pub pair_then : (cs : List Cause) → refusal (pair_causes lowest n a b ++ cs) ≡ refusal cs
  unfolding pair_causes self_paired module_unknown cause refusal
  pair_then cs = rw (known.0, known.1)

  pub numbers_known : ((lowest ≤ a) × (a < lowest + n)) × ((lowest ≤ b) × (b < lowest + n)) × (a ≡ b → ⊥)
  unfolding is_module
  numbers_known = let k = simp tests at known.0 in (k.0, k.1, eqb-false a b known.1)

-- two modules that differ are not refused
pub pair_fit : (lowest n a b : ℕ) → lowest ≤ a → a < lowest + n → lowest ≤ b → b < lowest + n → (a ≡ b → ⊥) → refusal (pair_causes lowest n a b) ≡ 0
unfolding pair_causes module_unknown is_module self_paired cause refusal
pair_fit lowest n a b h l i m d =
    rw (le-leb lowest a h, lt-ltb a (lowest + n) l, le-leb lowest b i, lt-ltb b (lowest + n) m, ne_eqb a b d)

-- numbered from 0 both are below N
pub modules_known : (n a b : ℕ) → refusal (pair_causes 0 n a b) ≡ 0 → (a < n) × (b < n) × (a ≡ b → ⊥)
modules_known n a b taken = let k = numbers_known 0 n a b taken in (omega (arith, k.0), omega (arith, k.1), k.2)

-- a stop count of 1 to 1,000 is not refused
pub count_fit : (w : ℕ) → 1 ≤ w → w ≤ 1000 → refusal (count_causes w) ≡ 0
unfolding count_causes count_outside cause refusal
count_fit w h l = rw (le-leb 1 w h, le-leb w 1000 l)

-- a stop count that is not refused is 1 to 1,000; and the causes that stand behind decide
module _ (w : ℕ) (taken : refusal (count_causes w) ≡ 0) where
  inside : (leb 1 w && leb w 1000) ≡ true
  unfolding count_causes count_outside cause refusal
  inside = by_test (leb 1 w && leb w 1000) (λ t. t) (λ t. absurd (omega (arith, rw t at taken)))

  pub count_known : (1 ≤ w) × (w ≤ 1000)
  count_known = simp tests at inside

  pub count_then : (cs : List Cause) → refusal (count_causes w ++ cs) ≡ refusal cs
  unfolding count_causes count_outside cause refusal
  count_then cs = rw inside

-- a raised count that is not refused is at most 1,000
pub count_stays : (p : Pair) (w : ℕ) (ps : List Pair) → count_passes p w ps ≡ false → weight_of p ps + w ≤ 1000
unfolding count_passes
count_stays p w ps h = ltb-false 1000 (weight_of p ps + w) h

-- w stops of two modules that differ, smaller first, are a pair that a list may hold
pub stops_good : (n a b w : ℕ) → (a < n) × (b < n) × (a ≡ b → ⊥) → (1 ≤ w) × (w ≤ 1000) →
    let p = stops_of a b w in (ends_in_range n p ≡ true) × (smaller_first p ≡ true) × (weight_in_range p ≡ true)
unfolding stops_of ends_in_range smaller_first weight_in_range
stops_good n a b w t c =
    let d : a ≢ b = t.2 in
    (simp tests (omega (arith, t.0, t.1), omega (arith, t.0, t.1)), simp tests (omega arith), simp tests c)
