-- The order of pairs, by first and then second number, is total: of two pairs one stands before the other, or they are the same pair.
--   before_iff, same_iff    the tests, as facts about the numbers
--   before_trans            what stands before a pair that stands before another stands before that one
--   before_not_after, before_not_same, same_not_before    what excludes what
--   same_refl, same_sym, same_before, same_same    the same pair behaves alike
--   order_cases             two pairs compared, with every test decided
-- Assumes nothing.
use mathlib.Core.Path.{◌≡◌, refl, sym, ◌∙◌}
use mathlib.Core.Bool.{Bool, true, false, ◌&&◌, ◌||◌}
use mathlib.Core.Logic.{◌↔◌}
use Prim.Native.Nat.{ℕ, ◌≤◌, ◌<◌}
use native.Mathlib.Omega.{arith}
use lib.Dec.{ltb, eqb}
use borrow.Author.Tests.{ltb-true, ltb-false, eqb-false}
use Rattle.theory.specs.Lists.{Pair, stands_before}
use Rattle.theory.proofs.Tests.{tests, no, fails}
use Rattle.pairs.specs.Held.{same_ends}

-- by first number, and of equals by second
lexical : (a b c d : ℕ) → ((ltb a c || (eqb a c && ltb b d)) ≡ true) ↔ ((a ≤ c) × (c ≤ a → b < d))
lexical a b c d = go (ltb a c) refl
  where
    go : (t : Bool) → ltb a c ≡ t → ((t || (eqb a c && ltb b d)) ≡ true) ↔ ((a ≤ c) × (c ≤ a → b < d))
    go true e = (λ _. (omega (arith, ltb-true a c e), λ l. absurd (omega (arith, ltb-true a c e))), λ _. refl)
    go false e = (
      λ h. (omega (arith, (simp tests at h).0), λ _. (simp tests at h).1),
      λ h. simp tests (omega (arith, ltb-false a c e, h.0), h.1 (ltb-false a c e)),
    )

-- standing before, and being the same, as facts about the numbers
pub before_iff : (p r : Pair) → (stands_before p r ≡ true) ↔ ((p.a ≤ r.a) × (r.a ≤ p.a → p.b < r.b))
unfolding stands_before
before_iff p r = lexical p.a p.b r.a r.b

pub same_iff : (p r : Pair) → (same_ends p r ≡ true) ↔ ((p.a ≡ r.a) × (p.b ≡ r.b))
unfolding same_ends
same_iff p r = (λ h. simp tests at h, λ h. simp tests h)

ruleset order = (before_iff, same_iff)

-- and where it does not
not_lexical : (a b c d : ℕ) → (ltb a c || (eqb a c && ltb b d)) ≡ false → (c ≤ a) × (a ≤ c → d ≤ b)
not_lexical a b c d = go (ltb a c) refl (eqb a c) refl
  where
    go : (t : Bool) → ltb a c ≡ t → (u : Bool) → eqb a c ≡ u → (t || (u && ltb b d)) ≡ false → (c ≤ a) × (a ≤ c → d ≤ b)
    go true e u i h = no (sym h)
    go false e true i h = (ltb-false a c e, λ _. ltb-false b d h)
    go false e false i h = (ltb-false a c e, λ l. absurd (eqb-false a c i (omega (arith, ltb-false a c e))))

not_before : (p r : Pair) → stands_before p r ≡ false → (r.a ≤ p.a) × (p.a ≤ r.a → r.b ≤ p.b)
unfolding stands_before
not_before p r h = not_lexical p.a p.b r.a r.b h

-- what stands before a pair that stands before another stands before that one
pub before_trans : (p q r : Pair) → stands_before p q ≡ true → stands_before q r ≡ true → stands_before p r ≡ true
before_trans p q r h k =
    let h' = simp order at h in
    let k' = simp order at k in
    simp order (omega arith, λ l. omega (arith, h'.1 (omega arith), k'.1 (omega arith)))

-- no two pairs stand before each other
pub before_not_after : (p r : Pair) → stands_before p r ≡ true → stands_before r p ≡ false
before_not_after p r h =
    fails (stands_before r p) (λ k.
    let h' = simp order at h in
    let k' = simp order at k in
    omega (arith, h'.1 (omega arith), k'.1 (omega arith)))

-- nor does a pair stand before itself
pub before_not_same : (p r : Pair) → stands_before p r ≡ true → same_ends p r ≡ false
before_not_same p r h =
    fails (same_ends p r) (λ k.
    let h' = simp order at h in
    let k' = simp order at k in
    omega (arith, h'.1 (omega arith)))

pub same_not_before : (p r : Pair) → same_ends p r ≡ true → stands_before p r ≡ false
same_not_before p r k =
    fails (stands_before p r) (λ h.
    let h' = simp order at h in
    let k' = simp order at k in
    omega (arith, h'.1 (omega arith)))

-- being the same pair goes both ways
pub same_sym : (p r : Pair) → same_ends p r ≡ true → same_ends r p ≡ true
same_sym p r h = let h' = simp order at h in simp order (omega arith)

pub same_refl : (p : Pair) → same_ends p p ≡ true
same_refl p = simp order (refl, refl)

-- the same pair stands before the same pairs, and is the same as the same pairs
pub same_before : (p r x : Pair) → same_ends p r ≡ true → stands_before p x ≡ stands_before r x
unfolding stands_before
same_before p r x h = let h' = simp order at h in rw (h'.0, h'.1)

pub same_same : (p r x : Pair) → same_ends p r ≡ true → same_ends p x ≡ same_ends r x
unfolding same_ends
same_same p r x h = let h' = simp same_iff at h in rw (h'.0, h'.1)

-- of two pairs one stands before the other, or they are the same; in each case every test is decided
pub order_cases : {A : Type 0} (p r : Pair) →
    (stands_before p r ≡ true → stands_before r p ≡ false → same_ends p r ≡ false → A) →
    (stands_before p r ≡ false → stands_before r p ≡ false → same_ends p r ≡ true → A) →
    (stands_before p r ≡ false → stands_before r p ≡ true → same_ends p r ≡ false → A) → A
order_cases {A} p r lower level higher = go (stands_before p r) refl (stands_before r p) refl
  where
    go : (t : Bool) → stands_before p r ≡ t → (u : Bool) → stands_before r p ≡ u → A
    go true e u d = lower e (before_not_after p r e) (before_not_same p r e)
    go false e true d = higher e d (fails (same_ends p r) (λ k. no (sym (same_not_before r p (same_sym p r k)) ∙ d)))
    go false e false d =
        let e' = not_before p r e in
        let d' = not_before r p d in
        level e d (simp order (omega arith, omega (arith, e'.1 (omega arith), d'.1 (omega arith))))
