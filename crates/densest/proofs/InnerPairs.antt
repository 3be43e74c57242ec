-- The pairs inside a group, as a list: the inside counts and degrees that it gives.
--   inner_is_list                                         it is a list
--   inner_inside, inner_inside_same                       inside counts are no higher, and the same for a set within the group
--   inner_degree, inner_degree_same, inner_degree_none    degrees are no higher, the same within the group, and 0 outside it
-- Assumes nothing.
use Rattle.std.proofs.Common.{◌≡◌, ℕ, suc, ◌+◌, ◌≤◌, Bool, true, false, cond, ◌&&◌, ◌||◌, eqb, ltb, ◌⊎◌, List, [], ◌∷◌, length, sym, refl, ◌∙◌, inl, inr, ⊎_elim, arith}
use Rattle.theory.specs.Basics.{all}
use Rattle.theory.specs.Lists.{Pair, Pairs, stands_before, before_first, rising, is_list}
use Rattle.theory.specs.Groups.{is_in, holds_pair, inside_of, inside}
use Rattle.theory.specs.Leaving.{joins, degree_of, degree}
use Rattle.theory.proofs.Tests.{tests, no, or_cases, or_left, or_right, cond_le}
use Rattle.theory.proofs.Lists.{listed, is_listed}
use Rattle.theory.proofs.Groups.{Sub}
use Rattle.densest.specs.Inner.{inner_pairs, inner_list}

-- ---- it is a list

-- what holds of every pair holds of those inside
all_inner : (f : Pair → Bool) (ps : List Pair) (s : List ℕ) → all f ps ≡ true → all f (inner_pairs ps s) ≡ true
unfolding all inner_pairs
all_inner f [] s e = refl
all_inner f (p ∷ ps) s e = let e' = simp tests at e in pick (holds_pair s p) e'.0 (all_inner f ps s e'.1)
  where
    pick : (b : Bool) → f p ≡ true → all f (inner_pairs ps s) ≡ true → all f (cond b (p ∷ inner_pairs ps s) (inner_pairs ps s)) ≡ true
    pick true h k = simp tests (h, k)
    pick false h k = k

-- they are no more
length_inner : (ps : List Pair) (s : List ℕ) → length (inner_pairs ps s) ≤ length ps
unfolding inner_pairs
length_inner [] s = omega arith
length_inner (p ∷ ps) s = pick (holds_pair s p) (length_inner ps s)
  where
    pick : (b : Bool) → length (inner_pairs ps s) ≤ length ps → length (cond b (p ∷ inner_pairs ps s) (inner_pairs ps s)) ≤ suc (length ps)
    pick true h = omega arith
    pick false h = omega arith

-- by first and then second number, through a pair between
lexical_trans : (a b c d e f : ℕ) → (ltb a c || (eqb a c && ltb b d)) ≡ true → (ltb c e || (eqb c e && ltb d f)) ≡ true →
    (ltb a e || (eqb a e && ltb b f)) ≡ true
lexical_trans a b c d e f h k = go (or_cases (ltb a c) _ h) (or_cases (ltb c e) _ k)
  where
    go : (ltb a c ≡ true) ⊎ ((eqb a c && ltb b d) ≡ true) → (ltb c e ≡ true) ⊎ ((eqb c e && ltb d f) ≡ true) →
        (ltb a e || (eqb a e && ltb b f)) ≡ true
    go (inl x) (inl y) = or_left (ltb a e) _ (simp tests (omega (arith, simp tests at x, simp tests at y)))
    go (inl x) (inr y) = or_left (ltb a e) _ (simp tests (omega (arith, simp tests at x, simp tests at y)))
    go (inr x) (inl y) = or_left (ltb a e) _ (simp tests (omega (arith, simp tests at x, simp tests at y)))
    go (inr x) (inr y) =
        let x' = simp tests at x in
        let y' = simp tests at y in
        or_right (ltb a e) _ (simp tests (omega arith, omega arith))

-- what stands before the first of a rising list stands before the first of those inside
before_inner : (p : Pair) (ps : List Pair) (s : List ℕ) → before_first p ps ≡ true → rising ps ≡ true → before_first p (inner_pairs ps s) ≡ true
unfolding before_first stands_before rising inner_pairs
before_inner p [] s h e = refl
before_inner p (r ∷ rs) s h e =
    let e' = simp tests at e in
    pick (holds_pair s r) (before_inner p rs s (next rs e'.0) e'.1)
  where
    next : (qs : List Pair) → before_first r qs ≡ true → before_first p qs ≡ true
    next [] k = refl
    next (q ∷ qs) k = lexical_trans p.a p.b r.a r.b q.a q.b h k

    pick : (b : Bool) → before_first p (inner_pairs rs s) ≡ true → before_first p (cond b (r ∷ inner_pairs rs s) (inner_pairs rs s)) ≡ true
    pick true k = h
    pick false k = k

rising_inner : (ps : List Pair) (s : List ℕ) → rising ps ≡ true → rising (inner_pairs ps s) ≡ true
unfolding rising inner_pairs
rising_inner [] s e = refl
rising_inner (p ∷ ps) s e =
    let e' = simp tests at e in
    pick (holds_pair s p) (before_inner p ps s e'.0 e'.1) (rising_inner ps s e'.1)
  where
    pick : (b : Bool) → before_first p (inner_pairs ps s) ≡ true → rising (inner_pairs ps s) ≡ true →
        rising (cond b (p ∷ inner_pairs ps s) (inner_pairs ps s)) ≡ true
    pick true h k = simp tests (h, k)
    pick false h k = k

-- the pairs inside a group make a list
pub inner_is_list : (g : Pairs) (s : List ℕ) → is_list g ≡ true → is_list (inner_list g s) ≡ true
unfolding inner_list
inner_is_list g s l =
    let h = listed g l in
    is_listed (inner_list g s)
    (record {
      some = h.some;
      few = h.few;
      short = omega (arith, h.short, length_inner g.pairs s);
      ends = all_inner _ g.pairs s h.ends;
      first = all_inner _ g.pairs s h.first;
      weights = all_inner _ g.pairs s h.weights;
      rises = rising_inner g.pairs s h.rises;
    })

-- ---- inside counts and degrees

-- the pairs that pass a test, each as often as it counts
sum_of : (f : Pair → Bool) → List Pair → ℕ
sum_of f [] = 0
sum_of f (p ∷ ps) = cond (f p) p.w 0 + sum_of f ps

-- inside counts and degrees are such sums
inside_sum : (ps : List Pair) (t : List ℕ) → inside_of ps t ≡ sum_of (holds_pair t) ps
unfolding inside_of sum_of
inside_sum [] t = refl
inside_sum (p ∷ ps) t = omega (arith, inside_sum ps t)

degree_sum : (ps : List Pair) (t : List ℕ) (v : ℕ) → degree_of ps t v ≡ sum_of (joins t v) ps
unfolding degree_of sum_of
degree_sum [] t v = refl
degree_sum (p ∷ ps) t v = omega (arith, degree_sum ps t v)

-- a stricter test counts no more
sum_le : (f h : Pair → Bool) → ((p : Pair) → f p ≡ true → h p ≡ true) → (ps : List Pair) → sum_of f ps ≤ sum_of h ps
unfolding sum_of
sum_le f h k [] = omega arith
sum_le f h k (p ∷ ps) = omega (arith, cond_le (f p) (h p) p.w (k p), sum_le f h k ps)

-- a test that nothing passes counts nothing
sum_none : (ps : List Pair) → sum_of (λ p. false) ps ≡ 0
unfolding sum_of
sum_none [] = refl
sum_none (p ∷ ps) = omega (arith, sum_none ps)

module _ (f : Pair → Bool) (s : List ℕ) where
  -- a pair counts where it is inside the group, and passes
  sum_inner : (ps : List Pair) → sum_of f (inner_pairs ps s) ≡ sum_of (λ p. holds_pair s p && f p) ps
  unfolding sum_of inner_pairs
  sum_inner [] = refl
  sum_inner (p ∷ ps) = pick (holds_pair s p) (sum_inner ps)
    where
      pick : (b : Bool) → sum_of f (inner_pairs ps s) ≡ sum_of (λ q. holds_pair s q && f q) ps →
          sum_of f (cond b (p ∷ inner_pairs ps s) (inner_pairs ps s)) ≡ cond (b && f p) p.w 0 + sum_of (λ q. holds_pair s q && f q) ps
      pick true h = omega arith
      pick false h = omega arith

  -- no more
  sum_inner_le : (ps : List Pair) → sum_of f (inner_pairs ps s) ≤ sum_of f ps
  sum_inner_le ps = omega (arith, sum_inner ps, sum_le (λ p. holds_pair s p && f p) f (λ p e. (simp tests at e).1) ps)

  -- the same, where all that pass are inside
  sum_inner_same : (ps : List Pair) → ((p : Pair) → f p ≡ true → holds_pair s p ≡ true) → sum_of f (inner_pairs ps s) ≡ sum_of f ps
  sum_inner_same ps k =
      omega (arith, sum_inner_le ps, sum_inner ps, sum_le f (λ p. holds_pair s p && f p) (λ p e. simp tests (k p e, e)) ps)

  -- none, where none that passes is
  sum_inner_none : (ps : List Pair) → ((p : Pair) → f p ≡ true → holds_pair s p ≡ true → ⊥) → sum_of f (inner_pairs ps s) ≡ 0
  sum_inner_none ps k =
      omega (
        arith,
        sum_inner ps,
        sum_le (λ p. holds_pair s p && f p) (λ p. false) (λ p e. let e' = simp tests at e in absurd (k p e'.1 e'.0)) ps,
        sum_none ps,
      )

-- no set has more pairs inside
pub inner_inside : (g : Pairs) (s t : List ℕ) → inside (inner_list g s) t ≤ inside g t
unfolding inside inner_list
inner_inside g s t = simp inside_sum (sum_inner_le (holds_pair t) s g.pairs)

-- a set within the group has as many
pub inner_inside_same : (g : Pairs) (s t : List ℕ) → Sub t s → inside (inner_list g s) t ≡ inside g t
unfolding inside inner_list holds_pair
inner_inside_same g s t h =
    simp inside_sum
    (sum_inner_same (holds_pair t) s g.pairs (λ p e. let e' = simp tests at e in simp tests (h p.a e'.0, h p.b e'.1)))

-- no module carries more
pub inner_degree : (g : Pairs) (s t : List ℕ) (v : ℕ) → degree (inner_list g s) t v ≤ degree g t v
unfolding degree inner_list
inner_degree g s t v = simp degree_sum (sum_inner_le (joins t v) s g.pairs)

-- a pair that joins v to a module of t has one end at v and the other in t
joins_ends : (t : List ℕ) (v : ℕ) (p : Pair) → joins t v p ≡ true →
    ((p.a ≡ v) × (is_in t p.b ≡ true)) ⊎ ((p.b ≡ v) × (is_in t p.a ≡ true))
unfolding joins
joins_ends t v p e = ⊎_elim (λ h. inl (simp tests at h)) (λ h. inr (simp tests at h)) (or_cases (eqb p.a v && is_in t p.b) _ e)

-- one of the group carries as much among modules within it
pub inner_degree_same : (g : Pairs) (s t : List ℕ) (v : ℕ) → Sub t s → is_in s v ≡ true → degree (inner_list g s) t v ≡ degree g t v
unfolding degree inner_list holds_pair
inner_degree_same g s t v h i =
    simp degree_sum
    (sum_inner_same (joins t v) s g.pairs (λ p e.
    ⊎_elim (λ x. simp tests (rw x.0 i, h p.b x.1)) (λ x. simp tests (h p.a x.1, rw x.0 i)) (joins_ends t v p e)))

-- one outside the group carries nothing
pub inner_degree_none : (g : Pairs) (s t : List ℕ) (v : ℕ) → is_in s v ≡ false → degree (inner_list g s) t v ≡ 0
unfolding degree inner_list holds_pair
inner_degree_none g s t v o =
    simp degree_sum
    (sum_inner_none (joins t v) s g.pairs (λ p e i.
    let i' = simp tests at i in
    ⊎_elim (λ x. no (sym o ∙ (rw x.0 at i'.0))) (λ x. no (sym o ∙ (rw x.0 at i'.1))) (joins_ends t v p e)))
