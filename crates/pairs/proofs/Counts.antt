-- A list with some stops more of a pair, and with some less.
--   raise_held, raise_weight     that pair is held, with so much more, and nothing else has changed
--   raise_rising, raise_all      the order is kept, and every test that goes by the ends
--   raise_light, raise_counted   counts stay bounded, and above 0
--   raise_length                 at most one pair more
--   raise_swap                   two raises commute
--   lower_raise                  lowering undoes raising
-- Assumes nothing.
use mathlib.Core.Path.{◌≡◌, refl, sym, ap, ◌∙◌}
use mathlib.Core.Bool.{Bool, true, ◌||◌, cond}
use mathlib.Core.List.{List, [], ◌∷◌}
use Prim.Native.Nat.{ℕ, suc, ◌+◌, ◌≤◌}
use native.Mathlib.Omega.{arith}
use lib.Dec.{leb}
use lib.ListN.{length}
use borrow.Author.Tests.{lt-leb, le-leb}
use Rattle.theory.specs.Basics.{all}
use Rattle.theory.specs.Lists.{Pair, stands_before, rising}
use Rattle.theory.proofs.Tests.{tests, no, fails, by_test}
use Rattle.pairs.specs.Held.{same_ends, is_held, weight_of, heavier, lighter, raise_pair, lower_pair}
use Rattle.pairs.proofs.General.{all_weaker}
use Rattle.pairs.proofs.Order.{same_iff, same_refl, same_sym, same_same, order_cases}
use Rattle.pairs.proofs.Rising.{rising_iff, lower_all, lower_not_held}
use Rattle.pairs.proofs.Keeps.{not_held_weight, same_pair, rising_alone}
use Rattle.pairs.proofs.Changes.{or_shuffle}

-- a pair is the same with more stops
heavier_same : (r : Pair) (w : ℕ) (q : Pair) → same_ends r (heavier w q) ≡ same_ends r q
unfolding same_ends heavier
heavier_same r w q = refl

heavier_before : (r : Pair) (w : ℕ) (q : Pair) → stands_before r (heavier w q) ≡ stands_before r q
unfolding stands_before heavier
heavier_before r w q = refl

before_heavier : (r : Pair) (w : ℕ) (q : Pair) → stands_before (heavier w q) r ≡ stands_before q r
unfolding stands_before heavier
before_heavier r w q = refl

-- that pair is held, and nothing else has changed
pub raise_held : (r p : Pair) (ps : List Pair) → is_held r (raise_pair p ps) ≡ (same_ends r p || is_held r ps)
unfolding raise_pair is_held
raise_held r p [] = refl
raise_held r p (q ∷ qs) =
    by_test (same_ends p q)
    (λ t. rw (t, heavier_same r p.w q)
    (by_test (same_ends r q)
    (λ u. rw (u, same_sym p r (same_same p q r t ∙ same_sym r q u)))
    (λ u. rw (u, fails (same_ends r p) (λ k. no (sym u ∙ same_same r p q k ∙ t))))))
    (λ t. by_test (stands_before q p)
    (λ u. rw (t, u) (ap (λ (b : Bool). same_ends r q || b) (raise_held r p qs) ∙ or_shuffle (same_ends r q) (same_ends r p) (is_held r qs)))
    (λ u. rw (t, u)))

-- a test that goes by the ends, of every pair
pub raise_all : (f : Pair → Bool) (p : Pair) (ps : List Pair) → ((w : ℕ) (r : Pair) → f (heavier w r) ≡ f r) → f p ≡ true → all f ps ≡ true →
    all f (raise_pair p ps) ≡ true
unfolding raise_pair all
raise_all f p [] i h e = simp tests (h, refl)
raise_all f p (r ∷ rs) i h e =
    let e' = simp tests at e in
    by_test (same_ends p r)
    (λ t. rw t (simp tests (i p.w r ∙ e'.0, e'.1)))
    (λ t. by_test (stands_before r p) (λ u. rw (t, u) (simp tests (e'.0, raise_all f p rs i h e'.1))) (λ u. rw (t, u) (simp tests (h, e'))))

-- where no count is above k, none is above k and p's together
pub raise_light : (k : ℕ) (p : Pair) (ps : List Pair) → all (λ r. leb r.w k) ps ≡ true → all (λ r. leb r.w (k + p.w)) (raise_pair p ps) ≡ true
unfolding raise_pair all heavier
raise_light k p [] e = simp tests (omega arith, refl)
raise_light k p (r ∷ rs) e =
    let e' = simp tests at e in
    let rest : all (λ r. leb r.w (k + p.w)) rs ≡ true =
    all_weaker (λ r. leb r.w k) (λ r. leb r.w (k + p.w)) (λ x h. le-leb x.w (k + p.w) (omega (arith, (simp tests at h)))) rs e'.1 in
    by_test (same_ends p r)
    (λ t. rw t (simp tests (omega (arith, e'.0), rest)))
    (λ t. by_test (stands_before r p)
    (λ u. rw (t, u) (simp tests (omega (arith, e'.0), raise_light k p rs e'.1)))
    (λ u. rw (t, u) (simp tests (omega arith, (omega (arith, e'.0), rest)))))

-- each count stays at 1 or more
pub raise_counted : (p : Pair) (ps : List Pair) → 1 ≤ p.w → all (λ r. leb 1 r.w) ps ≡ true → all (λ r. leb 1 r.w) (raise_pair p ps) ≡ true
unfolding raise_pair all heavier
raise_counted p [] h e = simp tests (h, refl)
raise_counted p (r ∷ rs) h e =
    let e' = simp tests at e in
    by_test (same_ends p r)
    (λ t. rw t (simp tests (omega (arith, e'.0), e'.1)))
    (λ t. by_test (stands_before r p) (λ u. rw (t, u) (simp tests (e'.0, raise_counted p rs h e'.1))) (λ u. rw (t, u) (simp tests (h, e'))))

-- at most one pair more
pub raise_length : (p : Pair) (ps : List Pair) → length (raise_pair p ps) ≤ suc (length ps)
unfolding raise_pair
raise_length p [] = omega arith
raise_length p (r ∷ rs) =
    by_test (same_ends p r) (λ t. rw t (omega arith))
    (λ t. by_test (stands_before r p) (λ u. rw (t, u) (omega (arith, raise_length p rs))) (λ u. rw (t, u) (omega arith)))

-- the order is kept
pub raise_rising : (p : Pair) (ps : List Pair) → rising ps ≡ true → rising (raise_pair p ps) ≡ true
unfolding raise_pair all rising
raise_rising p [] e = simp rising_iff (refl, refl)
raise_rising p (r ∷ rs) e =
    let e' = simp rising_iff at e in
    order_cases p r
    (λ l g s. rw (s, g) (simp rising_iff (simp tests (l, lower_all p r rs e l), e')))
    (λ l g s. rw s (simp rising_iff
    (all_weaker (stands_before r) (stands_before (heavier p.w r)) (λ x h. before_heavier x p.w r ∙ h) rs e'.0, e'.1)))
    (λ l g s. rw (s, g) (simp rising_iff
    (raise_all (stands_before r) p rs (λ w q. heavier_before r w q) g e'.0, raise_rising p rs e'.1)))

-- the same pair stands before the same pairs
lower_like : (r p q : Pair) → same_ends r p ≡ true → stands_before p q ≡ true → stands_before r q ≡ true
unfolding stands_before
lower_like r p q u l = let u' = simp same_iff at u in rw (u'.0, u'.1) l

-- the counts: p's grows, and no other
pub raise_weight : (r p : Pair) (ps : List Pair) → rising ps ≡ true → weight_of r (raise_pair p ps) ≡ cond (same_ends r p) p.w 0 + weight_of r ps
unfolding raise_pair weight_of heavier
raise_weight r p [] e = by_test (same_ends r p) (λ t. rw t (omega arith)) (λ t. rw t)
raise_weight r p (q ∷ qs) e =
    order_cases p q
    (λ l g s. rw (s, g) (by_test (same_ends r p)
    (λ u.
    let z = not_held_weight r (q ∷ qs) (lower_not_held r q qs e (lower_like r p q u l)) in
    rw u (omega (arith, z)))
    (λ u. rw u (omega arith))))
    (λ l g s. rw (s, heavier_same r p.w q) (by_test (same_ends r q)
    (λ u. rw (u, same_sym p r (same_same p q r s ∙ same_sym r q u)) (omega arith))
    (λ u. rw (u, fails (same_ends r p) (λ k. no (sym u ∙ same_same r p q k ∙ s))) (omega arith))))
    (λ l g s. rw (s, g) (by_test (same_ends r q)
    (λ u. rw (u, fails (same_ends r p) (λ k. no (sym s ∙ same_sym q p (same_same q r p (same_sym r q u) ∙ k)))) (omega arith))
    (λ u. rw u (raise_weight r p qs (simp rising_iff at e).1))))

-- two raises commute
pub raise_swap : (p r : Pair) (ps : List Pair) → rising ps ≡ true → raise_pair p (raise_pair r ps) ≡ raise_pair r (raise_pair p ps)
raise_swap p r ps e =
    let f = raise_rising r ps e in
    let g = raise_rising p ps e in
    rising_alone (raise_pair p (raise_pair r ps)) (raise_pair r (raise_pair p ps)) (raise_rising p (raise_pair r ps) f) (raise_rising r (raise_pair p ps) g)
    (λ x. simp raise_held (or_shuffle (same_ends x p) (same_ends x r) (is_held x ps)))
    (λ x. omega (arith, raise_weight x p (raise_pair r ps) f, raise_weight x r ps e, raise_weight x r (raise_pair p ps) g, raise_weight x p ps e))

-- a raised pair lowered again
lowered_again : (p r : Pair) (rs : List Pair) → 1 ≤ r.w →
    cond (leb (heavier p.w r).w p.w) rs (lighter p.w (heavier p.w r) ∷ rs) ≡ r ∷ rs
unfolding heavier lighter
lowered_again p r rs h =
    rw (lt-leb (r.w + p.w) p.w (omega arith))
    (ap (λ (x : Pair). x ∷ rs) (same_pair (lighter p.w (heavier p.w r)) r refl refl (omega arith)))

-- lowering undoes raising, where each count is 1 or more
pub lower_raise : (p : Pair) (ps : List Pair) → all (λ r. leb 1 r.w) ps ≡ true → lower_pair p (raise_pair p ps) ≡ ps
unfolding raise_pair lower_pair all
lower_raise p [] e = rw (same_refl p, le-leb p.w p.w (omega arith))
lower_raise p (r ∷ rs) e =
    let e' = simp tests at e in
    by_test (same_ends p r)
    (λ t. rw (t, heavier_same p p.w r, t) (lowered_again p r rs e'.0))
    (λ t. by_test (stands_before r p)
    (λ u. rw (t, u, t) (ap (λ (l : List Pair). r ∷ l) (lower_raise p rs e'.1)))
    (λ u. rw (t, u, same_refl p, le-leb p.w p.w (omega arith))))
