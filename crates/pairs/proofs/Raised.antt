-- A list with some stops more of a pair, as add leaves it.
--   raise_long, raise_more       a held pair leaves as many pairs, a new one is one more
--   raise_weights, raise_list    the list as it is held, where the count does not pass 1,000
--   raise_twice, raise_stops     two raises of one pair are one raise of the sum
--   stops_raised, stops_counted  some stops of two modules more: their pair is held, its count grows, and nothing else has changed
--   insert_weight, remove_weight the counts with a pair more, and a pair less
--   weight_held, weights_alone   rising lists whose counts are the same, each 1 or more, are one list
-- Assumes nothing.
use mathlib.Core.Path.{◌≡◌, refl, sym, ap, ◌∙◌}
use mathlib.Core.Bool.{true, false, ◌||◌, cond}
use mathlib.Core.List.{List, [], ◌∷◌}
use Prim.Native.Nat.{ℕ, suc, ◌+◌, ◌≤◌, ◌<◌}
use native.Mathlib.Omega.{arith}
use lib.Dec.{leb}
use lib.ListN.{length}
use Rattle.theory.specs.Basics.{all}
use Rattle.theory.specs.Lists.{Pair, Pairs, pair, stands_before, ends_in_range, smaller_first, weight_in_range, rising, is_list}
use Rattle.theory.proofs.Tests.{tests, no, fails, by_test}
use Rattle.theory.proofs.Lists.{listed, is_listed}
use Rattle.pairs.specs.Held.{same_ends, is_held, weight_of, insert_pair, remove_pair, heavier, raise_pair, smaller_first_pair, stops_of}
use Rattle.pairs.proofs.Order.{same_refl, same_sym, same_same, order_cases}
use Rattle.pairs.proofs.Ends.{after_same}
use Rattle.pairs.proofs.Rising.{rising_iff, lower_not_held, same_not_held}
use Rattle.pairs.proofs.Changes.{insert_length}
use Rattle.pairs.proofs.Keeps.{not_held_weight, same_pair, rising_alone}
use Rattle.pairs.proofs.Counts.{raise_held, raise_all, raise_rising, raise_weight}
use Rattle.pairs.proofs.Places.{raise_new}

-- a held pair leaves as many pairs
pub raise_long : (p : Pair) (ps : List Pair) → rising ps ≡ true → is_held p ps ≡ true → length (raise_pair p ps) ≡ length ps
unfolding raise_pair is_held
raise_long p [] e h = no h
raise_long p (r ∷ rs) e h =
    order_cases p r (λ l g s. no (sym (lower_not_held p r rs e l) ∙ h)) (λ l g s. rw s)
    (λ l g s. rw (s, g) (ap suc (raise_long p rs (simp rising_iff at e).1 (rw s at h))))

-- and a new one is one more
pub raise_more : (p : Pair) (ps : List Pair) → is_held p ps ≡ false → length (raise_pair p ps) ≡ suc (length ps)
raise_more p ps h = rw (raise_new p ps h) (insert_length p ps)

-- no count passes 1,000 where that of the pair does not
pub raise_weights : (p : Pair) (ps : List Pair) → 1 ≤ p.w → weight_of p ps + p.w ≤ 1000 → all weight_in_range ps ≡ true →
    all weight_in_range (raise_pair p ps) ≡ true
unfolding raise_pair weight_of all weight_in_range heavier
raise_weights p [] h l e = simp tests ((h, omega arith), refl)
raise_weights p (r ∷ rs) h l e =
    let e' = simp tests at e in
    by_test (same_ends p r)
    (λ t. let l' = rw t at l in rw t (simp tests ((omega arith, omega arith), e'.1)))
    (λ t.
    let l' = rw t at l in
    by_test (stands_before r p)
    (λ u. rw (t, u) (simp tests (e'.0, raise_weights p rs h l' e'.1)))
    (λ u. rw (t, u) (simp tests ((h, omega arith), e'))))

-- the list stays as it is held: 13 never follows a taken add
pub raise_list : (g : Pairs) (p : Pair) → is_list g ≡ true → ends_in_range g.n p ≡ true → smaller_first p ≡ true →
    1 ≤ p.w → weight_of p g.pairs + p.w ≤ 1000 → (is_held p g.pairs ≡ false → length g.pairs < 4096) →
    is_list (record { n = g.n; pairs = raise_pair p g.pairs }) ≡ true
unfolding ends_in_range smaller_first heavier
raise_list g p e r f w c room =
    let k = listed g e in
    let ps = g.pairs in
    is_listed (record { n = g.n; pairs = raise_pair p ps }) record {
      some = k.some;
      few = k.few;
      short = by_test (is_held p ps)
          (λ t. omega (arith, raise_long p ps k.rises t, k.short))
          (λ t. omega (arith, raise_more p ps t, room t));
      ends = raise_all (ends_in_range g.n) p ps (λ w r. refl) r k.ends;
      first = raise_all smaller_first p ps (λ w r. refl) f k.first;
      weights = raise_weights p ps w c k.weights;
      rises = raise_rising p ps k.rises;
    }

-- a pair made heavier twice is as heavy as by the sum at once
heavier_twice : (v w : ℕ) (r : Pair) → heavier v (heavier w r) ≡ heavier (w + v) r
unfolding heavier
heavier_twice v w r = same_pair (heavier v (heavier w r)) (heavier (w + v) r) refl refl (omega arith)

-- two raises of one pair are one raise of the sum
pub raise_twice : (q p : Pair) (ps : List Pair) → same_ends q p ≡ true → raise_pair q (raise_pair p ps) ≡ raise_pair (heavier q.w p) ps
unfolding raise_pair same_ends stands_before heavier
raise_twice q p [] s = rw s
raise_twice q p (r ∷ rs) s =
    by_test (same_ends p r)
    (λ t. rw (t, same_same q p r s ∙ t) (ap (λ (x : Pair). x ∷ rs) (heavier_twice q.w p.w r)))
    (λ t. by_test (stands_before r p)
    (λ u. rw (t, u, same_same q p r s ∙ t, after_same q p r s ∙ u) (ap (λ (z : List Pair). r ∷ z) (raise_twice q p rs s)))
    (λ u. rw (t, u, s)))

-- so of some stops of two modules, and then some more
pub raise_stops : (a b v w : ℕ) (ps : List Pair) →
    raise_pair (stops_of a b v) (raise_pair (stops_of a b w) ps) ≡ raise_pair (stops_of a b (w + v)) ps
unfolding stops_of heavier same_ends
raise_stops a b v w ps = raise_twice (stops_of a b v) (stops_of a b w) ps (same_refl (stops_of a b w))

-- some stops of two modules more: their pair is held, and nothing else has changed
pub stops_raised : (r : Pair) (a b w : ℕ) (ps : List Pair) →
    is_held r (raise_pair (stops_of a b w) ps) ≡ (same_ends r (smaller_first_pair a b) || is_held r ps)
unfolding stops_of smaller_first_pair pair same_ends
stops_raised r a b w ps = raise_held r (stops_of a b w) ps

-- and its count grows
pub stops_counted : (r : Pair) (a b w : ℕ) (ps : List Pair) → rising ps ≡ true →
    weight_of r (raise_pair (stops_of a b w) ps) ≡ cond (same_ends r (smaller_first_pair a b)) w 0 + weight_of r ps
unfolding stops_of smaller_first_pair pair same_ends
stops_counted r a b w ps e = raise_weight r (stops_of a b w) ps e

-- the counts with a pair more, if that was not held
pub insert_weight : (r p : Pair) (ps : List Pair) → rising ps ≡ true → is_held p ps ≡ false →
    weight_of r (insert_pair p ps) ≡ cond (same_ends r p) p.w 0 + weight_of r ps
insert_weight r p ps e h = ap (weight_of r) (sym (raise_new p ps h)) ∙ raise_weight r p ps e

-- and with a pair less
pub remove_weight : (r p : Pair) (ps : List Pair) → rising ps ≡ true → weight_of r (remove_pair p ps) ≡ cond (same_ends r p) 0 (weight_of r ps)
unfolding remove_pair weight_of
remove_weight r p [] e = by_test (same_ends r p) (λ t. rw t) (λ t. rw t)
remove_weight r p (q ∷ qs) e =
    let ih = remove_weight r p qs (simp rising_iff at e).1 in
    by_test (same_ends p q)
    (λ t. by_test (same_ends r p)
    (λ u. rw (t, u) (not_held_weight r qs (same_not_held r q qs e (same_same r p q u ∙ t))))
    (λ u. rw (t, u, fails (same_ends r q) (λ k. no (sym u ∙ same_sym p r (same_same p q r t ∙ same_sym r q k))))))
    (λ t. by_test (same_ends r p) (λ u. rw (t, same_same r p q u ∙ t, ih, u)) (λ u. rw (t, u, ih, u)))

-- where each count is 1 or more a pair is held exactly where it counts
pub weight_held : (p : Pair) (ps : List Pair) → all (λ r. leb 1 r.w) ps ≡ true → is_held p ps ≡ leb 1 (weight_of p ps)
unfolding is_held weight_of all
weight_held p [] e = refl
weight_held p (r ∷ rs) e =
    let e' = simp tests at e in
    by_test (same_ends p r) (λ t. rw t (sym (simp tests e'.0))) (λ t. rw t (weight_held p rs e'.1))

-- so rising lists with the same counts are one list
pub weights_alone : (ps qs : List Pair) → rising ps ≡ true → rising qs ≡ true → all (λ r. leb 1 r.w) ps ≡ true → all (λ r. leb 1 r.w) qs ≡ true →
    ((r : Pair) → weight_of r ps ≡ weight_of r qs) → ps ≡ qs
weights_alone ps qs e d c k h =
    rising_alone ps qs e d (λ r. weight_held r ps c ∙ ap (leb 1) (h r) ∙ sym (weight_held r qs k)) h
