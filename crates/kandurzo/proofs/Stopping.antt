-- Lists of pairs beside each other, and the stops of some arrivals.
--   weights_some                 each count of a list is 1 or more
--   fewer_pairs, fewer_stops     a rising list whose pairs, or whose counts, another one has is no longer than that
--   remove_same                  a removal goes by the ends: the count does not matter
--   new_count                    of a new pair 19 never comes
--   row_stops, row_some          one stop after the other of a pair
-- Assumes nothing.
use mathlib.Core.Path.{◌≡◌, refl, sym, ◌∙◌}
use mathlib.Core.Bool.{Bool, true, false, ◌&&◌, not, cond}
use mathlib.Core.List.{List, [], ◌∷◌, ◌++◌}
use Prim.Native.Nat.{ℕ, zero, suc, ◌+◌, ◌≤◌}
use native.Mathlib.Omega.{arith}
use lib.Dec.{leb}
use lib.ListN.{length, replicate}
use borrow.Author.Tests.{leb-true, le-leb, le-ltb}
use Rattle.theory.specs.Basics.{all}
use Rattle.theory.specs.Lists.{Pair, pair, weight_in_range, rising}
use Rattle.theory.specs.Refusals.{cause, refusal}
use Rattle.theory.proofs.Tests.{tests, no, by_test}
use Rattle.pairs.specs.Held.{same_ends, is_held, weight_of, remove_pair, smaller_first_pair}
use Rattle.pairs.specs.Causes.{count_outside, count_causes, count_passes}
use Rattle.pairs.proofs.General.{all_weaker}
use Rattle.pairs.proofs.Order.{same_refl, same_same}
use Rattle.pairs.proofs.Rising.{rising_iff, same_not_held}
use Rattle.pairs.proofs.Changes.{remove_length, remove_rising, remove_held}
use Rattle.pairs.proofs.Causes.{count_known}
use Rattle.pairs.proofs.Keeps.{not_held_weight}
use Rattle.pairs.proofs.Raised.{weight_held}
use Rattle.pairfile.specs.Promise.{stops_named}
use Rattle.kandurzo.specs.Keeping.{some_stops}

-- each count of a list is 1 or more
pub weights_some : (ps : List Pair) → all weight_in_range ps ≡ true → all (λ r. leb 1 r.w) ps ≡ true
unfolding weight_in_range
weights_some ps e = all_weaker weight_in_range (λ r. leb 1 r.w) (λ x h. le-leb 1 x.w (simp tests at h).0) ps e

-- a rising list whose pairs another one has is no longer than that
pub fewer_pairs : (ps qs : List Pair) → rising ps ≡ true → rising qs ≡ true → ((r : Pair) → is_held r ps ≡ true → is_held r qs ≡ true) →
    length ps ≤ length qs
unfolding is_held
fewer_pairs [] qs e d h = omega arith
fewer_pairs (p ∷ ps) qs e d h =
    let there : is_held p qs ≡ true = h p (rw (same_refl p)) in
    let rest = fewer_pairs ps (remove_pair p qs) (simp rising_iff at e).1 (remove_rising p qs d)
    (λ r t. remove_held r p qs d ∙ by_test (same_ends r p) (λ u. no (sym (same_not_held r p ps e u) ∙ t)) (λ u. rw u (h r (rw (u, t))))) in
    omega (arith, rest, remove_length p qs there)

-- and so where its counts are no larger
pub fewer_stops : (ps qs : List Pair) → rising ps ≡ true → rising qs ≡ true → all (λ r. leb 1 r.w) ps ≡ true → all (λ r. leb 1 r.w) qs ≡ true →
    ((r : Pair) → weight_of r ps ≤ weight_of r qs) → length ps ≤ length qs
fewer_stops ps qs e d c k h =
    fewer_pairs ps qs e d
    (λ r t. weight_held r qs k ∙ le-leb 1 (weight_of r qs) (omega (arith, h r, leb-true 1 (weight_of r ps) (sym (weight_held r ps c) ∙ t))))

-- a removal goes by the ends
pub remove_same : (p q : Pair) (ps : List Pair) → same_ends p q ≡ true → remove_pair p ps ≡ remove_pair q ps
unfolding remove_pair
remove_same p q [] s = refl
remove_same p q (r ∷ rs) s = cc (same_same p q r s, remove_same p q rs s)

-- of a new pair the raised count passes 1,000 only where 18 comes first
pub new_count : (p : Pair) (w : ℕ) (ps : List Pair) (full : Bool) → is_held p ps ≡ false →
    refusal (count_causes w ++ (cause 19 (count_passes p w ps) ∷ cause 11 (not (is_held p ps) && full) ∷ []))
    ≡ refusal (count_causes w ++ (cause 11 full ∷ []))
unfolding count_causes count_passes refusal cause
new_count p w ps full new =
    by_test (count_outside w) (λ t. rw t)
    (λ t.
    let low = count_known w (rw t) in
    rw (t, le-ltb 1000 (weight_of p ps + w) (omega (arith, low, not_held_weight p ps new)), new))

-- one stop after the other of a pair
pub row_stops : (p : Pair) (a b w : ℕ) → stops_named p (replicate w (pair a b)) ≡ cond (same_ends p (smaller_first_pair a b)) w 0
unfolding stops_named pair
row_stops p a b zero = by_test (same_ends p (smaller_first_pair a b)) (λ t. rw t) (λ t. rw t)
row_stops p a b (suc w) =
    let ih = row_stops p a b w in
    by_test (same_ends p (smaller_first_pair a b)) (λ t. let ih' = rw t at ih in rw t (omega (arith, ih')))
    (λ t. let ih' = rw t at ih in rw t (omega (arith, ih')))

pub row_some : (a b w : ℕ) → all some_stops (replicate w (pair a b)) ≡ true
unfolding all some_stops pair
row_some a b zero = refl
row_some a b (suc w) = row_some a b w
