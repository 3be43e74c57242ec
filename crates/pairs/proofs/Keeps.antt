-- What add and remove keep: the list stays as described, and the order in which pairs arrived leaves no trace in it.
--   insert_list, remove_list    the list as it is held, with a pair more and with a pair less
--   not_held_weight, same_pair  a pair that is not held counts nothing; pairs are equal where their numbers are
--   rising_alone                two rising lists that hold the same pairs with the same weights are one list
--   counts_once, ones_alone     so are two that hold the same pairs, each counting once
-- Assumes nothing.
use mathlib.Core.Path.{◌≡◌, refl, sym, ap, ◌∙◌}
use mathlib.Core.Bool.{Bool, true, false, cond}
use mathlib.Core.List.{List, [], ◌∷◌}
use Prim.Native.Nat.{◌<◌}
use native.Mathlib.Omega.{arith}
use lib.Dec.{eqb}
use lib.ListN.{length}
use Rattle.theory.specs.Basics.{all}
use Rattle.theory.specs.Lists.{Pair, Pairs, ends_in_range, smaller_first, weight_in_range, rising, is_list}
use Rattle.theory.proofs.Tests.{tests, no, by_test}
use Rattle.theory.proofs.Lists.{listed, is_listed}
use Rattle.pairs.specs.Held.{same_ends, is_held, weight_of, with_pair, without_pair}
use Rattle.pairs.proofs.Order.{same_iff, same_refl, order_cases}
use Rattle.pairs.proofs.Rising.{rising_iff, lower_not_held, same_not_held}
use Rattle.pairs.proofs.Changes.{insert_length, remove_length, insert_all, remove_all, insert_rising, remove_rising}

-- a pair that add accepts leaves a list as it is held: 13 never follows a taken add
pub insert_list : (g : Pairs) (p : Pair) → is_list g ≡ true →
    ends_in_range g.n p ≡ true → smaller_first p ≡ true → weight_in_range p ≡ true →
    is_held p g.pairs ≡ false → length g.pairs < 4096 → is_list (with_pair p g) ≡ true
unfolding with_pair
insert_list g p e r f w h l =
    let k = listed g e in
    is_listed (with_pair p g) record {
      some = k.some;
      few = k.few;
      short = omega (arith, insert_length p g.pairs);
      ends = insert_all (ends_in_range g.n) p g.pairs r k.ends;
      first = insert_all smaller_first p g.pairs f k.first;
      weights = insert_all weight_in_range p g.pairs w k.weights;
      rises = insert_rising p g.pairs k.rises h;
    }

-- and so does a removal
pub remove_list : (g : Pairs) (p : Pair) → is_list g ≡ true → is_held p g.pairs ≡ true → is_list (without_pair p g) ≡ true
unfolding without_pair
remove_list g p e h =
    let k = listed g e in
    is_listed (without_pair p g) record {
      some = k.some;
      few = k.few;
      short = omega (arith, remove_length p g.pairs h, k.short);
      ends = remove_all (ends_in_range g.n) p g.pairs k.ends;
      first = remove_all smaller_first p g.pairs k.first;
      weights = remove_all weight_in_range p g.pairs k.weights;
      rises = remove_rising p g.pairs k.rises;
    }

-- the first pair is held
held_first : (p : Pair) (ps : List Pair) → is_held p (p ∷ ps) ≡ true
unfolding is_held
held_first p ps = rw (same_refl p)

-- a pair that is not held counts nothing
pub not_held_weight : (p : Pair) (ps : List Pair) → is_held p ps ≡ false → weight_of p ps ≡ 0
unfolding is_held weight_of
not_held_weight p [] h = refl
not_held_weight p (r ∷ rs) h = by_test (same_ends p r) (λ t. no (sym (rw t at h))) (λ t. rw t (not_held_weight p rs (rw t at h)))

-- pairs are equal where their numbers are
pub same_pair : (p q : Pair) → p.a ≡ q.a → p.b ≡ q.b → p.w ≡ q.w → p ≡ q
same_pair p q e d c =
    let z : ◌≡◌ {A = Pair} (record { a = p.a; b = p.b; w = p.w }) (record { a = q.a; b = q.b; w = q.w }) = cc in
    z

-- two rising lists that hold the same pairs with the same weights are one list
pub rising_alone : (ps qs : List Pair) → rising ps ≡ true → rising qs ≡ true →
    ((r : Pair) → is_held r ps ≡ is_held r qs) → ((r : Pair) → weight_of r ps ≡ weight_of r qs) → ps ≡ qs
unfolding is_held weight_of
rising_alone [] [] e d h w = refl
rising_alone [] (q ∷ qs) e d h w = no (h q ∙ held_first q qs)
rising_alone (p ∷ ps) [] e d h w = no (sym (h p) ∙ held_first p ps)
rising_alone (p ∷ ps) (q ∷ qs) e d h w =
    order_cases p q
    (λ l g s. no (sym (lower_not_held p q qs d l) ∙ sym (h p) ∙ held_first p ps))
    (λ l g s.
    let s' = simp same_iff at s in
    let i : p ≡ q = same_pair p q s'.0 s'.1 (rw (same_refl p, s) at (w p)) in
    let t : (r : Pair) → same_ends r p ≡ same_ends r q = λ r. ap (same_ends r) i in
    cc (
      i,
      rising_alone ps qs (simp rising_iff at e).1 (simp rising_iff at d).1
          (λ r. by_test (same_ends r p)
          (λ u. same_not_held r p ps e u ∙ sym (same_not_held r q qs d (sym (t r) ∙ u)))
          (λ u. rw (u, sym (t r) ∙ u) at (h r)))
          (λ r. by_test (same_ends r p)
          (λ u. not_held_weight r ps (same_not_held r p ps e u) ∙ sym (not_held_weight r qs (same_not_held r q qs d (sym (t r) ∙ u))))
          (λ u. rw (u, sym (t r) ∙ u) at (w r))),
    ))
    (λ l g s. no (sym (lower_not_held q p ps e g) ∙ h q ∙ held_first q qs))

-- a pair that counts once
unfoldable pub counts_once : Pair → Bool
counts_once p = eqb p.w 1

-- in a list of ones a pair counts 1 or nothing
ones_weight : (p : Pair) (ps : List Pair) → all counts_once ps ≡ true → weight_of p ps ≡ cond (is_held p ps) 1 0
unfolding weight_of is_held all counts_once
ones_weight p [] e = refl
ones_weight p (r ∷ rs) e =
    let e' = simp tests at e in
    by_test (same_ends p r) (λ t. rw t e'.0) (λ t. rw t (ones_weight p rs e'.1))

-- two rising lists that hold the same pairs, each counting once, are one list
pub ones_alone : (ps qs : List Pair) → rising ps ≡ true → rising qs ≡ true → all counts_once ps ≡ true → all counts_once qs ≡ true →
    ((r : Pair) → is_held r ps ≡ is_held r qs) → ps ≡ qs
ones_alone ps qs e d c k h =
    rising_alone ps qs e d h (λ r. ones_weight r ps c ∙ ap (λ (b : Bool). cond b 1 0) (h r) ∙ sym (ones_weight r qs k))
