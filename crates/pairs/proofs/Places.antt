-- A pair's stops lowered and raised at its place.
--   lower_cut, lower_set    a pair whose count comes to 0 is taken out, any other stays with so much less
--   raise_set, raise_new    a held pair stays with so much more, a new one is put in
--   weight_at               the count at a pair's place
--   located_any             lookup goes by the ends: the count does not matter
-- Assumes nothing.
use mathlib.Core.Path.{◌≡◌, refl, sym, ap, ◌∙◌}
use mathlib.Core.Bool.{true, false}
use mathlib.Core.List.{List, [], ◌∷◌}
use Prim.Native.Nat.{ℕ}
use lib.Dec.{leb}
use lib.ListN.{get_or, set}
use Rattle.theory.specs.Lists.{Pair, rising}
use Rattle.theory.proofs.Tests.{no}
use Rattle.pairs.specs.Held.{same_ends, is_held, weight_of, place_of, insert_pair, remove_pair, heavier, lighter, raise_pair, lower_pair}
use Rattle.pairs.specs.Located.{located}
use Rattle.pairs.proofs.Order.{same_refl, order_cases}
use Rattle.pairs.proofs.Ends.{held_same, place_same}
use Rattle.pairs.proofs.Rising.{rising_iff, lower_not_held}

-- a pair whose count comes to 0 is taken out
pub lower_cut : (p : Pair) (ps : List Pair) (d : Pair) → rising ps ≡ true → is_held p ps ≡ true → leb (get_or ps (place_of p ps) d).w p.w ≡ true →
    lower_pair p ps ≡ remove_pair p ps
unfolding lower_pair remove_pair place_of is_held
lower_cut p [] d e h l = no h
lower_cut p (r ∷ rs) d e h l =
    order_cases p r (λ x g s. no (sym (lower_not_held p r rs e x) ∙ h))
    (λ x g s. let l' = rw g at l in rw (s, l'))
    (λ x g s. let l' = rw g at l in rw s (ap (λ (z : List Pair). r ∷ z) (lower_cut p rs d (simp rising_iff at e).1 (rw s at h) l')))

-- any other stays with so much less
pub lower_set : (p : Pair) (ps : List Pair) (d : Pair) → rising ps ≡ true → is_held p ps ≡ true → leb (get_or ps (place_of p ps) d).w p.w ≡ false →
    lower_pair p ps ≡ set ps (place_of p ps) (lighter p.w (get_or ps (place_of p ps) d))
unfolding lower_pair place_of is_held
lower_set p [] d e h l = no h
lower_set p (r ∷ rs) d e h l =
    order_cases p r (λ x g s. no (sym (lower_not_held p r rs e x) ∙ h))
    (λ x g s. let l' = rw g at l in rw (s, g, l'))
    (λ x g s. let l' = rw g at l in rw (s, g) (ap (λ (z : List Pair). r ∷ z) (lower_set p rs d (simp rising_iff at e).1 (rw s at h) l')))

-- a held pair stays with so much more
pub raise_set : (p : Pair) (ps : List Pair) (d : Pair) → rising ps ≡ true → is_held p ps ≡ true →
    raise_pair p ps ≡ set ps (place_of p ps) (heavier p.w (get_or ps (place_of p ps) d))
unfolding raise_pair place_of is_held
raise_set p [] d e h = no h
raise_set p (r ∷ rs) d e h =
    order_cases p r (λ x g s. no (sym (lower_not_held p r rs e x) ∙ h))
    (λ x g s. rw (s, g))
    (λ x g s. rw (s, g) (ap (λ (z : List Pair). r ∷ z) (raise_set p rs d (simp rising_iff at e).1 (rw s at h))))

-- a new one is put in at its place
pub raise_new : (p : Pair) (ps : List Pair) → is_held p ps ≡ false → raise_pair p ps ≡ insert_pair p ps
unfolding raise_pair insert_pair is_held
raise_new p [] h = refl
raise_new p (r ∷ rs) h =
    order_cases p r (λ x g s. rw (s, g)) (λ x g s. no (sym (rw s at h)))
    (λ x g s. rw (s, g) (ap (λ (z : List Pair). r ∷ z) (raise_new p rs (rw s at h))))

-- the count at a pair's place
pub weight_at : (p : Pair) (ps : List Pair) (d : Pair) → rising ps ≡ true → is_held p ps ≡ true → weight_of p ps ≡ (get_or ps (place_of p ps) d).w
unfolding weight_of place_of is_held
weight_at p [] d e h = no h
weight_at p (r ∷ rs) d e h =
    order_cases p r (λ x g s. no (sym (lower_not_held p r rs e x) ∙ h))
    (λ x g s. rw (s, g))
    (λ x g s. rw (s, g) (weight_at p rs d (simp rising_iff at e).1 (rw s at h)))

-- lookup goes by the ends: the count does not matter
pub located_any : (a b v w : ℕ) (ps : List Pair) → located (record { a = a; b = b; w = v }) ps ≡ located (record { a = a; b = b; w = w }) ps
unfolding located same_ends
located_any a b v w ps =
    let p : Pair = record { a = a; b = b; w = v } in
    let q : Pair = record { a = a; b = b; w = w } in
    let s : same_ends p q ≡ true = same_refl q in
    cc (held_same p q ps s, place_same p q ps s)
