-- What goes by a pair's ends alone: its count does not matter.
--   after_same, held_same, weight_same, place_same    the same pair is held alike, counts alike and has the same place
--   stops_ends                            w stops of a pair are the same pair
--   same_stops                            so each test of it goes as that of the pair,
--   stops_held, stops_weight, stops_place    and so do its place in a list and its count there
-- Assumes nothing.
use mathlib.Core.Path.{◌≡◌, refl}
use mathlib.Core.Bool.{true}
use mathlib.Core.List.{List, [], ◌∷◌}
use Prim.Native.Nat.{ℕ}
use Rattle.theory.specs.Lists.{Pair, pair, stands_before}
use Rattle.pairs.specs.Held.{same_ends, is_held, weight_of, place_of, smaller_first_pair, stops_of}
use Rattle.pairs.proofs.Order.{same_iff, same_refl, same_same}

-- the same pair comes after the same pairs
pub after_same : (p q r : Pair) → same_ends p q ≡ true → stands_before r p ≡ stands_before r q
unfolding stands_before
after_same p q r s = let s' = simp same_iff at s in rw (s'.0, s'.1)

-- the same pair is held alike, counts alike and has the same place
pub held_same : (p q : Pair) (ps : List Pair) → same_ends p q ≡ true → is_held p ps ≡ is_held q ps
unfolding is_held
held_same p q [] s = refl
held_same p q (r ∷ rs) s = cc (same_same p q r s, held_same p q rs s)

pub weight_same : (p q : Pair) (ps : List Pair) → same_ends p q ≡ true → weight_of p ps ≡ weight_of q ps
unfolding weight_of
weight_same p q [] s = refl
weight_same p q (r ∷ rs) s = cc (same_same p q r s, weight_same p q rs s)

pub place_same : (p q : Pair) (ps : List Pair) → same_ends p q ≡ true → place_of p ps ≡ place_of q ps
unfolding place_of
place_same p q [] s = refl
place_same p q (r ∷ rs) s = cc (after_same p q r s, place_same p q rs s)

-- w stops of the pair a,b
module _ (a b w : ℕ) where
  pub stops_ends : same_ends (stops_of a b w) (smaller_first_pair a b) ≡ true
  unfolding stops_of smaller_first_pair pair same_ends
  stops_ends = same_refl (smaller_first_pair a b)

  pub same_stops : (r : Pair) → same_ends r (stops_of a b w) ≡ same_ends r (smaller_first_pair a b)
  unfolding stops_of smaller_first_pair pair same_ends
  same_stops r = refl

  pub stops_held : (ps : List Pair) → is_held (stops_of a b w) ps ≡ is_held (smaller_first_pair a b) ps
  stops_held ps = held_same (stops_of a b w) (smaller_first_pair a b) ps stops_ends

  pub stops_weight : (ps : List Pair) → weight_of (stops_of a b w) ps ≡ weight_of (smaller_first_pair a b) ps
  stops_weight ps = weight_same (stops_of a b w) (smaller_first_pair a b) ps stops_ends

  pub stops_place : (ps : List Pair) → place_of (stops_of a b w) ps ≡ place_of (smaller_first_pair a b) ps
  stops_place ps = place_same (stops_of a b w) (smaller_first_pair a b) ps stops_ends
