-- What is promised of whatever `peel` leaves and returns. A statement is a type; proofs/Promises.antt has its theorem.
--   PeelPromise    of one call
--   PeelPromised   of every call; the theorem is peel_promised
--   PlaceBefore    places and `before`; the theorem is place_before
-- Assumes nothing: these are definitions.
use Rattle.std.specs.Prelude.{◌≡◌, true, false, List, ℕ, ◌+◌, ◌≤◌, ◌<◌, ltb, leb, get_or}
use Rattle.theory.specs.Lists.{Pairs, is_list}
use Rattle.theory.specs.Groups.{is_in}
use Rattle.theory.specs.Leaving.{leaving, remainder, before}
use Rattle.theory.specs.Cores.{core}
use Rattle.theory.specs.Kits.{IsKit}
use Rattle.theory.specs.Promise.{LargestOrder}
use Rattle.peel.specs.declared.Remainder.{Remainder}
use Rattle.peel.specs.Places.{index_of}
use Rattle.peel.specs.Peel.{Peels}

-- of the buffers and the remainder that one call leaves
pub record PeelPromise (g : Pairs) (least : ℕ) (order' cores' place' : List ℕ) (r : Remainder) : Type 0 where
  -- for every module the core number written is the largest k such that a group in which each member has at least k inside holds it
  pub core_exact : (m : ℕ) → m < g.n → LargestOrder g m (get_or cores' m 0)
  -- modules outside the core of order k stand before all modules of it, in the order and by their places
  pub outside_first : (k a b : ℕ) → a < g.n → b < g.n → is_in (core g k) a ≡ false → is_in (core g k) b ≡ true →
      (before order' a b ≡ true) × (get_or place' a 0 < get_or place' b 0)
  -- the one at the lower place leaves first
  pub by_place : (a b : ℕ) → a < g.n → b < g.n → before (leaving g) a b ≡ ltb (get_or place' a 0) (get_or place' b 0)
  -- a module is in a remainder exactly if its place is not below the number of those that have left
  pub member : (i v : ℕ) → v < g.n → is_in (remainder g i) v ≡ leb i (get_or place' v 0)
  -- those that have left and those of the remainder returned are N together
  pub rest : r.ratio.q + r.at ≡ g.n
  -- the remainder returned has at least so many modules: it is the kit (document 02, item 7)
  pub enough : least ≤ r.ratio.q
  pub is_kit : IsKit g least (remainder g r.at)

-- so of every call
unfoldable pub PeelPromised : Type 0
PeelPromised =
    (g : Pairs) (least : ℕ) (order cores place order' cores' place' : List ℕ) (r : Remainder) → is_list g ≡ true → 1 ≤ least → least ≤ g.n →
    Peels g least order cores place order' cores' place' r → PeelPromise g least order' cores' place' r

-- in every order: whoever stands before another has the lower place
unfoldable pub PlaceBefore : Type 0
PlaceBefore = (order : List ℕ) (a b : ℕ) → before order a b ≡ ltb (index_of order a) (index_of order b)
