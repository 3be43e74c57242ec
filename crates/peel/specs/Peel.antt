-- The contract of `peel`.
--   Peelable    what it takes beside a held list in words: buffers long enough
--   Peels       what it leaves in the buffers and returns, outright
-- Assumes nothing: these are definitions.
use Rattle.std.specs.Prelude.{◌≡◌, List, ◌++◌, ℕ, ◌≤◌, length, drop}
use Rattle.theory.specs.Lists.{Pairs}
use Rattle.theory.specs.Groups.{inside, size}
use Rattle.theory.specs.Leaving.{leaving, remainder}
use Rattle.theory.specs.Cores.{core_numbers}
use Rattle.theory.specs.Kits.{densest_remainder}
use Rattle.peel.specs.declared.Remainder.{Remainder}
use Rattle.peel.specs.Places.{places}

-- the buffers have an entry for each module, and the densest remainder is asked of 1 to N modules
pub record Peelable (n least : ℕ) (order cores place : List ℕ) : Type 0 where
  pub some : 1 ≤ least
  pub few : least ≤ n
  pub order_long : n ≤ length order
  pub cores_long : n ≤ length cores
  pub place_long : n ≤ length place

-- of a list g: the buffers before (order, cores, place) and after (order', ..), and what is returned
pub record Peels (g : Pairs) (least : ℕ) (order cores place order' cores' place' : List ℕ) (r : Remainder) : Type 0 where
  -- the leaving order, core numbers and places stand in the first N entries; the others are as they were
  pub order_is : order' ≡ leaving g ++ drop g.n order
  pub cores_are : cores' ≡ core_numbers g ++ drop g.n cores
  pub places_are : place' ≡ places g ++ drop g.n place
  -- the densest remainder of at least so many modules, its inside count and its size
  pub at_is : r.at ≡ densest_remainder g least
  pub p_is : r.ratio.p ≡ inside g (remainder g r.at)
  pub q_is : r.ratio.q ≡ size (remainder g r.at)
