-- What the functions under `peel` take and leave; only this crate cites it.
--   joined                         what joins a module to another one, by its neighbours
--   Degrees, RankingOf             degrees at first; the ranking holds the modules present, each with its degree
--   SomeRanked                     what a turn takes
--   IsPresent                      a neighbour is present
--   LowerableBy, LoweredBy         before and after the pairs of a leaver are taken from its neighbours
--   LeaversWritten                 the leaving order and the final degrees: those at leaving
--   Numberable, Numbered           core numbers and places, from those
--   remaining                      what is left inside, by the final degrees
--   denser_by, densest_by          of remainders the denser one, and the densest of the first
--   Comparable                     final degrees by which remainders can be compared
--   RemainderAt, denser            a remainder as it is returned
-- Assumes nothing: these are definitions.
use Rattle.std.specs.Prelude.{◌≡◌, true, cond, List, [], ◌∷◌, ℕ, zero, suc, ◌+◌, ◌*◌, ◌-◌, ◌≤◌, ◌<◌, leb, eqb, length, get_or, drop, sum}
use Rattle.theory.specs.Basics.{greatest}
use Rattle.theory.specs.Lists.{Pairs}
use Rattle.theory.specs.Groups.{is_in, everyone}
use Rattle.theory.specs.Leaving.{degree, leaving, leaving_degree}
use Rattle.slots.specs.declared.neighbours.Neighbour.{Neighbour}
use Rattle.slots.specs.Buffers.{entry, WrittenFront}
use Rattle.ranking.specs.Ranking.{has, carries, SomePresent}
use Rattle.peel.specs.declared.Remainder.{Remainder}

-- ---- neighbours

-- what the neighbours among xs that are u count together
unfoldable pub joined : (xs : List Neighbour) → (u : ℕ) → ℕ
joined [] u = 0
joined (x ∷ xs) u = cond (eqb u x.number) x.weight 0 + joined xs u

-- ---- turns

-- each module with its degree among all
unfoldable pub Degrees : Pairs → (degrees : List ℕ) → Type 0
Degrees g degrees = (v : ℕ) → v < g.n → get_or degrees v 0 ≡ degree g (everyone g) v

-- s says of each of N modules whether it is present; the ranking holds exactly those, each with its degree among them
pub record RankingOf (g : Pairs) (s keys : List ℕ) : Type 0 where
  pub full : length s ≡ g.n
  pub present : (u : ℕ) → has keys u ≡ is_in s u
  pub carried : (u : ℕ) → has keys u ≡ true → carries keys u ≡ degree g s u

-- the ranking holds the modules of some set so, at least one
unfoldable pub SomeRanked : (g : Pairs) → (keys : List ℕ) → Type 0
SomeRanked g keys = (s : List ℕ) × (RankingOf g s keys × SomePresent keys)

-- the neighbour is present
unfoldable pub IsPresent : (keys : List ℕ) → Neighbour → Type 0
IsPresent keys x = has keys x.number ≡ true

-- whoever is present carries what is to be taken from it for these neighbours
pub record LowerableBy (xs : List Neighbour) (keys : List ℕ) : Type 0 where
  pub enough : (u : ℕ) → has keys u ≡ true → joined xs u ≤ carries keys u

-- that is taken from it
pub record LoweredBy (xs : List Neighbour) (old new : List ℕ) : Type 0 where
  pub present : (u : ℕ) → has new u ≡ has old u
  pub carried : (u : ℕ) → has old u ≡ true → carries new u + joined xs u ≡ carries old u

-- the first i places of the order, and the final degrees: those at leaving, in that order
pub record LeaversWritten (g : Pairs) (i : ℕ) (order finals order' finals' : List ℕ) : Type 0 where
  pub order_is : WrittenFront i (entry (leaving g)) order order'
  pub finals_are : WrittenFront i (leaving_degree g) finals finals'

-- ---- core numbers and places

-- an order of different modules, as many as there are, and their final degrees
pub record Numberable (order finals cores place : List ℕ) : Type 0 where
  pub few : length order ≤ 512
  pub finals_long : length order ≤ length finals
  pub cores_long : length order ≤ length cores
  pub place_long : length order ≤ length place
  pub below : (i : ℕ) → i < length order → get_or order i 0 < length order
  pub apart : (i j : ℕ) → i < length order → j < length order → get_or order i 0 ≡ get_or order j 0 → i ≡ j

-- of the first i of them: the greatest final degree so far, and the place
pub record Numbered (i : ℕ) (order finals cores place cores' place' : List ℕ) : Type 0 where
  pub cores_long : length cores' ≡ length cores
  pub place_long : length place' ≡ length place
  pub cores_are : (j : ℕ) → j < i → get_or cores' (get_or order j 0) 0 ≡ greatest (suc j) (entry finals)
  pub places_are : (j : ℕ) → j < i → get_or place' (get_or order j 0) 0 ≡ j
  pub cores_rest : (u : ℕ) → length order ≤ u → get_or cores' u 0 ≡ get_or cores u 0
  pub places_rest : (u : ℕ) → length order ≤ u → get_or place' u 0 ≡ get_or place u 0

-- ---- the densest remainder

-- what is inside the remainder when i have left: the final degrees from then on
abbrev pub remaining : (finals : List ℕ) → (i : ℕ) → ℕ
remaining finals i = sum (drop i finals)

-- i, unless j of n has the higher ratio, by cross products
unfoldable pub denser_by : (n : ℕ) → (f : ℕ → ℕ) → (i j : ℕ) → ℕ
denser_by n f i j = cond (leb (f j * (n - i)) (f i * (n - j))) i j

-- the densest of 0, 1, .., i; of equals the earliest
unfoldable pub densest_by : (n : ℕ) → (f : ℕ → ℕ) → (i : ℕ) → ℕ
densest_by n f zero = 0
densest_by n f (suc i) = denser_by n f (densest_by n f i) (suc i)

-- the final degrees of all modules, of which some are asked to remain; 4,096 pairs that count 1,000 times is the most
pub record Comparable (least : ℕ) (finals : List ℕ) : Type 0 where
  pub few : length finals ≤ 512
  pub some : 1 ≤ least
  pub most : least ≤ length finals
  pub light : sum finals ≤ 4096000

-- r is the remainder when `at` have left
pub record RemainderAt (finals : List ℕ) (at : ℕ) (r : Remainder) : Type 0 where
  pub at_is : r.at ≡ at
  pub p_is : r.ratio.p ≡ remaining finals at
  pub q_is : r.ratio.q ≡ length finals - at

-- a, unless b has the higher ratio
unfoldable pub denser : (a b : Remainder) → Remainder
denser a b = cond (leb (b.ratio.p * a.ratio.q) (a.ratio.p * b.ratio.q)) a b
