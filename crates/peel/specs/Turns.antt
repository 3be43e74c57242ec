-- Document 02, item 5: peeling holds the modules present ranked by what they still carry, of equals as the leaving order picks, and ranks anew only those
-- that the leaver touched.
--   are_joined             whether a pair joins two modules (whether they are adjacent)
--   Ranks                  the ranking holds exactly the modules present, each once with the stops it still carries, in that order
--   untouched              a module other than the leaver and not joined to it
--   Turned                 one step: its first leaves, it holds the others then, and only the modules joined to the leaver were ranked anew
--   TurnOf                 so of whatever modules were present
-- Assumes nothing: these are definitions.
use Rattle.std.specs.Prelude.{◌≡◌, Bool, true, false, ◌&&◌, ◌||◌, not, List, [], ◌∷◌, ℕ, ◌<◌, eqb, length, get_or, set, filter}
use Rattle.std.proofs.Math.Option.{some}
use Rattle.theory.specs.Lists.{Pair, Pairs}
use Rattle.theory.specs.Groups.{is_in}
use Rattle.theory.specs.Leaving.{degree, leaves_first, leaver}
use Rattle.ranking.specs.declared.Leaver.{Leaver}
use Rattle.ranking.specs.Ranking.{carries, walk}
use Rattle.peel.specs.Steps.{RankingOf}

-- whether one of these pairs joins a and b
unfoldable pub are_joined_by : List Pair → (a b : ℕ) → Bool
are_joined_by [] a b = false
are_joined_by (p ∷ ps) a b = ((eqb p.a a && eqb p.b b) || (eqb p.a b && eqb p.b a)) || are_joined_by ps a b

-- whether a pair of the list does (adjacent modules)
unfoldable pub are_joined : Pairs → (a b : ℕ) → Bool
are_joined g a b = are_joined_by g.pairs a b

-- s are the modules present; `keys` says what each carries, and `walked` is what a walk over the ranking yields
pub record Ranks (g : Pairs) (s keys walked : List ℕ) : Type 0 where
  -- each with the stops that it still carries (`carried`) ..
  pub held : RankingOf g s keys
  -- .. exactly the modules present ..
  pub only : (i : ℕ) → i < length walked → is_in s (get_or walked i 0) ≡ true
  pub all : (u : ℕ) → is_in s u ≡ true → (i : ℕ) × ((i < length walked) × (get_or walked i 0 ≡ u))
  -- .. each once ..
  pub once : (i j : ℕ) → i < length walked → j < length walked → get_or walked i 0 ≡ get_or walked j 0 → i ≡ j
  -- .. in that order: by what they still carry, of equals as the leaving order picks
  pub in_order : (i j : ℕ) → i < j → j < length walked →
      leaves_first (degree g s (get_or walked i 0)) (get_or walked i 0) (degree g s (get_or walked j 0)) (get_or walked j 0) ≡ true

-- u is another module than v and not joined to it
unfoldable pub untouched : Pairs → (v u : ℕ) → Bool
untouched g v u = not (eqb u v) && not (are_joined g v u)

-- ONE STEP: `keys` and `walked` are the ranking before, `keys'` and `walked'` afterwards, r has left
pub record Turned (g : Pairs) (s keys walked keys' walked' : List ℕ) (r : Leaver) : Type 0 where
  -- the ranking held the modules present, and its first leaves
  pub before : Ranks g s keys walked
  pub there : 0 < length walked
  pub first : get_or walked 0 0 ≡ r.number
  -- that is the leaver of the leaving order, and what it carried its degree
  pub leaver_is : leaver g s ≡ some r.number
  pub degree_is : r.carried ≡ degree g s r.number
  -- afterwards it holds the others, each with what it carries then
  pub after : Ranks g (set s r.number 0) keys' walked'
  -- only the modules joined to the leaver were ranked anew: all others carry what they carried and stand in the order in which they stood. (That nobody else
  -- was taken out and put in again shows in no list: it is read off `turn`, which lowers the leaver's neighbours and no other module.)
  pub still : (u : ℕ) → is_in s u ≡ true → untouched g r.number u ≡ true → carries keys' u ≡ carries keys u
  pub stand : filter (untouched g r.number) walked' ≡ filter (untouched g r.number) walked

-- so of whatever modules the ranking held: keys and links before and afterwards
unfoldable pub TurnOf : (g : Pairs) → (keys next keys' next' : List ℕ) → Leaver → Type 0
TurnOf g keys next keys' next' r = (s : List ℕ) → RankingOf g s keys → Turned g s keys (walk next) keys' (walk next') r
