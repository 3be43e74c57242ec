-- Stops more and stops less of a pair, in words.
--   counted                    a pair with its stops
--   count_at, set_count        the count at a place, and the words with another there
--   Raisable                   what raise asks
--   raised, pairs_raised       the words after it, and how many pairs are held
--   lowered, pairs_lowered     the words after lower, and how many pairs are left
-- Assumes nothing: these are definitions.
use Rattle.std.specs.Prelude.{◌≡◌, true, false, cond, List, ℕ, ◌+◌, ◌-◌, ◌≤◌, ◌<◌, leb, length, get_or, set}
use Rattle.theory.specs.Lists.{Pair}
use Rattle.pairs.specs.Shifts.{insert_at, delete_at}
use Rattle.pairs.specs.Located.{Place}
use Rattle.pairs.specs.declared.Stops.{Stops}

-- the pair with its count that stops are
abbrev pub counted : Stops → Pair
counted s = record { a = s.a; b = s.b; w = s.w }

-- the count of the pair at a place
unfoldable pub count_at : (at : ℕ) → (words : List ℕ) → ℕ
count_at at ws = get_or ws (8192 + at) 0

-- that count becomes v
unfoldable pub set_count : (at v : ℕ) → (words : List ℕ) → List ℕ
set_count at v ws = set ws (8192 + at) v

-- a place among m pairs, or behind them for a new pair, for which there is room; a held pair's count with w more fits a word
pub record Raisable (m : ℕ) (place : Place) (w : ℕ) (words : List ℕ) : Type 0 where
  pub few : m ≤ 4096
  pub long : 12288 ≤ length words
  pub within : place.at ≤ m
  pub held : place.held ≡ true → (place.at < m) × (count_at place.at words + w < 4294967296)
  pub new : place.held ≡ false → m < 4096

-- RAISE: p's stops more; a held pair's count grows, a new pair goes to its place
unfoldable pub raised : (m : ℕ) → Place → Pair → (words : List ℕ) → List ℕ
raised m place p ws =
    cond place.held (set_count place.at (count_at place.at ws + p.w) ws) (insert_at m place.at p ws)

-- how many pairs are then held
unfoldable pub pairs_raised : (m : ℕ) → Place → ℕ
pairs_raised m place = cond place.held m (m + 1)

-- LOWER: w stops less of the pair at a place, which goes where w is its count or more
unfoldable pub lowered : (m at w : ℕ) → (words : List ℕ) → List ℕ
lowered m at w ws = cond (leb (count_at at ws) w) (delete_at m at ws) (set_count at (count_at at ws - w) ws)

-- how many pairs are then left
unfoldable pub pairs_lowered : (m at w : ℕ) → (words : List ℕ) → ℕ
pairs_lowered m at w ws = cond (leb (count_at at ws) w) (m - 1) m
