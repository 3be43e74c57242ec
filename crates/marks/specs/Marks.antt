-- A set of numbers below 4,096, a bit each. (A bitmap, with one word that says which of its words are not 0.)
--   marked          whether a number is marked
--   SomeMarked      one is
--   First           none below is
--   Whole           the word above the others is right
-- Assumes nothing: these are definitions.
use Rattle.std.specs.Prelude.{◌≡◌, Bool, true, false, List, ℕ, ◌/◌, ◌%◌, ◌<◌, eqb, ltb, length, get_or}
use Rattle.std.specs.Int.{bit_at}

-- number b is marked
unfoldable pub marked : (words : List ℕ) → (b : ℕ) → Bool
marked words b = eqb (bit_at (get_or words (b / 64) 0) (b % 64)) 1

-- a number is marked
unfoldable pub SomeMarked : (words : List ℕ) → Type 0
SomeMarked words = (b : ℕ) × (marked words b ≡ true)

-- number b is marked, and none below it
pub record First (words : List ℕ) (b : ℕ) : Type 0 where
  pub there : marked words b ≡ true
  pub below : (c : ℕ) → c < b → marked words c ≡ false

-- 64 words, and above them one whose bits say which of them are not 0
pub record Whole (words : List ℕ) (top : ℕ) : Type 0 where
  pub long : length words ≡ 64
  pub tops : (t : ℕ) → t < 64 → eqb (bit_at top t) 1 ≡ ltb 0 (get_or words t 0)
