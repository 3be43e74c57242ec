-- Links: the places at which a module stands among module numbers (its pairs' ends), as a chain from the last one back to the first.
--   place        what a word of a link says
--   last_at      the last of the first k places at which a module stands
--   Lasts        a buffer that has each module's
--   Linked       buffers that have the links
-- Assumes nothing: these are definitions.
use Rattle.std.specs.Prelude.{◌≡◌, cond, List, Option, Some, None, ℕ, zero, suc, ◌<◌, eqb, get_or}

-- the place that a word says: 1 less, and none where it is 0
abbrev pub place : ℕ → Option ℕ
place zero = None
place (suc i) = Some i

-- one more than the last of the first k places i where f i is v, and 0 where there is none
unfoldable pub last_at : (k : ℕ) → (f : ℕ → ℕ) → (v : ℕ) → ℕ
last_at zero f v = 0
last_at (suc k) f v = cond (eqb (f k) v) (suc k) (last_at k f v)

-- the last of k places of each of n modules; further entries are free
pub record Lasts (n k : ℕ) (f : ℕ → ℕ) (first : List ℕ) : Type 0 where
  pub same : (v : ℕ) → v < n → get_or first v 0 ≡ last_at k f v

-- `first` leads to each module's last place, `next` from a place to the same module's place before it; further entries are free
pub record Linked (n k : ℕ) (f : ℕ → ℕ) (first next : List ℕ) : Type 0 where
  pub firsts : Lasts n k f first
  pub nexts : (i : ℕ) → i < k → get_or next i 0 ≡ last_at i f (f i)
