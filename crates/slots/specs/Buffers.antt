-- Buffers as functions, and buffers that are written from the front.
--   entry             entry i of a buffer
--   WrittenFront     the first entries are written, the others are as they were
-- Assumes nothing: these are definitions.
use Rattle.std.specs.Prelude.{◌≡◌, List, ℕ, ◌≤◌, ◌<◌, length, get_or}

-- entry i of a buffer, as a function
unfoldable pub entry : List ℕ → (i : ℕ) → ℕ
entry xs i = get_or xs i 0

-- the first k entries are f 0, .., f (k − 1), and the others as they were
pub record WrittenFront (k : ℕ) (f : ℕ → ℕ) (old new : List ℕ) : Type 0 where
  pub long : length new ≡ length old
  pub front : (i : ℕ) → i < k → get_or new i 0 ≡ f i
  pub rest : (i : ℕ) → k ≤ i → get_or new i 0 ≡ get_or old i 0
