-- Document 01, "Buffers": lent buffers that are too short, what the calls write in them, and what they leave alone.
--   buffer, any_short    lengths beside what is needed; 12: one of them is shorter than stated
--   in_front       new entries in front; entries past those named are never written
--   work_words     the work buffer's 16,384 words
--   cleared        the work buffer with 16,384 zeros in front
--   work_left      the work buffer after a call: untouched after 12 or 13, else 16,384 zeros
-- Assumes nothing: these are definitions.
use Rattle.std.specs.Prelude.{Bool, ◌||◌, cond, List, ◌++◌, ℕ, eqb, ltb, length, drop, replicate}
use Rattle.std.specs.List.{list_any}
pub use Rattle.on_words.specs.declared.buffers.Buffer.{Buffer}

-- a lent buffer of `has` entries, of which `needs` are needed
abbrev pub buffer : (has needs : ℕ) → Buffer
buffer a b = record { has = a; needs = b }

-- one of them is shorter than stated
unfoldable pub any_short : List Buffer → Bool
any_short bs = list_any (λ b. ltb b.has b.needs) bs

-- the new entries, and the old ones past them
unfoldable pub in_front : (new old : List ℕ) → List ℕ
in_front new old = new ++ drop (length new) old

-- the work buffer has 16,384 words of 32 bits
unfoldable pub work_words : ℕ
work_words = 16384

-- 16,384 zero words in front
unfoldable pub cleared : (work : List ℕ) → List ℕ
cleared w = in_front (replicate work_words 0) w

-- untouched after 12 or 13; cleared after any other return
unfoldable pub work_left : (number : ℕ) → (work : List ℕ) → List ℕ
work_left k w = cond (eqb k 12 || eqb k 13) w (cleared w)
