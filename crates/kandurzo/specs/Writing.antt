-- Document 02, item 1: what write_dimacs makes of a lent list. The writer puts no comments and the pairs in list order into a lent buffer of at least 65,536
-- bytes and returns the length; it refuses by 13, 12.
--   write_call_causes    13, 12
--   WriteCall           number, length, and every byte of the buffer
-- Assumes nothing: these are definitions.
use Rattle.std.specs.Prelude.{◌≡◌, not, List, [], ◌∷◌, ℕ, length}
use Rattle.theory.specs.Refusals.{Cause, cause, refusal, if_taken}
use Rattle.dimacs.specs.Edges.{dimacs_of}
use Rattle.records.specs.declared.Pair.{Pair}
use Rattle.records.specs.declared.Head.{Head}
use Rattle.records.specs.Records.{held_list, agrees}
use Rattle.on_words.specs.declared.Written.{Written}
use Rattle.on_words.specs.Buffers.{any_short, in_front}
use Rattle.on_words.specs.Writing.{write_buffers}

-- 13, 12
unfoldable pub write_call_causes : Head → List Pair → (text : List ℕ) → List Cause
write_call_causes h ps t = cause 13 (not (agrees h ps)) ∷ cause 12 (any_short (write_buffers (length t))) ∷ []

-- what write_dimacs answers, and the buffer after it
pub record WriteCall (h : Head) (ps : List Pair) (text : List ℕ) (w : Written) (text' : List ℕ) : Type 0 where
  pub number : w.number ≡ refusal (write_call_causes h ps text)
  -- how many bytes the list's file has; 0 beside a refusal
  pub counted : w.length ≡ if_taken w.number (length (dimacs_of (held_list h ps))) 0
  -- the file stands in front, and the bytes past it are as before; a refused call leaves every byte
  pub bytes : text' ≡ if_taken w.number (in_front (dimacs_of (held_list h ps)) text) text
