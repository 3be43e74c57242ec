-- Document 02, item 1, on words: what write_dimacs makes of the list that lies in them.
--   write_buffers               what is lent
--   written_of                   its answer
--   WriteOn                     the length, and every byte of the buffer
-- Assumes nothing: these are definitions.
use Rattle.std.specs.Prelude.{◌≡◌, List, [], ◌∷◌, ℕ, length, Result, Ok, Err}
use Rattle.theory.specs.Words.{laid_list}
use Rattle.refusals.specs.declared.Refusal.{Refusal}
use Rattle.refusals.specs.Numbers.{number_of}
use Rattle.dimacs.specs.Edges.{dimacs_of}
use Rattle.records.specs.declared.Head.{Head}
use Rattle.on_words.specs.declared.Written.{Written}
use Rattle.on_words.specs.Buffers.{Buffer, buffer, in_front}

-- 65,536 bytes of text
abbrev pub write_buffers : (text : ℕ) → List Buffer
write_buffers t = buffer t 65536 ∷ []

-- the length of the file; 0 beside a refusal
abbrev pub written_of : Result ℕ Refusal → Written
written_of (Ok k) = record { number = 0; length = k }
written_of (Err e) = record { number = number_of e; length = 0 }

-- the file of the list in the words
pub record WriteOn (h : Head) (text words : List ℕ) (count : ℕ) (text' : List ℕ) : Type 0 where
  pub counted : count ≡ length (dimacs_of (laid_list h.n h.m words))
  pub bytes : text' ≡ in_front (dimacs_of (laid_list h.n h.m words)) text
