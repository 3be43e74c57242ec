-- Document 02, item 3: how place answers.
--   placed_of    its answer
-- Assumes nothing: this is a definition.
use Rattle.std.specs.Prelude.{ℕ, Result, Ok, Err}
use Rattle.refusals.specs.declared.Refusal.{Refusal}
use Rattle.refusals.specs.Numbers.{number_of}
use Rattle.on_words.specs.declared.Placed.{Placed}

-- the number, 1 or 0 for held, and the place; 0 and 0 beside a refusal
abbrev pub placed_of : Result (Result ℕ ℕ) Refusal → Placed
placed_of (Ok (Ok i)) = record { number = 0; held = 1; at = i }
placed_of (Ok (Err i)) = record { number = 0; held = 0; at = i }
placed_of (Err e) = record { number = number_of e; held = 0; at = 0 }
