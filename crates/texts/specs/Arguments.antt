-- The number that a program's argument spells.
--   alone              a number with nothing behind it
--   argument_number    that number
--   number_due         110 where an argument spells none
-- Assumes nothing: these are definitions.
use Rattle.std.specs.Prelude.{cond, List, ℕ, eqb, length, Option, Some, None}
use Rattle.lines.specs.Numbers.{Number, number_of}
use Rattle.lines.specs.Outcomes.{Outcome, refused, taken}

-- a number with nothing behind it
unfoldable pub alone : Option Number → Option ℕ
alone None = None
alone (Some x) = cond (eqb (length x.rest) 0) (Some x.value) None

-- the number that an argument spells, as a pair file spells it: 1 to 4 digits, no leading zero unless it is 0, nothing before or behind it
unfoldable pub argument_number : (argument : List ℕ) → Option ℕ
argument_number bytes = alone (number_of 4 bytes)

-- 110: an argument spells no number. One that is missing is empty, and an empty one spells none
unfoldable pub number_due : Option ℕ → Outcome ℕ
number_due None = refused 110
number_due (Some a) = taken a
