-- Lines of one form, by a function that gives their numbers.
--   Numbers                    a function that gives a line's numbers, or none where there is no line
--   given_line, given_lines    the line of numbers that are given, if there are any; the lines from one on
--   Gives                     a function gives these numbers
-- Assumes nothing: these are definitions.
use Rattle.std.specs.Prelude.{◌≡◌, List, [], ◌++◌, ℕ, zero, suc, ◌<◌, Option, Some, None}
use Rattle.lines.specs.Lines.{filled}

-- the numbers of line i, if there is one
abbrev pub Numbers : Type 0
Numbers = ℕ → Option (List ℕ)

-- a line, if there are numbers for it
unfoldable pub given_line : (form : List ℕ) → Option (List ℕ) → List ℕ
given_line form None = []
given_line form (Some ns) = filled form ns

-- the lines that are left, of which line i comes next
unfoldable pub given_lines : (form : List ℕ) → Numbers → (i left : ℕ) → List ℕ
given_lines form f i zero = []
given_lines form f i (suc left) = given_line form (f i) ++ given_lines form f (suc i) left

-- of every line below the count a call gives these numbers; `post i r` says that r is a result of the call at i
pub record Gives (post : ℕ → Option (List ℕ) → Type 0) (count : ℕ) (numbers : Numbers) : Type 0 where
  pub each : (i : ℕ) (r : Option (List ℕ)) → i < count → post i r → r ≡ numbers i
