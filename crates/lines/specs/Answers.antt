-- What a Reader's methods answer, in the terms of the other definitions.
--   number_in      the number that has been found
--   NumberFound    what `number` promises
--   line_in        the line that has been found
--   LineFound      what `line` promises
-- number_of stands in specs/Numbers.antt, line_of in specs/Lines.antt, line_due in specs/Outcomes.antt. Assumes nothing: these are definitions.
use Rattle.std.specs.Prelude.{◌≡◌, List, ℕ, ◌≤◌, length, get_or, take, Option, IfSome, IfNone, option_map}
use Rattle.lines.specs.Numbers.{Number, number_of}
use Rattle.lines.specs.Lines.{Line, places, line_of}

-- a value that has been found, with the bytes after it. Where none is there is none; so is its line (line_of), which line_due refuses by 1 in pair files,
-- by 16 in DIMACS files, by 101 on sheets
abbrev pub number_in : (left : List ℕ) → Option ℕ → Option Number
number_in left = option_map (λ v. record { value = v; rest = left })

-- NUMBER: the number of up to d digits in front of the bytes, and the bytes that are left after it; all of them where there is none
pub record NumberFound (d : ℕ) (bytes : List ℕ) (r : Option ℕ) (left : List ℕ) : Type 0 where
  pub found : number_of d bytes ≡ number_in left r
  pub stays : IfNone r (left ≡ bytes)

-- a line's numbers, the first k that have been found, with the bytes after it
abbrev pub line_in : (k : ℕ) → (left : List ℕ) → Option (List ℕ) → Option Line
line_in k left = option_map (λ ns. record { numbers = take k ns; rest = left })

-- n numbers, of which those past the first k are 0
pub record Padded (n k : ℕ) (numbers : List ℕ) : Type 0 where
  pub size : length numbers ≡ n
  pub past : (i : ℕ) → k ≤ i → get_or numbers i 0 ≡ 0

-- LINE: the line of a form in front of the bytes, in n numbers, and the bytes that are left after it; all of them where there is none
pub record LineFound (n d : ℕ) (form bytes : List ℕ) (r : Option (List ℕ)) (left : List ℕ) : Type 0 where
  pub found : line_of d form bytes ≡ line_in (places form) left r
  pub padded : IfSome r (Padded n (places form))
  pub stays : IfNone r (left ≡ bytes)
