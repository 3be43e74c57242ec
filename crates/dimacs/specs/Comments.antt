-- Document 02, item 1: lines starting with `c` are comments (`c` alone, or `c`, a blank and any bytes up to the LF, or none); comments stand anywhere.
--   first_line, after_line    the line at the front of some bytes with its LF, and the bytes after it
--   begun_with, lines_of, joined    all lines of a file, and the bytes of some lines
--   has_lf, starts_comment, is_comment    a line that has its LF, and a comment
--   plain, plain_lines        the lines that are no comments
--   without_comments          the file less its comments
-- Assumes nothing: these are definitions.
use Rattle.std.specs.Prelude.{Bool, false, ◌&&◌, ◌||◌, cond, List, [], ◌∷◌, ◌++◌, ℕ, eqb, get_or}

-- the line at the front: up to the first LF (byte 10) and with it, or all where none is there
unfoldable pub first_line : List ℕ → List ℕ
first_line [] = []
first_line (b ∷ bs) = cond (eqb b 10) (b ∷ []) (b ∷ first_line bs)

-- the bytes after it
unfoldable pub after_line : List ℕ → List ℕ
after_line [] = []
after_line (b ∷ bs) = cond (eqb b 10) bs (after_line bs)

-- some lines with a byte more at the front of the first
unfoldable pub begun_with : ℕ → List (List ℕ) → List (List ℕ)
begun_with b [] = (b ∷ []) ∷ []
begun_with b (l ∷ ls) = (b ∷ l) ∷ ls

-- all lines, each with its LF; the last may lack it
unfoldable pub lines_of : List ℕ → List (List ℕ)
lines_of [] = []
lines_of (b ∷ bs) = cond (eqb b 10) ((b ∷ []) ∷ lines_of bs) (begun_with b (lines_of bs))

-- the bytes of some lines
unfoldable pub joined : List (List ℕ) → List ℕ
joined [] = []
joined (l ∷ ls) = l ++ joined ls

-- whether a line has its LF
unfoldable pub has_lf : List ℕ → Bool
has_lf [] = false
has_lf (b ∷ bs) = eqb b 10 || has_lf bs

-- `c` (byte 99), and then the LF or a blank (byte 32)
unfoldable pub starts_comment : List ℕ → Bool
starts_comment l = eqb (get_or l 0 0) 99 && (eqb (get_or l 1 0) 10 || eqb (get_or l 1 0) 32)

-- a comment starts as one, and has its LF
unfoldable pub is_comment : List ℕ → Bool
is_comment l = starts_comment l && has_lf l

-- the lines that are no comments
unfoldable pub plain : List (List ℕ) → List (List ℕ)
plain [] = []
plain (l ∷ ls) = cond (is_comment l) (plain ls) (l ∷ plain ls)

-- those of a file
unfoldable pub plain_lines : List ℕ → List (List ℕ)
plain_lines bs = plain (lines_of bs)

-- the file less its comments
unfoldable pub without_comments : List ℕ → List ℕ
without_comments bs = joined (plain_lines bs)
