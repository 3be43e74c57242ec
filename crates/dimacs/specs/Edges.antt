-- Document 02, item 1: DIMACS edge files. One line `p edge N M` precedes the M lines `e A B` with modules numbered from 1; comments stand anywhere.
-- 16: a line of none of these forms, out of place, or lacking its LF, or no `p` line. 17: the count of `e` lines isn't M, judged at the first line
-- too many, before its 5, 4 and 10, or at the end. Lines are judged in file order: the `p` line by 16, 2, 3, 11, an `e` line by 16, 17, 5, 4, 10
-- (5 before 4: item 2).
--   problem_form, edge_form               the forms of the lines
--   problem_causes, problem_line          the `p` line, with its causes
--   named_pair, edge_causes, edge_line    an `e` line, with its causes, and the pair that it names
--   end_causes, read_edges, read_lines    the lines that are no comments, one after another
--   read_dimacs                           the whole file
--   edge_lines, dimacs_file, dimacs_of    the file that names given pairs in a given order, and the file of a list, for a writer
-- 12 is of the work buffer and comes before all lines: it is the caller's. Assumes nothing: these are definitions.
use Rattle.std.specs.Prelude.{List, [], ◌∷◌, ◌++◌, ℕ, ◌-◌, ltb, eqb, length}
use Rattle.theory.specs.Lists.{Pair, Pairs}
use Rattle.theory.specs.Refusals.{Cause, cause}
use Rattle.pairs.specs.Held.{is_held, insert_pair, smaller_first_pair}
use Rattle.pairs.specs.Causes.{pair_causes}
use Rattle.lines.specs.Text.{text}
use Rattle.lines.specs.Lines.{Line, first, second, filled}
use Rattle.lines.specs.Outcomes.{Outcome, refused, taken, ◌>>=◌, ◌>>◌, judge, line_due}
use Rattle.pairfile.specs.File.{modules_causes, pairs_causes, numbered, pair_lines}
use Rattle.dimacs.specs.Comments.{plain_lines}

-- the line of N and M
unfoldable pub problem_form : List ℕ
problem_form = text "p edge N M\n"

-- and each line after it
unfoldable pub edge_form : List ℕ
edge_form = text "e A B\n"

-- 2, 3, 11, as in a pair file
unfoldable pub problem_causes : (room n m : ℕ) → List Cause
problem_causes room n m = modules_causes n ++ pairs_causes room m

-- the `p` line by 16, 2, 3, 11
unfoldable pub problem_line : (room : ℕ) → (line : List ℕ) → Outcome Line
problem_line room bs = do
  l ← line_due 16 4 problem_form bs
  judge (problem_causes room (first l) (second l))
  taken l

-- the pair of two modules that are numbered from 1, smaller first
unfoldable pub named_pair : (a b : ℕ) → Pair
named_pair a b = smaller_first_pair (a - 1) (b - 1)

-- 17: a line too many; 5; 4: a module numbered 0 or above N; 10: the pair is named on an earlier line, in either order
unfoldable pub edge_causes : (n left : ℕ) → (held : List Pair) → (a b : ℕ) → List Cause
edge_causes n left held a b = cause 17 (eqb left 0) ∷ (pair_causes 1 n a b ++ (cause 10 (is_held (named_pair a b) held) ∷ []))

-- an `e` line, so many being left, by 16, 17, 5, 4, 10; the pairs of the earlier lines are held
unfoldable pub edge_line : (n left : ℕ) → (held : List Pair) → (line : List ℕ) → Outcome Pair
edge_line n left held bs = do
  l ← line_due 16 4 edge_form bs
  judge (edge_causes n left held (first l) (second l))
  taken (named_pair (first l) (second l))

-- 17: a line too few
unfoldable pub end_causes : (left : ℕ) → List Cause
end_causes left = cause 17 (ltb 0 left) ∷ []

-- the pairs held, in rising order, once the lines have been read; last 17
unfoldable pub read_edges : (n left : ℕ) → (held : List Pair) → (lines : List (List ℕ)) → Outcome (List Pair)
read_edges n left held [] = do
  judge (end_causes left)
  taken held
read_edges n left held (l ∷ ls) = do
  p ← edge_line n left held l
  read_edges n (left - 1) (insert_pair p held) ls

-- the first of the lines is the `p` line; 16 where there is none
unfoldable pub read_lines : (room : ℕ) → (lines : List (List ℕ)) → Outcome Pairs
read_lines room [] = refused 16
read_lines room (l ∷ ls) = do
  sizes ← problem_line room l
  named ← read_edges (first sizes) (second sizes) [] ls
  taken (record { n = first sizes; pairs = named })

-- READ of a DIMACS file into a list of so many records: the list that the file names, or the refusal number
unfoldable pub read_dimacs : (room : ℕ) → (bytes : List ℕ) → Outcome Pairs
read_dimacs room bs = read_lines room (plain_lines bs)

-- the lines that name pairs, modules numbered from 1, each with the module first that stands first in the pair
unfoldable pub edge_lines : List Pair → List ℕ
edge_lines ps = pair_lines edge_form (numbered 1 ps)

-- the file of n modules that names these pairs in this order, without comments
unfoldable pub dimacs_file : (n : ℕ) → List Pair → List ℕ
dimacs_file n ps = filled problem_form (n ∷ length ps ∷ []) ++ edge_lines ps

-- WRITE of a list: no comments, and the pairs in list order
unfoldable pub dimacs_of : Pairs → List ℕ
dimacs_of g = dimacs_file g.n g.pairs
