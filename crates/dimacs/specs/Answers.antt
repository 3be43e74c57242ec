-- What the functions' answers say, in the terms of the other definitions.
--   Skipped         what skip_comments promises
--   ProblemRead     what problem_line promises
--   EdgeRead        what edge_line promises
--   EdgesRead       what read_edges promises
--   DimacsRead      what read_words promises
-- Assumes nothing: these are definitions.
use Rattle.std.specs.Prelude.{◌≡◌, false, List, [], ◌∷◌, ℕ, ◌<◌, Result, OnOk}
use Rattle.theory.specs.Lists.{Pair}
use Rattle.theory.specs.Words.{laid_pairs}
use Rattle.refusals.specs.declared.Refusal.{Refusal}
use Rattle.records.specs.declared.Head.{Head}
use Rattle.pairs.specs.declared.Stops.{Stops}
use Rattle.pairs.specs.Counts.{counted}
use Rattle.lines.specs.Outcomes.{taken, ◌>>=◌, ◌>>◌, judge, outcome_of}
use Rattle.pairfile.specs.Answers.{again, SamePast, WordsRead}
use Rattle.dimacs.specs.Comments.{first_line, after_line, is_comment, plain_lines}
use Rattle.dimacs.specs.Edges.{problem_line, edge_line, read_edges, read_dimacs}

-- SKIP_COMMENTS, from the start of a line on: the same lines are left, and no comment stands first
pub record Skipped (bytes left : List ℕ) : Type 0 where
  pub same : plain_lines bytes ≡ plain_lines left
  pub clear : is_comment left ≡ false

-- PROBLEM_LINE: N and M on the line in front, and the bytes after it
pub record ProblemRead (bytes : List ℕ) (room : ℕ) (r : Result Head Refusal) (left : List ℕ) : Type 0 where
  pub found : problem_line room (first_line bytes) ≡ outcome_of (λ head. record { numbers = head.n ∷ head.m ∷ []; rest = [] }) r
  pub after : OnOk r (after_line bytes ≡ left)

-- EDGE_LINE: the pair that the line in front names, so many lines being left, and the bytes after it; whatever pairs are held, it remains to refuse one of
-- them
pub record EdgeRead (bytes : List ℕ) (n lines : ℕ) (r : Result Stops Refusal) (left : List ℕ) : Type 0 where
  pub found : (held : List Pair) → edge_line n lines held (first_line bytes) ≡ (do
    p ← outcome_of counted r
    judge (again p held)
    taken p)
  pub after : OnOk r (after_line bytes ≡ left)
  pub more : OnOk r (0 < lines)

-- READ_EDGES: the lines in front, of which m have to be `e` lines and the others comments. After a refusal the words of the first m pairs are free
pub record EdgesRead (bytes : List ℕ) (n m : ℕ) (words words' : List ℕ) (r : Result (Unit {0}) Refusal) : Type 0 where
  pub found : read_edges n m [] (plain_lines bytes) ≡ outcome_of (λ u. laid_pairs m words') r
  pub past : SamePast m words words'

-- READ_WORDS: the refusal, or N, M and every pair of a DIMACS file
abbrev pub DimacsRead : (room : ℕ) → (bytes words words' : List ℕ) → Result Head Refusal → Type 0
DimacsRead room bytes words words' r = WordsRead (read_dimacs room bytes) words words' r
