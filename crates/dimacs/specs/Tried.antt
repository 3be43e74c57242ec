-- Files tried of the definition: each with the refusal number that it gives into a list of three records, and 0 where it is taken.
--   tried             the files
--   tried_rightly, TriedRight    whether one gives its number; that all do
-- The theorem is tried_right (proofs/Tried.antt). Assumes nothing: these are definitions.
use Rattle.std.specs.Prelude.{◌≡◌, Bool, true, List, [], ◌∷◌, eqb}
use Rattle.theory.specs.Basics.{all}
use Rattle.lines.specs.Text.{text}
use Rattle.pairfile.specs.Tried.{number_given, Try, try}
use Rattle.dimacs.specs.Edges.{read_dimacs}

-- taken, and then refused, in the order of the numbers of each line
unfoldable pub tried : List Try
tried =
    try "p edge 3 2\ne 2 1\ne 2 3\n" 0
    ∷ try "c\nc the list of May\np edge 3 2\nc \ne 2 1\nc 17 4 5\ne 2 3\nc last\n" 0
    ∷ try "c \r\np edge 1 0\nc p edge 1 0\nc c\n" 0
    ∷ try "p edge 1 0\n" 0
    ∷ try "p edge 512 0\n" 0
    ∷ try "p edge 3 3\ne 3 1\ne 1 2\ne 2 3\n" 0
    ∷ try "p edge 512 1\ne 512 1\n" 0
    ∷ try "" 16
    ∷ try "c\n" 16
    ∷ try "c" 16
    ∷ try "c p edge 1 0" 16
    ∷ try "cx\np edge 1 0\n" 16
    ∷ try "c\r\np edge 1 0\n" 16
    ∷ try "c\tx\np edge 1 0\n" 16
    ∷ try " c\np edge 1 0\n" 16
    ∷ try "\np edge 1 0\n" 16
    ∷ try "e 1 2\np edge 2 1\n" 16
    ∷ try "p col 1 0\n" 16
    ∷ try "p edge 01 0\n" 16
    ∷ try "p edge 2 10000\n" 16
    ∷ try "p\tedge 2 0\n" 16
    ∷ try "p edge 1 0" 16
    ∷ try "p edge 1 0\r\n" 16
    ∷ try "p edge 0 4097\n" 2
    ∷ try "p edge 513 0\n" 2
    ∷ try "p edge 9999 0\n" 2
    ∷ try "p edge 2 4097\n" 3
    ∷ try "p edge 2 4\n" 11
    ∷ try "p edge 2 4096\n" 11
    ∷ try "p edge 2 0\np edge 2 0\n" 16
    ∷ try "p edge 2 1\ne 1 2\np edge 2 1\n" 16
    ∷ try "p edge 2 1\ne 1 2" 16
    ∷ try "p edge 2 1\ne 1  2\n" 16
    ∷ try "p edge 2 1\ne 01 2\n" 16
    ∷ try "p edge 2 1\ne 10000 1\n" 16
    ∷ try "p edge 2 2\ne 1 2" 16
    ∷ try "p edge 2 1\ne 1 2\ne 1 x\n" 16
    ∷ try "p edge 2 1\ne 1 2\n\n" 16
    ∷ try "p edge 2 1\ne 1 2\nc the end" 16
    ∷ try "p edge 2 0\ne 1 2" 16
    ∷ try "p edge 2 1\n" 17
    ∷ try "p edge 2 1\nc e 1 2\n" 17
    ∷ try "p edge 2 1\ne 1 2\ne 9 9\n" 17
    ∷ try "p edge 2 1\ne 1 2\ne 1 1\n" 17
    ∷ try "p edge 2 1\ne 1 2\ne 2 1\n" 17
    ∷ try "p edge 2 0\ne 0 0\n" 17
    ∷ try "p edge 5 1\ne 5 5\n" 5
    ∷ try "p edge 5 1\ne 9 9\n" 5
    ∷ try "p edge 5 1\ne 0 0\n" 5
    ∷ try "p edge 2 1\ne 0 1\n" 4
    ∷ try "p edge 2 1\ne 1 3\n" 4
    ∷ try "p edge 2 1\ne 9999 1\n" 4
    ∷ try "p edge 5 1\ne 6 7\n" 4
    ∷ try "p edge 5 1\ne 0 6\n" 4
    ∷ try "p edge 5 2\ne 1 2\ne 0 2\n" 4
    ∷ try "p edge 5 2\ne 1 2\ne 2 1\n" 10
    ∷ []

-- whether a file gives its number
unfoldable pub tried_rightly : Try → Bool
tried_rightly t = eqb (number_given (read_dimacs 3 (text t.file))) t.gives

-- EACH FILE GIVES ITS NUMBER
unfoldable pub TriedRight : Type 0
TriedRight = all tried_rightly tried ≡ true
