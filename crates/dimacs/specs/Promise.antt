-- Document 02, item 1: what is promised of DIMACS files.
--   once_each, WrittenReadsOnce    a list that is written and read has the same pairs, each with the count 1
--   WrittenReadsBack     so a list of ones is the same list
--   WrittenPlain          what is written has no comments and names the pairs in list order
--   pair_on, named_on, named    the pairs named on a file's `e` lines, in file order, as written less 1
--   Rewritten              an accepted file without comments, in list order and with the smaller module first, is rewritten byte for byte
--   TakenAs, ReadsLists  whatever is taken is a list whose pairs are exactly those named less 1
--   ReadsBack             the file of a list of ones reads back as that list, for every order of its pairs, either module first
--   ReadsEvery            every file of different pairs is taken
--   CommentsNothing       taking the comments out changes neither a file's number nor its list
--   whole_lines, CommentAnywhere    nor does a comment put in at the start or behind any line
--   is_dimacs_number, OnlyThese    a file is refused by no other numbers than 16, 2, 3, 11, 17, 5, 4 and 10
--   WrittenFits           65,536 bytes hold the file of any list
-- proofs/Promises.antt has a theorem for each, of the same name in small letters. Assumes nothing: these are definitions.
use Rattle.std.specs.Prelude.{◌≡◌, Bool, true, ◌||◌, List, [], ◌∷◌, ◌++◌, map, ℕ, ◌-◌, ◌≤◌, eqb, length, Option, Some, None}
use Rattle.theory.specs.Basics.{all}
use Rattle.theory.specs.Lists.{Pair, Pairs, pair, smaller_first, rising, is_list}
use Rattle.lines.specs.Text.{between}
use Rattle.lines.specs.Lines.{Line, first, second, line_of}
use Rattle.lines.specs.Outcomes.{refused, taken}
use Rattle.pairfile.specs.Promise.{Names, all_once, names_two, Different}
use Rattle.dimacs.specs.Comments.{is_comment, first_line, plain_lines, without_comments}
use Rattle.dimacs.specs.Edges.{edge_form, read_dimacs, dimacs_file, dimacs_of}

-- the list with the count 1 on each pair
unfoldable pub once_each : Pairs → Pairs
once_each g = record { n = g.n; pairs = map (λ p. pair p.a p.b) g.pairs }

-- A LIST THAT IS WRITTEN AND READ HAS THE SAME PAIRS, EACH WITH THE COUNT 1: a DIMACS file has no counts (document 02, item 4)
unfoldable pub WrittenReadsOnce : Type 0
WrittenReadsOnce = (room : ℕ) (g : Pairs) → is_list g ≡ true → length g.pairs ≤ room → read_dimacs room (dimacs_of g) ≡ taken (once_each g)

-- A LIST OF ONES THAT IS WRITTEN AND READ IS THE SAME LIST
unfoldable pub WrittenReadsBack : Type 0
WrittenReadsBack =
    (room : ℕ) (g : Pairs) → is_list g ≡ true → all_once g.pairs ≡ true → length g.pairs ≤ room → read_dimacs room (dimacs_of g) ≡ taken g

-- the pair on a line in front of others, if the line is an `e` line
unfoldable pub pair_on : Option Line → List Pair → List Pair
pair_on None ps = ps
pair_on (Some l) ps = pair (first l - 1) (second l - 1) ∷ ps

-- the pairs named on `e` lines, in their order, as written less 1 (0 stays 0; no file that is taken has it)
unfoldable pub named_on : (lines : List (List ℕ)) → List Pair
named_on [] = []
named_on (l ∷ ls) = pair_on (line_of 4 edge_form l) (named_on ls)

-- those of a file
unfoldable pub named : (bytes : List ℕ) → List Pair
named bs = named_on (plain_lines bs)

-- WHAT IS WRITTEN HAS NO COMMENTS, AND NAMES THE PAIRS IN LIST ORDER, the smaller module first
unfoldable pub WrittenPlain : Type 0
WrittenPlain =
    (g : Pairs) → is_list g ≡ true → (without_comments (dimacs_of g) ≡ dimacs_of g) × (named (dimacs_of g) ≡ (once_each g).pairs)

-- AN ACCEPTED FILE (one that is taken) WITHOUT COMMENTS, IN LIST ORDER AND WITH THE SMALLER MODULE FIRST, IS REWRITTEN BYTE FOR BYTE
unfoldable pub Rewritten : Type 0
Rewritten =
    (room : ℕ) (bytes : List ℕ) (g : Pairs) → read_dimacs room bytes ≡ taken g → without_comments bytes ≡ bytes →
    rising (named bytes) ≡ true → all smaller_first (named bytes) ≡ true → dimacs_of g ≡ bytes

-- the bytes, less their comments, are the file of a list g
pub record TakenAs (room : ℕ) (bytes : List ℕ) (g : Pairs) : Type 0 where
  -- it is a list as it is held, and fits the records lent
  pub list : is_list g ≡ true
  pub once : all_once g.pairs ≡ true
  pub fits : length g.pairs ≤ room
  -- the pairs are exactly those named less 1, on M lines, and the bytes less comments are the file of them
  pub names : Names (named bytes) g.pairs
  pub as_many : length (named bytes) ≡ length g.pairs
  pub file : without_comments bytes ≡ dimacs_file g.n (named bytes)

-- WHATEVER IS TAKEN IS A LIST WHOSE PAIRS ARE EXACTLY THOSE NAMED LESS 1
unfoldable pub ReadsLists : Type 0
ReadsLists = (room : ℕ) (bytes : List ℕ) (g : Pairs) → read_dimacs room bytes ≡ taken g → TakenAs room bytes g

-- THE FILE OF A LIST OF ONES READS BACK AS THAT LIST, for every order of its pairs and either module first on each line
unfoldable pub ReadsBack : Type 0
ReadsBack =
    (room : ℕ) (g : Pairs) (lines : List Pair) → is_list g ≡ true → all_once g.pairs ≡ true → length g.pairs ≤ room →
    Names lines g.pairs → read_dimacs room (dimacs_file g.n lines) ≡ taken g

-- EVERY FILE OF DIFFERENT PAIRS IS TAKEN, of 1 to 512 modules and up to 4,096 pairs, where there is room; in whatever order they come and whichever module
-- stands first on a line; as the list of exactly these pairs. CommentAnywhere adds the comments
unfoldable pub ReadsEvery : Type 0
ReadsEvery =
    (room n : ℕ) (lines : List Pair) → 1 ≤ n → n ≤ 512 → length lines ≤ 4096 → length lines ≤ room →
    all (names_two n) lines ≡ true → Different lines →
    (g : Pairs) × (read_dimacs room (dimacs_file n lines) ≡ taken g) × (g.n ≡ n) × (length g.pairs ≡ length lines) × Names lines g.pairs

-- TAKING THE COMMENTS OUT OF A FILE CHANGES NEITHER ITS NUMBER NOR ITS LIST
unfoldable pub CommentsNothing : Type 0
CommentsNothing = (room : ℕ) (bytes : List ℕ) → read_dimacs room (without_comments bytes) ≡ read_dimacs room bytes

-- nothing, or bytes that end in LF
unfoldable pub whole_lines : List ℕ → Bool
whole_lines [] = true
whole_lines (b ∷ []) = eqb b 10
whole_lines (b ∷ c ∷ cs) = whole_lines (c ∷ cs)

-- NOR DOES A COMMENT PUT IN, at the start, behind any line, or at the end
unfoldable pub CommentAnywhere : Type 0
CommentAnywhere =
    (room : ℕ) (before comment after : List ℕ) → whole_lines before ≡ true → is_comment comment ≡ true → first_line comment ≡ comment →
    read_dimacs room (before ++ (comment ++ after)) ≡ read_dimacs room (before ++ after)

-- the reader's numbers; 12 is the caller's, and 13 is of no file
unfoldable pub is_dimacs_number : ℕ → Bool
is_dimacs_number k = between 2 5 k || (between 10 11 k || between 16 17 k)

-- A FILE IS REFUSED BY 2, 3, 4, 5, 10, 11, 16 OR 17
unfoldable pub OnlyThese : Type 0
OnlyThese = (room : ℕ) (bytes : List ℕ) (k : ℕ) → read_dimacs room bytes ≡ refused k → is_dimacs_number k ≡ true

-- 65,536 BYTES HOLD THE FILE OF ANY LIST
unfoldable pub WrittenFits : Type 0
WrittenFits = (g : Pairs) → is_list g ≡ true → length (dimacs_of g) ≤ 65536
