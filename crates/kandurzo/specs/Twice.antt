-- Document 02, item 2: a line with a module twice is a typing fault. 5 now comes before 4 in add, remove and both readers, and so in place (item 3), which
-- refuses as remove does, except by 14. Only the answers for a module of number N or more paired with itself change, from 4 to 5. A DIMACS `e 0 0` becomes
-- 5 too.
--   Unrefused              what is lent to a reader, and the lines of a file up to one, give no number
--   FiveBeforeFour       a module paired with itself gives 5, be it one of the list's or not; two different modules give 4 where the list lacks one
--   OtherwiseAsBefore    the numbers of add and remove, and of a line of either file, beside those of the same orders with 4 before 5
-- A statement is a type; proofs/Promises.antt has a theorem for each, of the same name in small letters. Assumes nothing: these are definitions.
use Rattle.std.specs.Prelude.{◌≡◌, true, ◌&&◌, not, List, [], ◌∷◌, ◌++◌, ℕ, ◌≤◌, ◌<◌, eqb, length, Some}
use Rattle.theory.specs.Basics.{all}
use Rattle.theory.specs.Lists as Lists
use Rattle.theory.specs.Refusals.{cause, refusal}
use Rattle.pairs.specs.Held.{is_held, smaller_first_pair}
use Rattle.pairs.specs.Causes.{count_causes, count_passes}
use Rattle.pairs.specs.Twice.{FiveElseFour, four_first, unknown_twice, From4To5}
use Rattle.lines.specs.Lines.{Line, first, second, third, line_of, filled}
use Rattle.pairfile.specs.File.{modules_form, pairs_form, pair_form, pair_line, read_file, pair_lines}
use Rattle.pairfile.specs.Promise.{names_two, Different}
use Rattle.lines.specs.Outcomes.{number_given}
use Rattle.dimacs.specs.Edges.{problem_form, edge_form, named_pair, edge_line, read_dimacs, edge_lines}
use Rattle.records.specs.declared.Pair.{Pair}
use Rattle.records.specs.declared.Head.{Head}
use Rattle.records.specs.Records.{held_list, agrees}
use Rattle.kandurzo.specs.declared.Changed.{Changed}
use Rattle.on_words.specs.declared.Placed.{Placed}
use Rattle.on_words.specs.Edits.{is_full}
use Rattle.kandurzo.specs.Listing.{AddSays, RemoveSays}
use Rattle.kandurzo.specs.Placing.{PlaceSays}
use Rattle.kandurzo.specs.Reading.{ReadCall}

-- lent buffers, N and M, and lines that name pairs, which give no number: the next line decides
pub record Unrefused (n m : ℕ) (lines : List Lists.Pair) (ps : List Pair) (work : List ℕ) : Type 0 where
  pub long : 16384 ≤ length work
  pub some_modules : 1 ≤ n
  pub few_modules : n ≤ 512
  pub few_pairs : m ≤ 4096
  pub room : m ≤ length ps
  -- different pairs of the list's modules, and fewer than M
  pub two : all (names_two n) lines ≡ true
  pub once : Different lines
  pub more : length lines < m

-- A MODULE PAIRED WITH ITSELF GIVES 5, BE IT ONE OF THE LIST'S OR NOT; TWO DIFFERENT MODULES GIVE 4 WHERE THE LIST LACKS ONE: once no earlier cause is met
pub record FiveBeforeFour : Type 0 where
  -- where head and list agree (else 13)
  pub add : (h : Head) (ps : List Pair) (a b w : ℕ) (r : Changed) (ps' : List Pair) →
      AddSays h ps a b w r ps' → agrees h ps ≡ true → FiveElseFour 0 h.n a b r.number
  pub remove : (h : Head) (ps : List Pair) (a b : ℕ) (r : Changed) (ps' : List Pair) →
      RemoveSays h ps a b r ps' → agrees h ps ≡ true → FiveElseFour 0 h.n a b r.number
  pub place : (h : Head) (ps : List Pair) (a b : ℕ) (r : Placed) → PlaceSays h ps a b r → agrees h ps ≡ true → FiveElseFour 0 h.n a b r.number
  -- on a pair line, whatever follows it
  pub read : (n m a b w : ℕ) (lines : List Lists.Pair) (rest : List ℕ) (ps : List Pair) (work : List ℕ) (r : Changed) (ps' : List Pair) (work' : List ℕ) →
      Unrefused n m lines ps work → all Lists.weight_in_range lines ≡ true → a ≤ 9999 → b ≤ 9999 → w ≤ 9999 →
      ReadCall read_file
      (filled modules_form (n ∷ []) ++ (filled pairs_form (m ∷ []) ++ (pair_lines pair_form lines ++ (filled pair_form (a ∷ b ∷ w ∷ []) ++ rest))))
      ps work r ps' work' →
      FiveElseFour 0 n a b r.number
  -- on an `e` line, whatever follows it (comments change nothing: CommentsUnread in Exchange)
  pub read_dimacs : (n m a b : ℕ) (lines : List Lists.Pair) (rest : List ℕ) (ps : List Pair) (work : List ℕ) (r : Changed) (ps' : List Pair)
      (work' : List ℕ) →
      Unrefused n m lines ps work → a ≤ 9999 → b ≤ 9999 →
      ReadCall read_dimacs (filled problem_form (n ∷ m ∷ []) ++ (edge_lines lines ++ (filled edge_form (a ∷ b ∷ []) ++ rest))) ps work r ps' work' →
      FiveElseFour 1 n a b r.number

-- THE NUMBERS OF ADD AND REMOVE, AND OF A LINE OF EITHER FILE, ARE THOSE OF THE SAME ORDERS WITH 4 BEFORE 5, but for a module of number N or more (in a DIMACS
-- file, of number 0 or above N) paired with itself: there, unless 13 or 17 comes first, 4 before 5 gives 4 and the order that holds gives 5
pub record OtherwiseAsBefore : Type 0 where
  -- add, with 4 before 5: 13, 4, 5, 18, 19, 11
  pub add : (h : Head) (ps : List Pair) (a b w : ℕ) (r : Changed) (ps' : List Pair) → AddSays h ps a b w r ps' →
      let p = smaller_first_pair a b in
      let held = (held_list h ps).pairs in
      let later = count_causes w ++ (cause 19 (count_passes p w held) ∷ cause 11 (not (is_held p held) && is_full h (length ps)) ∷ []) in
      let old = refusal (cause 13 (not (agrees h ps)) ∷ (four_first 0 h.n a b ++ later)) in
      From4To5 (agrees h ps && unknown_twice 0 h.n a b) old r.number
  -- remove, whose old order is 13, 4, 5, 14
  pub remove : (h : Head) (ps : List Pair) (a b : ℕ) (r : Changed) (ps' : List Pair) → RemoveSays h ps a b r ps' →
      let later = cause 14 (not (is_held (smaller_first_pair a b) (held_list h ps).pairs)) ∷ [] in
      let old = refusal (cause 13 (not (agrees h ps)) ∷ (four_first 0 h.n a b ++ later)) in
      From4To5 (agrees h ps && unknown_twice 0 h.n a b) old r.number
  -- a pair line of the form due (any other gives 1), with 4 before 5: 4, 5, 18, 10
  pub pair_line : (n : ℕ) (held : List Lists.Pair) (bytes : List ℕ) (l : Line) → line_of 4 pair_form bytes ≡ Some l →
      let later = count_causes (third l) ++ (cause 10 (is_held (smaller_first_pair (first l) (second l)) held) ∷ []) in
      let old = refusal (four_first 0 n (first l) (second l) ++ later) in
      From4To5 (unknown_twice 0 n (first l) (second l)) old (number_given (pair_line n held bytes))
  -- an `e` line (any other gives 16), whose old order is 17, 4, 5, 10
  pub edge_line : (n left : ℕ) (held : List Lists.Pair) (bytes : List ℕ) (l : Line) → line_of 4 edge_form bytes ≡ Some l →
      let later = cause 10 (is_held (named_pair (first l) (second l)) held) ∷ [] in
      let old = refusal (cause 17 (eqb left 0) ∷ (four_first 1 n (first l) (second l) ++ later)) in
      From4To5 (not (eqb left 0) && unknown_twice 1 n (first l) (second l)) old (number_given (edge_line n left held bytes))
