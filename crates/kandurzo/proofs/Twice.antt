-- What 5 before 4 says of the calls (document 02, item 2).
--   past_13, file_number, five_before_four    5 for a module paired with itself, else 4 where a module is unknown
--   one_earlier, behind_13                    where one cause stands before 5 and 4
--   judged_by, judged                         the number of a line is that of its causes
--   otherwise_as_before                       the old orders: `only_twice_changes` between their other causes
-- Assumes nothing.
use mathlib.Core.Path.{◌≡◌, refl, ap, ◌∙◌}
use mathlib.Core.Bool.{Bool, true, false, ◌&&◌, not}
use mathlib.Core.List.{List, [], ◌∷◌, ◌++◌}
use Prim.Native.Nat.{ℕ, zero, suc, ◌≤◌}
use lib.Dec.{eqb}
use lib.ListN.{length}
use Rattle.theory.specs.Basics.{all}
use Rattle.theory.specs.Lists as Lists
use Rattle.theory.specs.Lists.{Pairs, weight_in_range}
use Rattle.theory.specs.Refusals.{Cause, cause, refusal, unmet}
use Rattle.theory.proofs.Tests.{tests}
use Rattle.theory.proofs.Refusals.{refusal_passed}
use Rattle.pairs.specs.Causes.{pair_causes, add_causes, remove_causes}
use Rattle.pairs.specs.Twice.{FiveElseFour, four_first, unknown_twice, From4To5, OnlyTwiceChanges}
use Rattle.pairs.proofs.Twice.{Gives, five_else_four, only_twice_changes}
use Rattle.lines.specs.Lines.{first, second}
use Rattle.lines.specs.Outcomes.{refused, taken, ◌>>=◌, ◌>>◌, passed, judge, line_or, line_due, number_given}
use Rattle.pairfile.specs.File.{pair_line_causes, pair_line}
use Rattle.pairfile.specs.Promise.{names_two, names_stops}
use Rattle.pairfile.proofs.Twice as File
use Rattle.dimacs.specs.Edges.{edge_causes, edge_line}
use Rattle.dimacs.proofs.Twice as Dimacs
use Rattle.records.specs.declared.Pair.{Pair}
use Rattle.records.specs.Records.{held_list, agrees}
use Rattle.kandurzo.specs.declared.Changed.{Changed}
use Rattle.kandurzo.specs.Listing.{add_number, remove_number}
use Rattle.kandurzo.specs.Placing.{place_number}
use Rattle.on_words.specs.Reading.{Reader}
use Rattle.kandurzo.specs.Reading.{ReadCall}
use Rattle.kandurzo.specs.Twice.{FiveBeforeFour, OtherwiseAsBefore}
use Rattle.on_words.proofs.Readings.{outcome_long}

-- ---- 5, else 4

-- where head and list agree
past_13 : (agreed : Bool) (n a b : ℕ) (later : List Cause) → agreed ≡ true →
    FiveElseFour 0 n a b (refusal (cause 13 (not agreed) ∷ (pair_causes 0 n a b ++ later)))
past_13 agreed n a b later e = rw (refusal_passed 13 (not agreed) (pair_causes 0 n a b ++ later) (rw e)) (five_else_four 0 n a b later)

-- in a file that gets the number that two modules give
file_number : {read : Reader} {bytes : List ℕ} {ps : List Pair} {work : List ℕ} {r : Changed} {ps' : List Pair} {work' : List ℕ} (lowest n a b : ℕ) →
    ReadCall read bytes ps work r ps' work' → 16384 ≤ length work →
    ((k : ℕ) → Gives lowest n a b k → read (length ps) bytes ≡ refused (suc k)) → FiveElseFour lowest n a b r.number
unfolding number_given
file_number {read = read} {bytes = bytes} {ps = ps} {work = work} {r = r} lowest n a b call long file =
    let is : (k : ℕ) → Gives lowest n a b k → r.number ≡ suc k =
    λ k g. call.number ∙ ap (number_given {A = Pairs}) (outcome_long read (length ps) (length work) bytes long ∙ file k g) in
    record {
      twice = λ e. is 4 (λ later. (five_else_four lowest n a b later).twice e);
      unknown = λ d u. is 3 (λ later. (five_else_four lowest n a b later).unknown d u);
    }

-- lines that name two modules each, and stop counts
with_counts : (n : ℕ) (ls : List Lists.Pair) → all (names_two n) ls ≡ true → all weight_in_range ls ≡ true → all (names_stops n) ls ≡ true
unfolding all names_stops
with_counts n [] e d = refl
with_counts n (l ∷ ls) e d =
    let e' = simp tests at e in
    let d' = simp tests at d in
    simp tests ((e'.0, d'.0), with_counts n ls e'.1 d'.1)

pub five_before_four : FiveBeforeFour
unfolding add_number remove_number place_number add_causes remove_causes pair_causes held_list
five_before_four =
    record {
      add = λ h ps a b w r ps' says agreed. rw says.number (past_13 (agrees h ps) h.n a b _ agreed);
      remove = λ h ps a b r ps' says agreed. rw says.number (past_13 (agrees h ps) h.n a b _ agreed);
      place = λ h ps a b r says agreed. rw says.number (past_13 (agrees h ps) h.n a b [] agreed);
      read = λ n m a b w lines rest ps work r ps' work' u counts la lb lw call.
          file_number 0 n a b call u.long
          (λ k gives. File.file_refused n m a b w k lines rest u.few_modules (with_counts n lines u.two counts) u.once u.more la lb lw gives
          (length ps) u.some_modules u.few_pairs u.room);
      read_dimacs = λ n m a b lines rest ps work r ps' work' u la lb call.
          file_number 1 n a b call u.long
          (λ k gives. Dimacs.file_refused n m a b k lines rest u.few_modules u.two u.once u.more la lb gives
          (length ps) u.some_modules u.few_pairs u.room);
    }

-- ---- the old orders

-- where one cause stands before 5 and 4
one_earlier : (number : ℕ) (met : Bool) (lowest n a b : ℕ) (later : List Cause) →
    From4To5 (not met && unknown_twice lowest n a b)
    (refusal (cause number met ∷ (four_first lowest n a b ++ later)))
    (refusal (cause number met ∷ (pair_causes lowest n a b ++ later)))
unfolding OnlyTwiceChanges all unmet cause
one_earlier k true lowest n a b later = only_twice_changes lowest n a b (cause k true ∷ []) later
one_earlier k false lowest n a b later = only_twice_changes lowest n a b (cause k false ∷ []) later

-- where that is 13, head and list agreeing or not
behind_13 : (agreed : Bool) (n a b : ℕ) (later : List Cause) →
    From4To5 (agreed && unknown_twice 0 n a b)
    (refusal (cause 13 (not agreed) ∷ (four_first 0 n a b ++ later)))
    (refusal (cause 13 (not agreed) ∷ (pair_causes 0 n a b ++ later)))
behind_13 true n a b later = one_earlier 13 false 0 n a b later
behind_13 false n a b later = one_earlier 13 true 0 n a b later

-- the number of a line that is judged by causes
judged_by : {A : Type 0} (x : A) (k : ℕ) → number_given (◌>>◌ (passed k) (taken x)) ≡ k
unfolding passed number_given ◌>>◌
judged_by x zero = refl
judged_by x (suc k) = refl

judged : {A : Type 0} (x : A) (cs : List Cause) → number_given (◌>>◌ (judge cs) (taken x)) ≡ refusal cs
unfolding judge
judged x cs = judged_by x (refusal cs)

pub otherwise_as_before : OtherwiseAsBefore
unfolding OnlyTwiceChanges all add_number remove_number add_causes remove_causes held_list pair_line pair_line_causes edge_line edge_causes line_due line_or
    ◌>>=◌
otherwise_as_before =
    record {
      add = λ h ps a b w r ps' says. rw says.number (behind_13 (agrees h ps) h.n a b _);
      remove = λ h ps a b r ps' says. rw says.number (behind_13 (agrees h ps) h.n a b _);
      pair_line = λ n held bytes l found. rw (found, judged _ _) (only_twice_changes 0 n (first l) (second l) [] _);
      edge_line = λ n left held bytes l found. rw (found, judged _ _) (one_earlier 17 (eqb left 0) 1 n (first l) (second l) _);
    }
