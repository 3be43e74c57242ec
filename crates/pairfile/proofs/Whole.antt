-- The whole file, put together from its lines.
--   same_all, same_more                    words that have not been written, and fewer that may have been
--   file_refused, file_taken               the answer for each outcome
--   first_malformed, first_unfit           refused on the first line: 1, 2
--   second_malformed, second_unfit         refused on the second: 1, 3, 11
--   pairs_few                              M is at most 4,096
--   pairs_refused, pairs_taken             refused after them, or the list
-- Assumes nothing.
use Rattle.std.proofs.Common.{◌≡◌, refl, ◌∙◌, List, [], ◌∷◌, ℕ, ◌+◌, ◌≤◌, Some, None, Ok, Err, arith}
use Rattle.theory.specs.Lists.{Pairs}
use Rattle.theory.specs.Words.{laid_list}
use Rattle.theory.specs.Refusals.{Cause, refusal}
use Rattle.theory.proofs.Words.{length_laid}
use Rattle.refusals.specs.declared.Refusal.{Refusal}
use Rattle.refusals.specs.declared.Refusal.TheVariants.{BadLine}
use Rattle.refusals.specs.Numbers.{number_of}
use Rattle.pairs.proofs.General.{drop_more}
use Rattle.lines.specs.Lines.{first, line_of}
use Rattle.lines.specs.Outcomes.{Outcome, refused, taken, ◌>>=◌, ◌>>◌, line_or, line_due, outcome_of}
use Rattle.lines.proofs.Found.{judged_by, judge_passed}
use Rattle.pairfile.specs.File.{
  modules_form,
  pairs_form,
  head_line,
  modules_causes,
  modules_line,
  pairs_causes,
  pairs_line,
  read_pairs,
  read_file,
}
use Rattle.pairfile.specs.Answers.{SamePast, PairsRead, pairs_used, WordsRead, FileRead}
use Rattle.pairfile.proofs.Taken.{pairs_unmet}

-- words that have not been written, and fewer that may have been
pub same_all : (words : List ℕ) → SamePast 4096 words words
same_all words = record { between = λ t h l. refl; beyond = refl }

pub same_more : (m k : ℕ) (old words : List ℕ) → m ≤ k → SamePast m old words → SamePast k old words
same_more m k old words h s =
    record { between = λ t j l. s.between t (omega arith) l; beyond = drop_more (8192 + m) (8192 + k) words old (omega arith) s.beyond }

-- what any reader of words answers
module _ {due : Outcome Pairs} {old words : List ℕ} where
  -- where a file is refused
  pub file_refused : (e : Refusal) → due ≡ refused (number_of e) → SamePast 4096 old words → WordsRead due old words (Err e)
  unfolding outcome_of pairs_used
  file_refused e d p = record { found = d; past = rw d p }

  -- and where one is taken
  pub file_taken : (n m : ℕ) → due ≡ taken (laid_list n m words) → SamePast m old words → WordsRead due old words (Ok (record { n = n; m = m }))
  unfolding outcome_of pairs_used laid_list
  file_taken n m d p = record { found = d; past = rw (d, length_laid m words) p }

-- the first line or the second, judged by its causes
module _ (form : List ℕ) (causes : ℕ → List Cause) (bs : List ℕ) where
  -- no line of the form
  head_malformed : line_of 4 form bs ≡ None → head_line form causes bs ≡ refused 1
  unfolding head_line line_due line_or ◌>>=◌
  head_malformed f = rw f

  module _ (v : ℕ) (left : List ℕ) (f : line_of 4 form bs ≡ Some (record { numbers = v ∷ []; rest = left })) where
    -- a cause is met
    head_unfit : (e : Refusal) → number_of e ≡ refusal (causes v) → head_line form causes bs ≡ refused (number_of e)
    unfolding head_line line_due line_or first ◌>>=◌ ◌>>◌
    head_unfit e h = rw (f, judged_by e (causes v) h)

    -- none is
    head_fit : refusal (causes v) ≡ 0 → head_line form causes bs ≡ taken (record { numbers = v ∷ []; rest = left })
    unfolding head_line line_due line_or first ◌>>=◌ ◌>>◌
    head_fit h = rw (f, judge_passed (causes v) h)

module _ (room : ℕ) (bs old : List ℕ) where
  -- 1
  pub first_malformed : line_of 4 modules_form bs ≡ None → FileRead room bs old old (Err BadLine)
  unfolding read_file modules_line ◌>>=◌
  first_malformed f = file_refused BadLine (rw (head_malformed modules_form modules_causes bs f)) (same_all old)

  module _ (n : ℕ) (after : List ℕ) (f : line_of 4 modules_form bs ≡ Some (record { numbers = n ∷ []; rest = after })) where
    -- 2
    pub first_unfit : (e : Refusal) → number_of e ≡ refusal (modules_causes n) → FileRead room bs old old (Err e)
    unfolding read_file modules_line ◌>>=◌
    first_unfit e h = file_refused e (rw (head_unfit modules_form modules_causes bs n after f e h)) (same_all old)

    module _ (fit : refusal (modules_causes n) ≡ 0) where
      from_second : read_file room bs ≡ (do
        k ← pairs_line room after
        ps ← read_pairs n (first k) [] k.rest
        taken (record { n = n; pairs = ps }))
      unfolding read_file modules_line first ◌>>=◌
      from_second = rw (head_fit modules_form modules_causes bs n after f fit)

      -- 1
      pub second_malformed : line_of 4 pairs_form after ≡ None → FileRead room bs old old (Err BadLine)
      unfolding pairs_line ◌>>=◌
      second_malformed g =
          file_refused BadLine (from_second ∙ rw (head_malformed pairs_form (pairs_causes room) after g)) (same_all old)

      module _ (m : ℕ) (left : List ℕ) (g : line_of 4 pairs_form after ≡ Some (record { numbers = m ∷ []; rest = left })) where
        -- 3, 11
        pub second_unfit : (e : Refusal) → number_of e ≡ refusal (pairs_causes room m) → FileRead room bs old old (Err e)
        unfolding pairs_line ◌>>=◌
        second_unfit e h =
            file_refused e (from_second ∙ rw (head_unfit pairs_form (pairs_causes room) after m left g e h)) (same_all old)

        module _ (fits : refusal (pairs_causes room m) ≡ 0) where
          -- M is at most 4,096
          pub pairs_few : m ≤ 4096
          pairs_few = (pairs_unmet room m fits).0

          from_third : read_file room bs ≡ (do
            ps ← read_pairs n m [] left
            taken (record { n = n; pairs = ps }))
          unfolding pairs_line first ◌>>=◌
          from_third = from_second ∙ rw (head_fit pairs_form (pairs_causes room) after m left g fits)

          -- refused after them
          pub pairs_refused : {e : Refusal} {words : List ℕ} → PairsRead left n m old words (Err e) → FileRead room bs old words (Err e)
          unfolding outcome_of ◌>>=◌
          pairs_refused {e} {words} p = file_refused e (from_third ∙ rw p.found) (same_more m 4096 old words pairs_few p.past)

          -- the list
          pub pairs_taken : {words : List ℕ} → PairsRead left n m old words (Ok tt) → FileRead room bs old words (Ok (record { n = n; m = m }))
          unfolding outcome_of laid_list ◌>>=◌
          pairs_taken p = file_taken n m (from_third ∙ rw p.found) p.past
