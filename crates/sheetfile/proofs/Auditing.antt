-- A sheet that has been read, judged.
--   check_then                                   where check accepts, the causes behind decide
--   fronts                                       the length of a buffer's front
--   of_whole                                     check of whole buffers
--   sheet_refused, check_refused, checked_some, head_judged    what each way through audit_list gives
--   says_verdict                                 the answer in C's form
-- Assumes nothing.
use Rattle.std.proofs.Common.{◌≡◌, refl, sym, ap, ◌∙◌, Bool, true, false, not, ◌&&◌, cond, eqb, List, [], ◌∷◌, ◌++◌, ℕ, ◌≤◌, length, take, take_all, length-take-le, Result, Ok, Err, arith}
use Rattle.theory.specs.Lists.{Pairs, is_list}
use Rattle.theory.specs.Groups.{is_group, inside, size}
use Rattle.theory.specs.Splits.{rounded_up}
use Rattle.theory.specs.Cores.{core_numbers}
use Rattle.theory.specs.Refusals.{Cause, cause, refusal}
use Rattle.theory.specs.Check.{check_causes, check_number}
use Rattle.theory.proofs.Tests.{tests}
use Rattle.theory.proofs.Refusals.{refusal_none, refusal_passed}
use Rattle.refusals.specs.declared.Refusal.{Refusal}
use Rattle.refusals.specs.declared.Refusal.TheVariants.{BadRatio, BadCore}
use Rattle.refusals.specs.Numbers.{number_of}
use Rattle.numbers.specs.declared.Ratio.{Ratio}
use Rattle.pairs.proofs.Causes.{refusal_first}
use Rattle.lines.specs.Outcomes.{Outcome, refused, taken, ◌>>=◌, ◌>>◌, passed, judge, outcome_of}
use Rattle.lines.proofs.Found.{numbered, judged_by}
use Rattle.lines.proofs.Taken.{refused_not_taken, taken_same}
use Rattle.verify.specs.declared.Verdict.{Verdict}
use Rattle.verify.specs.Answers.{verdict_of as answered, CheckSays}
use Rattle.sheetfile.specs.Sheet.{Sheet, read_sheet}
use Rattle.sheetfile.specs.Audit.{ratio_good, core_good, head_causes, sheet_causes, audit_sheet, verdict_of}
use Rattle.sheetfile.specs.Answers.{sheet_of, SheetRead, at_least, judged_head, ratio_line, RatioSays}
use Rattle.sheetfile.specs.declared.sheet.SheetHead.{SheetHead}
use Rattle.sheetfile.proofs.Tallies.{core_size}

-- where check accepts, the causes that stand behind decide
pub check_then : (g : Pairs) (s xs : List ℕ) (ds : List Cause) → check_number g s xs ≡ 0 → refusal (check_causes g s xs ++ ds) ≡ refusal ds
unfolding check_number check_causes
check_then g s xs ds e =
    let a = refusal_none 6 _ _ e in
    let b = refusal_none 7 _ _ a.1 in
    let c = refusal_none 8 _ _ b.1 in
    refusal_passed 7 _ _ a.0 ∙ refusal_passed 8 _ _ b.0 ∙ refusal_passed 9 _ _ c.0

-- the first entries of a buffer are as many as are asked for
pub ruleset fronts = (length-take-le)

-- what check says of the whole of two buffers
pub of_whole : {g : Pairs} {n m : ℕ} {s xs : List ℕ} {v : Verdict} → length s ≡ n → length xs ≡ m → CheckSays g (take n s) (take m xs) v → CheckSays g s xs v
of_whole {g} {n} {m} {s} {xs} ls lx c = rw (take_all n s (omega (arith, ls)), take_all m xs (omega (arith, lx))) at c

module _ (g : Pairs) (bytes : List ℕ) {s xs : List ℕ} where
  -- 101 to 106
  pub sheet_refused : {e : Refusal} → SheetRead (read_sheet g bytes) s xs (Err e) → RatioSays (audit_sheet g bytes) (Err e)
  unfolding audit_sheet ◌>>=◌ outcome_of
  sheet_refused r = record { found = rw r.found }

  module _ {h : SheetHead} (r : SheetRead (read_sheet g bytes) s xs (Ok h)) where
    abbrev read : Sheet
    read = sheet_of s xs h

    after_read : audit_sheet g bytes ≡ (do
      judge (sheet_causes g read)
      taken read)
    unfolding audit_sheet ◌>>=◌ outcome_of
    after_read = rw r.found

    -- 7, 8, 9
    pub check_refused : {e : Refusal} → CheckSays g s xs (answered (Err e)) → RatioSays (audit_sheet g bytes) (Err e)
    unfolding sheet_causes sheet_of ◌>>=◌ ◌>>◌ outcome_of check_number
    check_refused {e} c =
        let first : refusal (check_causes g s xs ++ head_causes g read) ≡ check_number g s xs =
        refusal_first (check_causes g s xs) (head_causes g read) (λ z. numbered e (c.number ∙ z)) in
        record { found = rw (after_read, judged_by e (check_causes g s xs ++ head_causes g read) (c.number ∙ sym first)) }

    module _ {q : Ratio} (c : CheckSays g s xs (answered (Ok q))) where
      -- what check accepts is a group, and no group is empty
      pub checked_some : 1 ≤ q.q
      unfolding is_group
      checked_some =
          let o = c.optimal refl in
          omega (arith, o.modules, (simp tests at o.is_a_group).1)

      module _ (good : is_list g ≡ true) {cores : List ℕ} (own : cores ≡ core_numbers g) where
        p_is : q.p ≡ inside g s
        p_is = (c.optimal refl).inside_count

        q_is : q.q ≡ size s
        q_is = (c.optimal refl).modules

        ratio_test : (eqb h.ratio.p q.p && eqb h.ratio.q q.q) ≡ ratio_good g read
        unfolding ratio_good sheet_of
        ratio_test = rw (p_is, q_is)

        core_test : h.ratio ≡ q → (eqb h.k (rounded_up q.p q.q) && eqb h.core_size (at_least h.k cores)) ≡ core_good g read
        unfolding core_good sheet_of
        core_test e = rw (← e, own, core_size g h.k good)

        -- the answer, by the two tests; u is the core line's as judge_head has it
        decided : (t u v : Bool) → (t ≡ true → h.ratio ≡ q) → (t ≡ true → u ≡ v) →
            (do
              x ← (do
                judge (cause 107 (not t) ∷ cause 108 (not v) ∷ [])
                taken read)
              taken (ratio_line x)) ≡ outcome_of (λ (x : Ratio). x) (cond t (cond u (Ok q) (Err BadCore)) (Err BadRatio))
        unfolding judge passed refusal cause ◌>>=◌ ◌>>◌ sheet_of outcome_of
        decided true u true e d = rw (d refl) (ap taken (e refl))
        decided true u false e d = rw (d refl)
        decided false u v e d = refl

        -- 107, 108, or the sheet is accepted
        pub head_judged : RatioSays (audit_sheet g bytes) (judged_head h q cores)
        unfolding judged_head sheet_causes head_causes judge sheet_of
        head_judged =
            let behind : refusal (check_causes g s xs ++ head_causes g read) ≡ refusal (head_causes g read) =
            check_then g s xs (head_causes g read) (sym c.number) in
            let same : ratio_good g read ≡ true → h.ratio ≡ q =
            λ t.
            let both = simp tests at (ratio_test ∙ t) in
            λ i. record { p = both.0 i; q = both.1 i } in
            let by_head : audit_sheet g bytes ≡ (do
              judge (head_causes g read)
              taken read) =
            after_read ∙ ap (λ (k : ℕ). ◌>>◌ {A = Unit {0}} (passed k) (taken read)) behind in
            record {
              found = rw (by_head, ratio_test) (decided (ratio_good g read) _ (core_good g read) same (λ t. core_test (same t)));
            }

-- the answer in C's form
pub says_verdict : (o : Outcome Sheet) (r : Result Ratio Refusal) → RatioSays o r → answered r ≡ verdict_of o
unfolding verdict_of ◌>>=◌ outcome_of
says_verdict (refused k) (Err e) s = let same : k ≡ number_of e = cc in rw same
says_verdict (refused k) (Ok q) s = absurd (refused_not_taken s.found)
says_verdict (taken t) (Err e) s = absurd (refused_not_taken (sym s.found))
says_verdict (taken t) (Ok q) s = rw (← taken_same s.found)
