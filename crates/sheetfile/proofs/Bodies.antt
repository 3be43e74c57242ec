-- The parts of a sheet put together: what each way through read_sheet gives.
--   members_refused, numbers_refused, shares_refused, bytes_follow, body_whole       the lines after the head
--   head_missing, head_unfit, body_refused, sheet_whole                              the whole sheet
-- Assumes nothing.
use Rattle.std.proofs.Common.{◌≡◌, ◌∙◌, true, false, List, [], ℕ, ◌≤◌, ◌<◌, length, get_or, replicate, Ok, Err}
use borrow.Author.Tests.{lt-ltb, le-ltb}
use Rattle.theory.specs.Lists.{Pairs}
use Rattle.theory.specs.Cores.{core_numbers}
use Rattle.theory.specs.Refusals.{cause, refusal}
use Rattle.refusals.specs.declared.Refusal.{Refusal}
use Rattle.refusals.specs.declared.Refusal.TheVariants.{BadGroupSize, SheetGoesOn}
use Rattle.refusals.specs.Numbers.{number_of}
use Rattle.lines.specs.Text.{between}
use Rattle.lines.specs.Lines.{first, second, third, fourth}
use Rattle.lines.specs.Outcomes.{Outcome, refused, taken, ◌>>=◌, ◌>>◌, judge, outcome_of}
use Rattle.lines.proofs.Found.{judged_by, judge_passed}
use Rattle.sheetfile.specs.Sheet.{
  head_form,
  Body,
  read_members,
  read_numbers,
  read_shares,
  rest_causes,
  read_body,
  sheet,
  ratio_causes,
  read_sheet,
}
use Rattle.sheetfile.specs.Answers.{LineDue, PartRead, NumbersRead, sheet_of, SheetRead}

-- ---- the lines after the head

module _ (g : Pairs) (q : ℕ) (bs : List ℕ) {cores s₀ : List ℕ} (own : cores ≡ core_numbers g) (unmarked : s₀ ≡ replicate g.n 0) where
  abbrev body : Outcome Body
  body = read_body g q bs

  members_first : body ≡ (do
    members ← read_members q 0 s₀ bs
    rest ← read_numbers cores members.rest
    shares ← read_shares g.pairs [] rest
    judge (rest_causes shares.rest)
    taken (record { members = members.entries; shares = shares.entries }))
  unfolding read_body
  members_first = rw (unmarked, own)

  -- 101, 103
  pub members_refused : {s left : List ℕ} {e : Refusal} → PartRead (read_members q 0 s₀ bs) s (Err e) left → body ≡ refused (number_of e)
  unfolding ◌>>=◌ outcome_of
  members_refused f = members_first ∙ rw f.found

  module _ {s l₁ : List ℕ} (f₁ : PartRead (read_members q 0 s₀ bs) s (Ok tt) l₁) where
    -- 101, 104
    pub numbers_refused : {left : List ℕ} {e : Refusal} → NumbersRead (read_numbers cores l₁) (Err e) left → body ≡ refused (number_of e)
    unfolding ◌>>=◌ outcome_of
    numbers_refused f = members_first ∙ rw (f₁.found, f.found)

    module _ {l₂ : List ℕ} (f₂ : NumbersRead (read_numbers cores l₁) (Ok tt) l₂) where
      -- 101, 105
      pub shares_refused : {xs left : List ℕ} {e : Refusal} → PartRead (read_shares g.pairs [] l₂) xs (Err e) left → body ≡ refused (number_of e)
      unfolding ◌>>=◌ outcome_of
      shares_refused f = members_first ∙ rw (f₁.found, f₂.found, f.found)

      module _ {xs l₃ : List ℕ} (f₃ : PartRead (read_shares g.pairs [] l₂) xs (Ok tt) l₃) where
        at_end : body ≡ (do
          judge (rest_causes l₃)
          taken (record { members = s; shares = xs }))
        unfolding ◌>>=◌ outcome_of
        at_end = members_first ∙ rw (f₁.found, f₂.found, f₃.found)

        -- 106
        pub bytes_follow : 0 < length l₃ → body ≡ refused 106
        unfolding ◌>>◌ outcome_of rest_causes cause refusal
        bytes_follow h = at_end ∙ rw (judged_by SheetGoesOn (rest_causes l₃) (rw (lt-ltb 0 (length l₃) h)))

        -- all lines have been read
        pub body_whole : length l₃ ≤ 0 → body ≡ taken (record { members = s; shares = xs })
        unfolding ◌>>◌ outcome_of rest_causes cause refusal
        body_whole h = at_end ∙ rw (judge_passed (rest_causes l₃) (rw (le-ltb 0 (length l₃) h)))

-- ---- the whole sheet

module _ (g : Pairs) {bs : List ℕ} where
  -- 101
  pub head_missing : {s xs left : List ℕ} {e : Refusal} → LineDue 7 head_form bs (Err e) left → SheetRead (read_sheet g bs) s xs (Err e)
  unfolding read_sheet ◌>>=◌ outcome_of
  head_missing f = record { found = rw f.found }

  module _ {ns left : List ℕ} (f : LineDue 7 head_form bs (Ok ns) left) where
    abbrev q : ℕ
    q = get_or ns 1 0

    after_head : read_sheet g bs ≡ (do
      judge (ratio_causes g.n q)
      body ← read_body g q left
      taken (sheet (record { numbers = ns; rest = left }) body))
    unfolding read_sheet ◌>>=◌ outcome_of second
    after_head = rw f.found

    -- 102
    pub head_unfit : {s xs : List ℕ} → between 1 g.n q ≡ false → SheetRead (read_sheet g bs) s xs (Err BadGroupSize)
    unfolding ◌>>◌ outcome_of ratio_causes cause refusal
    head_unfit h = record { found = after_head ∙ rw (judged_by BadGroupSize (ratio_causes g.n q) (rw h)) }

    module _ (fit : between 1 g.n q ≡ true) where
      body_next : read_sheet g bs ≡ (do
        body ← read_body g q left
        taken (sheet (record { numbers = ns; rest = left }) body))
      unfolding ◌>>◌ ratio_causes cause refusal
      body_next = after_head ∙ rw (judge_passed (ratio_causes g.n q) (rw fit))

      -- 101, 103 to 106
      pub body_refused : {s xs : List ℕ} {e : Refusal} → read_body g q left ≡ refused (number_of e) → SheetRead (read_sheet g bs) s xs (Err e)
      unfolding ◌>>=◌ outcome_of
      body_refused b = record { found = body_next ∙ rw b }

      -- the whole sheet
      pub sheet_whole : {s xs : List ℕ} → read_body g q left ≡ taken (record { members = s; shares = xs }) →
          SheetRead (read_sheet g bs) s xs
          (Ok (record { ratio = record { p = get_or ns 0 0; q = q }; k = get_or ns 2 0; core_size = get_or ns 3 0 }))
      unfolding ◌>>=◌ outcome_of sheet sheet_of first second third fourth
      sheet_whole b = record { found = body_next ∙ rw b }
