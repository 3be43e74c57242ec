-- What the functions that read a sheet promise: the answer, and the bytes that are left.
--   LineDue          what line_due promises
--   PartRead         what read_members and read_shares promise
--   NumbersRead      what read_numbers promises
--   sheet_of, SheetRead        what read_sheet promises
--   at_least         how many numbers are k or more
--   judged_head      what judge_head promises
--   ratio_line, RatioSays      what audit_list promises
-- Assumes nothing: these are definitions.
use Rattle.std.specs.Prelude.{◌≡◌, ◌&&◌, cond, List, ℕ, leb, eqb, count_by, Result, Ok, Err}
use Rattle.theory.specs.Splits.{rounded_up}
use Rattle.refusals.specs.declared.Refusal.{Refusal}
use Rattle.refusals.specs.declared.Refusal.TheVariants.{BadRatio, BadCore}
use Rattle.numbers.specs.declared.Ratio.{Ratio}
use Rattle.lines.specs.Outcomes.{Outcome, taken, ◌>>=◌, line_due, outcome_of}
use Rattle.sheetfile.specs.Sheet.{Part, Sheet}
use Rattle.sheetfile.specs.declared.sheet.SheetHead.{SheetHead}

-- LINE_DUE: the numbers of the line of a form in front, refused by 101 where there is none, and the bytes after it
pub record LineDue (d : ℕ) (form bytes : List ℕ) (r : Result (List ℕ) Refusal) (left : List ℕ) : Type 0 where
  pub found : line_due 101 d form bytes ≡ outcome_of (λ ns. record { numbers = ns; rest = left }) r

-- READ_MEMBERS and READ_SHARES: some lines, the entries that they give, and the bytes after them. After a refusal the entries are free
pub record PartRead (part : Outcome Part) (entries : List ℕ) (r : Result (Unit {0}) Refusal) (left : List ℕ) : Type 0 where
  pub found : part ≡ outcome_of (λ u. record { entries = entries; rest = left }) r

-- READ_NUMBERS: some lines, and the bytes after them
pub record NumbersRead (rest : Outcome (List ℕ)) (r : Result (Unit {0}) Refusal) (left : List ℕ) : Type 0 where
  pub found : rest ≡ outcome_of (λ u. left) r

-- the sheet of a head, member bytes and shares
unfoldable pub sheet_of : (members shares : List ℕ) → SheetHead → Sheet
sheet_of s xs h = record { p = h.ratio.p; q = h.ratio.q; k = h.k; coresize = h.core_size; members = s; shares = xs }

-- READ_SHEET: after a refusal members and shares are free
pub record SheetRead (sheet : Outcome Sheet) (members shares : List ℕ) (r : Result SheetHead Refusal) : Type 0 where
  pub found : sheet ≡ outcome_of (sheet_of members shares) r

-- how many numbers are k or more
abbrev pub at_least : (k : ℕ) → List ℕ → ℕ
at_least k cs = count_by (leb k) cs

-- JUDGE_HEAD: 107 where the ratio line is not what check counted, 108 where the core line is not its P/Q rounded up and the size of that core
unfoldable pub judged_head : SheetHead → Ratio → (cores : List ℕ) → Result Ratio Refusal
judged_head h r cores =
    cond (eqb h.ratio.p r.p && eqb h.ratio.q r.q)
    (cond (eqb h.k (rounded_up r.p r.q) && eqb h.core_size (at_least h.k cores)) (Ok r) (Err BadCore))
    (Err BadRatio)

-- the ratio line of a sheet
abbrev pub ratio_line : Sheet → Ratio
ratio_line s = record { p = s.p; q = s.q }

-- AUDIT_LIST: the ratio line of the sheet that is accepted, or the refusal
pub record RatioSays (sheet : Outcome Sheet) (r : Result Ratio Refusal) : Type 0 where
  pub found : (do s ← sheet; taken (ratio_line s)) ≡ outcome_of (λ q. q) r
