-- One line judged: what each way through it gives.
--   due                                          the line that is due, or its refusal by 101
--   line_taken                                   a line whose own cause is not met
--   line_missing, line_unfit, line_fit           a line that is missing, refused by its own cause, taken
-- Assumes nothing.
use Rattle.std.proofs.Common.{◌≡◌, false, true, List, [], ◌∷◌, ℕ, Option, Some, None, Ok, Err, arith}
use Rattle.std.specs.Option.{ok_or}
use lib.Seq.{take_all}
use Rattle.theory.specs.Refusals.{Cause, cause, refusal}
use Rattle.refusals.specs.declared.Refusal.{Refusal}
use Rattle.refusals.specs.declared.Refusal.TheVariants.{BadSheetLine}
use Rattle.refusals.specs.Numbers.{number_of}
use Rattle.lines.specs.Lines.{Line, places, line_of}
use Rattle.lines.specs.Outcomes.{refused, taken, ◌>>=◌, ◌>>◌, passed, judge, line_or, line_due, outcome_of}
use Rattle.lines.specs.Answers.{LineFound}
use Rattle.lines.proofs.Found.{judged_by}
use Rattle.sheetfile.specs.Sheet.{judged_line}
use Rattle.sheetfile.specs.Answers.{LineDue}

-- the line that is due, or its refusal by 101
pub due : {n d : ℕ} {form bs left : List ℕ} (o : Option (List ℕ)) → places form ≡ n → LineFound n d form bs o left →
    LineDue d form bs (ok_or o BadSheetLine) left
unfolding line_due line_or outcome_of
due None e f = record { found = rw f.found }
due {form = form} (Some ns) e f = record { found = rw (f.found, take_all (places form) ns (omega (arith, e, f.padded.size))) }

-- a line whose own cause is not met
pub line_taken : (d : ℕ) (form : List ℕ) (own : Line → Cause) (pick : Line → ℕ) (bs : List ℕ) (l : Line) (k : ℕ) → line_of d form bs ≡ Some l →
    own l ≡ cause k false → judged_line d form own pick bs ≡ taken (record { value = pick l; rest = l.rest })
unfolding judged_line line_due line_or ◌>>=◌ ◌>>◌ judge passed refusal cause
line_taken d form own pick bs l k e m = rw (e, m)

module _ {d : ℕ} {form bs : List ℕ} (own : Line → Cause) (pick : Line → ℕ) where
  -- 101
  pub line_missing : {e : Refusal} {left : List ℕ} → LineDue d form bs (Err e) left → judged_line d form own pick bs ≡ refused (number_of e)
  unfolding judged_line ◌>>=◌ outcome_of
  line_missing f = rw f.found

  module _ {ns left : List ℕ} (f : LineDue d form bs (Ok ns) left) where
    abbrev line : Line
    line = record { numbers = ns; rest = left }

    -- its own cause is met
    pub line_unfit : (e : Refusal) → own line ≡ cause (number_of e) true → judged_line d form own pick bs ≡ refused (number_of e)
    unfolding judged_line ◌>>=◌ ◌>>◌ outcome_of refusal cause
    line_unfit e m = rw f.found (rw (judged_by e (own line ∷ []) (rw m)))

    -- it is not
    pub line_fit : (k : ℕ) → own line ≡ cause k false → judged_line d form own pick bs ≡ taken (record { value = pick line; rest = left })
    unfolding judged_line ◌>>=◌ ◌>>◌ outcome_of judge passed refusal cause
    line_fit k m = rw (f.found, m)
