-- Document 01, "Check" and "Surplus": what the two calls answer and leave. Document 02, item 6: 20, in check.
--   check_call_causes, CheckCall           check: 13, 12, 20, 7, 8, 9; the call
--   surplus_call_causes, SurplusCall       surplus: 13, 12, 7; the call
-- Assumes nothing: these are definitions.
use Rattle.std.specs.Prelude.{◌≡◌, not, List, ◌∷◌, ℕ, length, take, pos}
use Rattle.theory.specs.Groups.{inside, size}
use Rattle.theory.specs.Refusals.{Cause, cause, refusal, if_taken}
use Rattle.theory.specs.Pairless.{judged_causes}
use Rattle.theory.specs.Surplus.{surplus, Signed, surplus_causes}
use Rattle.theory.specs.Promise.{Optimal}
use Rattle.verify.specs.declared.Verdict.{Verdict}
use Rattle.verify.specs.declared.Difference.{Difference}
use Rattle.records.specs.declared.Pair.{Pair}
use Rattle.records.specs.declared.Head.{Head}
use Rattle.records.specs.Records.{held_list, agrees}
use Rattle.on_words.specs.Buffers.{any_short, work_left}
use Rattle.on_words.specs.Judging.{check_buffers, surplus_buffers}

-- ---- check

-- 13, 12, then 20, 7, 8, 9 of the list and the sheet
unfoldable pub check_call_causes : Head → List Pair → (members shares work : List ℕ) → List Cause
check_call_causes h ps a d w =
    cause 13 (not (agrees h ps))
    ∷ cause 12 (any_short (check_buffers h (length a) (length d) (length w)))
    ∷ judged_causes (held_list h ps) (take h.n a) (take h.m d)

-- what check answers, and the work buffer after it; members and shares are only read
pub record CheckCall (h : Head) (ps : List Pair) (members shares work : List ℕ) (v : Verdict) (after : List ℕ) : Type 0 where
  pub number : v.number ≡ refusal (check_call_causes h ps members shares work)
  -- P and Q of that group, counted by check itself; 0 beside a refusal
  pub p : v.p ≡ if_taken v.number (inside (held_list h ps) (take h.n members)) 0
  pub q : v.q ≡ if_taken v.number (size (take h.n members)) 0
  -- whatever it accepts is the best of all groups and of all splits
  pub optimal : v.number ≡ 0 → Optimal (held_list h ps) (take h.n members) (take h.m shares) v.p v.q
  pub left : after ≡ work_left v.number work

-- ---- surplus

-- 13, 12, then 7 of the two sets
unfoldable pub surplus_call_causes : Head → List Pair → (t s : List ℕ) → List Cause
surplus_call_causes h ps t s =
    cause 13 (not (agrees h ps))
    ∷ cause 12 (any_short (surplus_buffers h (length t) (length s)))
    ∷ surplus_causes (held_list h ps) (take h.n t) (take h.n s)

-- what surplus answers of the first set, t, against the second, s
pub record SurplusCall (h : Head) (ps : List Pair) (t s : List ℕ) (d : Difference) : Type 0 where
  pub number : d.number ≡ refusal (surplus_call_causes h ps t s)
  -- the value; 0 beside a refusal
  pub value : d.value ≡ if_taken d.number (surplus (held_list h ps) (take h.n t) (take h.n s)) (pos 0)
  -- what its sign says: zero exactly when the ratios are equal, above zero exactly when t is denser, below zero exactly when s is
  pub signs : d.number ≡ 0 → Signed (held_list h ps) (take h.n t) (take h.n s) d.value
