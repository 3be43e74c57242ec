-- Document 01, "Check" and "Surplus": what the two calls answer of a held list, once 13, 12 and check's 20 do not hold.
--   refused_by, verdict_of    check's answer in C's form, and kit's
--   difference_of             surplus's answer in C's form
--   CheckSays                 check's answer, with demand 3 of whatever it accepts
--   SurplusSays               surplus's answer, with what its sign says
-- Assumes nothing: these are definitions.
use Rattle.std.specs.Prelude.{◌≡◌, List, ℕ, ℤ, pos, Result, Ok, Err}
use Rattle.theory.specs.Lists.{Pairs}
use Rattle.theory.specs.Groups.{inside, size}
use Rattle.theory.specs.Refusals.{if_taken}
use Rattle.theory.specs.Check.{check_number}
use Rattle.theory.specs.Surplus.{surplus, Signed, surplus_number}
use Rattle.theory.specs.Promise.{Optimal}
use Rattle.refusals.specs.declared.Refusal.{Refusal}
use Rattle.refusals.specs.Numbers.{number_of}
use Rattle.numbers.specs.declared.Ratio.{Ratio}
use Rattle.verify.specs.declared.Verdict.{Verdict}
use Rattle.verify.specs.declared.Difference.{Difference}

-- the answer of check, or of kit, where it refuses by number k
abbrev pub refused_by : (k : ℕ) → Verdict
refused_by k = record { number = k; p = 0; q = 0 }

-- the answer of check, or of kit: 0 with the group's ratio, or a refusal's number and no other value
abbrev pub verdict_of : Result Ratio Refusal → Verdict
verdict_of (Ok r) = record { number = 0; p = r.p; q = r.q }
verdict_of (Err e) = refused_by (number_of e)

-- surplus's answer: 0 with the value, or a refusal's number and no other value
abbrev pub difference_of : Result ℤ Refusal → Difference
difference_of (Ok d) = record { number = 0; value = d }
difference_of (Err e) = record { number = number_of e; value = pos 0 }

-- CHECK's answer of the group s and the shares xs
pub record CheckSays (g : Pairs) (s xs : List ℕ) (v : Verdict) : Type 0 where
  -- 7, 8, 9, or 0 where it accepts
  pub number : v.number ≡ check_number g s xs
  -- P and Q of that group, counted by check itself
  pub p : v.p ≡ if_taken (check_number g s xs) (inside g s) 0
  pub q : v.q ≡ if_taken (check_number g s xs) (size s) 0
  -- demand 3: what it accepts is the best of all groups and of all splits
  pub optimal : v.number ≡ 0 → Optimal g s xs v.p v.q

-- SURPLUS's answer of the group t against the group s
pub record SurplusSays (g : Pairs) (t s : List ℕ) (d : Difference) : Type 0 where
  -- 7, or 0
  pub number : d.number ≡ surplus_number g t s
  pub value : d.value ≡ if_taken (surplus_number g t s) (surplus g t s) (pos 0)
  -- what its sign says
  pub signs : d.number ≡ 0 → Signed g t s d.value
