-- The refusals that come first, 13 and 12.
--   disagrees, none_lent       13 alone: where it is given head and list disagree; 12 never comes where no buffer is lent
--   gate_open, gate_left       13 and 12: where neither is given head and list agree and no buffer is short; either leaves the work buffer
--   gate_first, gate_then, gate_all    either is the call's number; where neither is given the causes behind decide; where no number is
--                              given, none of the causes is met
-- Assumes nothing.
use mathlib.Core.Path.{◌≡◌, refl, sym}
use mathlib.Core.Bool.{Bool, true, false, not, cond}
use mathlib.Core.List.{List, [], ◌∷◌}
use Prim.Native.Nat.{ℕ}
use native.Mathlib.Omega.{arith}
use Rattle.theory.specs.Refusals.{Cause, cause, refusal}
use Rattle.on_words.specs.Buffers.{any_short, work_left}
use Rattle.on_words.specs.Gate.{gate_number}

-- ---- 13

pub disagrees : (agreed : Bool) {k : ℕ} → k ≡ refusal (cause 13 (not agreed) ∷ []) → (k ≡ 0 → ⊥) → (agreed ≡ false) × (k ≡ 13)
unfolding refusal cause
disagrees true e n = absurd (n e)
disagrees false e n = (refl, e)

pub none_lent : (agreed : Bool) → gate_number agreed (any_short []) ≡ refusal (cause 13 (not agreed) ∷ [])
unfolding gate_number any_short refusal cause
none_lent agreed = refl

-- ---- 13, 12

pub gate_open : (agreed short : Bool) → gate_number agreed short ≡ 0 → (agreed ≡ true) × (short ≡ false)
unfolding gate_number refusal cause
gate_open true true e = absurd (omega arith)
gate_open true false e = (refl, refl)
gate_open false s e = absurd (omega arith)

pub gate_left : (agreed short : Bool) {k : ℕ} (work : List ℕ) → k ≡ gate_number agreed short → (k ≡ 0 → ⊥) → work ≡ work_left k work
unfolding gate_number refusal cause work_left
gate_left true true work e n = sym (rw e)
gate_left true false work e n = absurd (n e)
gate_left false s work e n = sym (rw e)

module _ (agreed short : Bool) (rest : List Cause) where
  pub gate_first : {k : ℕ} → k ≡ gate_number agreed short → (k ≡ 0 → ⊥) → k ≡ refusal (cause 13 (not agreed) ∷ cause 12 short ∷ rest)
  unfolding gate_number refusal cause
  gate_first {k} = go agreed short
    where
      go : (t s : Bool) → k ≡ cond (not t) 13 (cond s 12 0) → (k ≡ 0 → ⊥) → k ≡ cond (not t) 13 (cond s 12 (refusal rest))
      go true true e n = e
      go true false e n = absurd (n e)
      go false s e n = e

  pub gate_then : gate_number agreed short ≡ 0 → refusal (cause 13 (not agreed) ∷ cause 12 short ∷ rest) ≡ refusal rest
  unfolding gate_number refusal cause
  gate_then z = let o = gate_open agreed short z in rw (o.0, o.1)

  pub gate_all : refusal (cause 13 (not agreed) ∷ cause 12 short ∷ rest) ≡ 0 → (agreed ≡ true) × (short ≡ false) × (refusal rest ≡ 0)
  unfolding refusal cause
  gate_all = go agreed short
    where
      go : (t s : Bool) → ◌≡◌ {A = ℕ} (cond (not t) 13 (cond s 12 (refusal rest))) 0 → (t ≡ true) × (s ≡ false) × (refusal rest ≡ 0)
      go true true e = absurd (omega (arith, e))
      go true false e = (refl, refl, e)
      go false s e = absurd (omega (arith, e))
