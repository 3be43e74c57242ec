-- The refusals that come first in peel, solve, check, kit, surplus and write_dimacs: 13, then 12.
--   gate_number    13: head and list disagree; 12: a lent buffer is shorter than stated
-- Assumes nothing: this is a definition.
use Rattle.std.specs.Prelude.{Bool, not, [], ◌∷◌, ℕ}
use Rattle.theory.specs.Refusals.{cause, refusal}

-- 13, 12, or 0
unfoldable pub gate_number : (agreed short : Bool) → ℕ
gate_number t s = refusal (cause 13 (not t) ∷ cause 12 s ∷ [])
