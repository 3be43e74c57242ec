-- Document 01, "Peel": leaving order and core numbers.
--   peel_call_causes    13, 12
--   PeelCall           the first N entries of the two buffers
-- Assumes nothing: these are definitions.
use Rattle.std.specs.Prelude.{◌≡◌, not, List, [], ◌∷◌, ℕ, length}
use Rattle.theory.specs.Refusals.{Cause, cause, refusal, if_taken}
use Rattle.theory.specs.Leaving.{leaving}
use Rattle.theory.specs.Cores.{core_numbers}
use Rattle.records.specs.declared.Pair.{Pair}
use Rattle.records.specs.declared.Head.{Head}
use Rattle.records.specs.Records.{held_list, agrees}
use Rattle.on_words.specs.Buffers.{any_short, in_front, work_left}
use Rattle.on_words.specs.Peeling.{peel_buffers}

-- 13, 12
unfoldable pub peel_call_causes : Head → List Pair → (order cores work : List ℕ) → List Cause
peel_call_causes h ps o c w =
    cause 13 (not (agrees h ps))
    ∷ cause 12 (any_short (peel_buffers h (length o) (length c) (length w)))
    ∷ []

-- what peel answers, and the lent buffers after it
pub record PeelCall (h : Head) (ps : List Pair) (order cores work : List ℕ) (r : ℕ) (order' cores' work' : List ℕ) : Type 0 where
  pub number : r ≡ refusal (peel_call_causes h ps order cores work)
  -- the leaving order and the core numbers of the list, in front
  pub order_is : order' ≡ if_taken r (in_front (leaving (held_list h ps)) order) order
  pub cores_are : cores' ≡ if_taken r (in_front (core_numbers (held_list h ps)) cores) cores
  pub left : work' ≡ work_left r work
