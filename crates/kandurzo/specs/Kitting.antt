-- Document 02, item 7: kits of at least k modules.
--   kit_call_causes         13, 12, 20, 21
--   KitCall                 the call
-- Assumes nothing: these are definitions.
use Rattle.std.specs.Prelude.{◌≡◌, not, List, ◌∷◌, ℕ, length, take}
use Rattle.theory.specs.Refusals.{Cause, cause, refusal}
use Rattle.theory.specs.Kits.{kit_causes, KitPromise}
use Rattle.verify.specs.declared.Verdict.{Verdict}
use Rattle.records.specs.declared.Pair.{Pair}
use Rattle.records.specs.declared.Head.{Head}
use Rattle.records.specs.Records.{held_list, agrees}
use Rattle.on_words.specs.Buffers.{any_short, work_left}
use Rattle.on_words.specs.Kitting.{kit_buffers, KitSays}

-- 13, 12, then 20, 21
unfoldable pub kit_call_causes : Head → List Pair → (k : ℕ) → (members work : List ℕ) → List Cause
kit_call_causes h ps k a w =
    cause 13 (not (agrees h ps))
    ∷ cause 12 (any_short (kit_buffers h (length a) (length w)))
    ∷ kit_causes h.n h.m k

-- what kit answers, and the lent buffers after it
pub record KitCall (h : Head) (ps : List Pair) (k : ℕ) (members work : List ℕ) (v : Verdict) (members' work' : List ℕ) : Type 0 where
  pub number : v.number ≡ refusal (kit_call_causes h ps k members work)
  -- P, Q and the member bytes, outright
  pub says : KitSays (held_list h ps) k members v members'
  -- the set of the item's words, a group with at least k modules, and three times its ratio is no less than the ratio of any group with at least k modules
  pub promise : v.number ≡ 0 → KitPromise (held_list h ps) k (take h.n members') v.p v.q
  pub left : work' ≡ work_left v.number work
