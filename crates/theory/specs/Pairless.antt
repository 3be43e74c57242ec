-- Document 02, item 6: a list without pairs has no group, and solve and check turn it down, and so does kit (item 7). What document 01 defines of groups and
-- splits stays defined of such a list too: all ratios and loads are 0 there.
--   no_pair                     of a list's M: it holds no pair
--   group_causes, group_number  why a list is turned down: 20; the number given, 0 where the list has a pair
--   judged_causes, judged_number    the causes in check's order, after 13 and 12: 20, 7, 8, 9; the number given
-- Assumes nothing: these are definitions.
use Rattle.std.specs.Prelude.{Bool, List, [], ◌∷◌, ◌++◌, ℕ, eqb, length}
use Rattle.theory.specs.Lists.{Pairs}
use Rattle.theory.specs.Refusals.{Cause, cause, refusal}
use Rattle.theory.specs.Check.{check_causes}

-- 20: the list holds no pair (an edgeless graph)
unfoldable pub no_pair : (m : ℕ) → Bool
no_pair m = eqb m 0

-- why a list of M pairs is turned down
unfoldable pub group_causes : (m : ℕ) → List Cause
group_causes m = cause 20 (no_pair m) ∷ []

-- the number given: 20, or 0 where the list has a pair
unfoldable pub group_number : (m : ℕ) → ℕ
group_number m = refusal (group_causes m)

-- check's causes of a list, a group and shares, once 13 and 12 do not hold: 20, 7, 8, 9
unfoldable pub judged_causes : Pairs → (members shares : List ℕ) → List Cause
judged_causes g s xs = group_causes (length g.pairs) ++ check_causes g s xs

-- the number given, or 0 where check accepts
unfoldable pub judged_number : Pairs → (members shares : List ℕ) → ℕ
judged_number g s xs = refusal (judged_causes g s xs)
