-- Document 01, "Solve": the found group, the core numbers, the load sheet, and the record. Document 02, item 6: 20.
--   solve_call_causes        13, 12, 20
--   NoSplit, Unsplit        the condition of 15
--   SolveNumber             13, 12, 20, 15
--   SolveCall               the call; what it hands out, or not: Handed and Declined, of crate on_words
-- Assumes nothing: these are definitions.
use Rattle.std.specs.Prelude.{◌≡◌, true, not, List, [], ◌∷◌, ◌↔◌, ℕ, ◌<◌, length}
use Rattle.theory.specs.Lists.{Pairs}
use Rattle.theory.specs.Groups.{size, inside, Densest}
use Rattle.theory.specs.Splits.{is_split, greatest_load}
use Rattle.theory.specs.Refusals.{Cause, cause, refusal}
use Rattle.theory.specs.Pairless.{no_pair}
use Rattle.records.specs.declared.Pair.{Pair}
use Rattle.records.specs.declared.Head.{Head}
use Rattle.records.specs.Records.{held_list, agrees}
use Rattle.on_words.specs.declared.Solved.{Solved}
use Rattle.on_words.specs.Buffers.{any_short, work_left}
use Rattle.on_words.specs.Solving.{solve_buffers, Handed, Declined}

-- 13, 12, 20; 15 comes after them, and its condition never holds
unfoldable pub solve_call_causes : Head → List Pair → (members cores shares work : List ℕ) → List Cause
solve_call_causes h ps a c d w =
    cause 13 (not (agrees h ps))
    ∷ cause 12 (any_short (solve_buffers h (length a) (length c) (length d) (length w)))
    ∷ cause 20 (no_pair h.m)
    ∷ []

-- no split at a group's size keeps all loads at or below its inside count
unfoldable pub NoSplit : Pairs → (s : List ℕ) → Type 0
NoSplit g s = (xs : List ℕ) → is_split g (size s) xs ≡ true → inside g s < greatest_load g (size s) xs

-- 15: a group than which none is denser, and no such split
pub record Unsplit (g : Pairs) : Type 0 where
  pub group : List ℕ
  pub densest : Densest g group
  pub no_split : NoSplit g group

-- 13, 12, 20, 15: the number is that of the earlier causes, since the condition of 15 never holds
pub record SolveNumber (earlier : ℕ) (g : Pairs) (number : ℕ) : Type 0 where
  pub outright : number ≡ earlier
  -- 15 exactly where its condition holds
  pub fifteen : earlier ≡ 0 → (number ≡ 15) ↔ Unsplit g

-- what solve answers, and the lent buffers after it
pub record SolveCall (h : Head) (ps : List Pair) (members cores shares work : List ℕ) (r : Solved) (members' cores' shares' work' : List ℕ) : Type 0 where
  pub number : SolveNumber (refusal (solve_call_causes h ps members cores shares work)) (held_list h ps) r.number
  pub handed : r.number ≡ 0 → Handed (held_list h ps) members cores shares r members' cores' shares'
  pub refused : (r.number ≡ 0 → ⊥) → Declined members cores shares r members' cores' shares'
  pub left : work' ≡ work_left r.number work
