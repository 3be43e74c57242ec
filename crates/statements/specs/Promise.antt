-- Our contracts are no weaker than document 03's, 20 aside: of a list of ones, whatever a call of kandurzo answers and leaves is as document 03 states it,
-- of N and M of the head and the records as numbers, two for each (`ends_of`). So from peel, solve, check and surplus a list of ones gets the earlier answers
-- (document 02, item 4). Document 03 has no 20 and serves a list without pairs, which solve and check turn down (document 02, item 6): of these two its
-- statements hold of every call that does not answer 20. A statement is a type; proofs/Says.antt has its theorem.
--   Ones              the first M records count once each, as all pairs of document 03 do
--   ListStated       list_says: 13 comes of head and records exactly where it comes of the numbers
--   PeelStated       peel_says
--   SolveStated      solve_says
--   CheckStated      check_says
--   TwentyStated     twenty_says: where 20 comes
--   SurplusStated    surplus_says
-- Assumes nothing: these are definitions.
use Rattle.std.specs.Prelude.{◌≡◌, true, cond, List, ◌↔◌, ℕ, eqb, length, take}
use Rattle.theory.specs.Basics.{all}
use Rattle.theory.specs.Plain.{list_refusal, check_refusal}
use Rattle.records.specs.declared.Pair.{Pair}
use Rattle.records.specs.declared.Head.{Head}
use Rattle.records.specs.Records.{agrees, ends_of}
use Rattle.verify.specs.declared.Verdict.{Verdict}
use Rattle.verify.specs.declared.Difference.{Difference}
use Rattle.on_words.specs.declared.Solved.{Solved}
use Rattle.kandurzo.specs.Peeling.{PeelCall}
use Rattle.kandurzo.specs.Solving.{SolveCall}
use Rattle.kandurzo.specs.Judging.{CheckCall, SurplusCall}
use Rattle.statements.specs.Entry.{PeelSays, solve_refusal, SolveSays, CheckSays, SurplusSays}

-- a list of ones: the first M records have the count 1, whether head and list agree or not
unfoldable pub Ones : Head → List Pair → Type 0
Ones h ps = all (λ p. eqb p.w 1) (take h.m ps) ≡ true

-- where head and records agree, document 03 takes the list; else its number is 13
unfoldable pub ListStated : Type 0
ListStated = (h : Head) (ps : List Pair) → Ones h ps → list_refusal h.n h.m (ends_of ps) ≡ cond (agrees h ps) 0 13

-- what peel promises gives document 03's statement of peel
unfoldable pub PeelStated : Type 0
PeelStated =
    (h : Head) (ps : List Pair) (order cores work : List ℕ) (r : ℕ) (order' cores' work' : List ℕ) →
    Ones h ps → PeelCall h ps order cores work r order' cores' work' →
    PeelSays h.n h.m (ends_of ps) r order order' cores cores' work work'

-- what solve promises gives document 03's statement of solve, unless it turns the list down
unfoldable pub SolveStated : Type 0
SolveStated =
    (h : Head) (ps : List Pair) (members cores shares work : List ℕ) (r : Solved) (members' cores' shares' work' : List ℕ) →
    Ones h ps → SolveCall h ps members cores shares work r members' cores' shares' work' → (r.number ≡ 20 → ⊥) →
    SolveSays h.n h.m (ends_of ps) r members members' cores cores' shares shares' work work'

-- what check promises gives document 03's statement of check, unless it turns the list down
unfoldable pub CheckStated : Type 0
CheckStated =
    (h : Head) (ps : List Pair) (members shares work : List ℕ) (v : Verdict) (work' : List ℕ) →
    Ones h ps → CheckCall h ps members shares work v work' → (v.number ≡ 20 → ⊥) →
    CheckSays h.n h.m (ends_of ps) members shares v work work'

-- 20 comes exactly where the list has no pair and document 03 gives neither 13 nor 12
pub record TwentyStated : Type 0 where
  pub solve : (h : Head) (ps : List Pair) (members cores shares work : List ℕ) (r : Solved) (members' cores' shares' work' : List ℕ) →
      Ones h ps → SolveCall h ps members cores shares work r members' cores' shares' work' →
      let f = solve_refusal h.n h.m (ends_of ps) (length members) (length cores) (length shares) (length work) in
      (r.number ≡ 20) ↔ ((h.m ≡ 0) × (f ≡ 13 → ⊥) × (f ≡ 12 → ⊥))
  pub check : (h : Head) (ps : List Pair) (members shares work : List ℕ) (v : Verdict) (work' : List ℕ) →
      Ones h ps → CheckCall h ps members shares work v work' →
      let f = check_refusal h.n h.m (ends_of ps) members shares (length work) in
      (v.number ≡ 20) ↔ ((h.m ≡ 0) × (f ≡ 13 → ⊥) × (f ≡ 12 → ⊥))

-- what surplus promises gives document 03's statement of surplus
unfoldable pub SurplusStated : Type 0
SurplusStated =
    (h : Head) (ps : List Pair) (t s : List ℕ) (d : Difference) →
    Ones h ps → SurplusCall h ps t s d →
    SurplusSays h.n h.m (ends_of ps) t s d
