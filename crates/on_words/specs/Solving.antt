-- Document 01, "Solve", on words: what is lent, and what is handed out of the list that lies in them, if it has a pair (document 02, item 6).
--   solve_buffers            what is lent
--   answered, declined, solved_of    the record of what is found, that beside a refusal, and that of an answer
--   Handed                   what is handed out; free are only the shares of pairs inside the core of order K
--   Declined                 beside a refusal: nothing is handed out
--   SolveOn                 the record, and every buffer
-- Assumes nothing: these are definitions.
use Rattle.std.specs.Prelude.{◌≡◌, true, List, [], ◌∷◌, ℕ, length, take, drop, Result, Ok, Err}
use Rattle.theory.specs.Lists.{Pairs}
use Rattle.theory.specs.Groups.{size, Found, found_of}
use Rattle.theory.specs.Cores.{core, core_numbers}
use Rattle.theory.specs.Splits.{rounded_up, outside_good}
use Rattle.theory.specs.Ratio.{float_ratio}
use Rattle.theory.specs.Promise.{Optimal}
use Rattle.theory.specs.Words.{laid_list}
use Rattle.theory.specs.Pairless.{group_number}
use Rattle.refusals.specs.declared.Refusal.{Refusal}
use Rattle.refusals.specs.Numbers.{number_of}
use Rattle.densest.specs.declared.Solution.{Solution}
use Rattle.records.specs.declared.Head.{Head}
use Rattle.on_words.specs.declared.Solved.{Solved}
use Rattle.on_words.specs.Buffers.{Buffer, buffer, in_front, cleared}

-- N entries of members and of cores, M of shares, 16,384 of work
abbrev pub solve_buffers : Head → (members cores shares work : ℕ) → List Buffer
solve_buffers h a c d w = buffer a h.n ∷ buffer c h.n ∷ buffer d h.m ∷ buffer w 16384 ∷ []

-- beside 0 stand the group's numbers, and P divided by Q, rounded once
abbrev pub answered : Solution → Solved
answered s = record { number = 0; p = s.ratio.p; q = s.ratio.q; k = s.k; coresize = s.core; ratio = float_ratio s.ratio.p s.ratio.q }

-- beside a refusal the other fields are 0, the ratio +0.0
unfoldable pub declined : (number : ℕ) → Solved
declined k = record { number = k; p = 0; q = 0; k = 0; coresize = 0; ratio = float_ratio 0 1 }

-- what is found, or a refusal's number
abbrev pub solved_of : Result Solution Refusal → Solved
solved_of (Ok s) = answered s
solved_of (Err e) = declined (number_of e)

-- in front of the buffers stand the found group's member bytes, the core numbers and a share for each pair; entries past them are as before
pub record Handed (g : Pairs) (members cores shares : List ℕ) (r : Solved) (members' cores' shares' : List ℕ) : Type 0 where
  pub members_are : members' ≡ in_front (found_of g) members
  pub cores_are : cores' ≡ in_front (core_numbers g) cores
  pub shares_rest : drop (length g.pairs) shares' ≡ drop (length g.pairs) shares
  -- the largest group of greatest ratio
  pub found : Found g (take g.n members')
  -- P and Q are the group's; the greatest load at share size Q is exactly P; both are the best of all groups and of all splits
  pub optimal : Optimal g (take g.n members') (take (length g.pairs) shares') r.p r.q
  -- K = P/Q rounded up, and the number of modules in the core of order K
  pub order : r.k ≡ rounded_up r.p r.q
  pub core_size : r.coresize ≡ size (core g r.k)
  -- a pair with an end outside that core goes wholly to the end that left first
  pub outside : outside_good g r.k r.q g.pairs (take (length g.pairs) shares') ≡ true
  -- P divided by Q, rounded once
  pub float : r.ratio ≡ float_ratio r.p r.q

-- beside a refusal: its number and no other value, and nothing is handed out
pub record Declined (members cores shares : List ℕ) (r : Solved) (members' cores' shares' : List ℕ) : Type 0 where
  pub answer : r ≡ declined r.number
  pub members_are : members' ≡ members
  pub cores_are : cores' ≡ cores
  pub shares_are : shares' ≡ shares

-- on words, with the work buffer cleared: 20, or what is handed out
pub record SolveOn (h : Head) (members cores shares work : List ℕ) (r : Solved) (members' cores' shares' work' : List ℕ) : Type 0 where
  pub number : r.number ≡ group_number h.m
  pub handed : r.number ≡ 0 → Handed (laid_list h.n h.m work) members cores shares r members' cores' shares'
  pub refused : (r.number ≡ 0 → ⊥) → Declined members cores shares r members' cores' shares'
  pub left : work' ≡ cleared work
