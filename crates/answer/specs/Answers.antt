-- What is answered to the bytes of a pair file; crate `texts` writes it out.
--   group_answer                the answer with a group's numbers
--   answer_to, members_after    the answer to what a file says, or its refusal, and the member bytes after it
--   Answers                     both, to any bytes
--   RoomEnough                 the buffers that are lent for a sheet
--   solved_of                   the answer as solve's record
--   HandedOver, Sheeted        a sheet beside the answer: of a file that names a list with a pair, and of any bytes
-- Assumes nothing: these are definitions.
use Rattle.std.specs.Prelude.{◌≡◌, List, ℕ, ◌≤◌, length, Result}
use Rattle.theory.specs.Lists.{Pairs}
use Rattle.theory.specs.Groups.{size, inside, found_of}
use Rattle.theory.specs.Cores.{core}
use Rattle.theory.specs.Splits.{core_order}
use Rattle.theory.specs.Ratio.{float_ratio}
use Rattle.theory.specs.Words.{laid_pairs}
use Rattle.refusals.specs.declared.Refusal.{Refusal}
use Rattle.lines.specs.Outcomes.{Outcome, refused, taken, outcome_of}
use Rattle.pairfile.specs.File.{group_list}
use Rattle.pairfile.specs.Answers.{SamePast}
use Rattle.on_words.specs.declared.Solved.{Solved}
use Rattle.on_words.specs.Buffers.{in_front}
use Rattle.on_words.specs.Solving.{Handed}
use Rattle.answer.specs.declared.Answer.{Answer}

-- of a list and a group: N and M; P/Q is the group's ratio; K = P/Q rounded up, and the number of modules in the core of order K
unfoldable pub group_answer : Pairs → (s : List ℕ) → Answer
group_answer g s = record {
  head = record { n = g.n; m = length g.pairs };
  ratio = record { p = inside g s; q = size s };
  k = core_order g s;
  coresize = size (core g (core_order g s));
}

-- a refusal is answered by its number, a list by its found group (`found_of` of crate theory; `FoundOutright` says that it is the found group)
unfoldable pub answer_to : Outcome Pairs → Outcome Answer
answer_to (refused k) = refused k
answer_to (taken g) = taken (group_answer g (found_of g))

-- that group's member bytes stand in front; entries past them, and all beside a refusal, are as they were
unfoldable pub members_after : Outcome Pairs → (members : List ℕ) → List ℕ
members_after (refused k) ms = ms
members_after (taken g) ms = in_front (found_of g) ms

-- THE ANSWER TO ANY BYTES: a file of 1 to 4,096 pairs names a list with a group; any other is refused by its number, or by 20
pub record Answers (bytes members : List ℕ) (r : Result Answer Refusal) (members' : List ℕ) : Type 0 where
  pub answer_is : answer_to (group_list bytes) ≡ outcome_of (λ a. a) r
  pub members_are : members' ≡ members_after (group_list bytes) members

-- the buffers have an entry for each module and each pair of the largest list, the words a place for each of its pairs
pub record RoomEnough (members cores shares words : ℕ) : Type 0 where
  pub members_long : 512 ≤ members
  pub cores_long : 512 ≤ cores
  pub shares_long : 4096 ≤ shares
  pub words_long : 12288 ≤ words

-- the answer as solve's record, its float being that of P/Q
unfoldable pub solved_of : Answer → Solved
solved_of a =
    record { number = 0; p = a.ratio.p; q = a.ratio.q; k = a.k; coresize = a.coresize; ratio = float_ratio a.ratio.p a.ratio.q }

-- of a list g: what solve hands out, and the pairs in words; entries past those named are as they were
pub record HandedOver (g : Pairs) (members cores shares words : List ℕ) (a : Answer) (members' cores' shares' words' : List ℕ) : Type 0 where
  pub handed : Handed g members cores shares (solved_of a) members' cores' shares'
  pub pairs_are : laid_pairs a.head.m words' ≡ g.pairs
  pub words_rest : SamePast a.head.m words words'

-- the answer, and a sheet beside it; after a refusal all buffers are as they were
pub record Sheeted (bytes members cores shares words : List ℕ) (r : Result Answer Refusal) (members' cores' shares' words' : List ℕ) : Type 0 where
  pub answers : Answers bytes members r members'
  pub taken : (g : Pairs) → group_list bytes ≡ taken g →
      HandedOver g members cores shares words (group_answer g (found_of g)) members' cores' shares' words'
  pub refused : (k : ℕ) → group_list bytes ≡ refused k → (cores' ≡ cores) × (shares' ≡ shares) × (words' ≡ words)
