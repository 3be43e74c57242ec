-- Document 01, "The list and its calls", and document 02, item 1, on words: the pairs of a pair file or a DIMACS file, before they become records.
--   Reader                      what a file of some form says: `read_file` of crate pairfile, `read_dimacs` of crate dimacs
--   read_buffers, read_outcome  what is lent; the list that is read, or the refusal: 12, then the file's own
--   read_head                   the new head
--   ReadOn                      head and pairs in words, and the words past them
--   ReadLent                    so with a work buffer of any length
-- Assumes nothing: these are definitions.
use Rattle.std.specs.Prelude.{◌≡◌, cond, List, [], ◌∷◌, ℕ, ◌≤◌, ◌<◌, length, Result, Err, IfOk, IfErr}
use Rattle.theory.specs.Lists.{Pairs}
use Rattle.theory.specs.Words.{laid_list, HoldsList}
use Rattle.refusals.specs.declared.Refusal.{Refusal}
use Rattle.refusals.specs.declared.Refusal.TheVariants.{BufferTooShort}
use Rattle.refusals.specs.Numbers.{number_of}
use Rattle.lines.specs.Outcomes.{Outcome, refused, taken, outcome_of}
use Rattle.records.specs.declared.Head.{Head}
use Rattle.on_words.specs.Edits.{head_of}
use Rattle.on_words.specs.Buffers.{Buffer, buffer, any_short, cleared}

-- a reader of files: what a file says, for a list of `room` records
abbrev pub Reader : Type 0
Reader = (room : ℕ) → (bytes : List ℕ) → Outcome Pairs

-- 16,384 entries of work
abbrev pub read_buffers : (work : ℕ) → List Buffer
read_buffers w = buffer w 16384 ∷ []

-- 12, which is the work buffer's length alone; then what the file says: lines in file order
unfoldable pub read_outcome : Reader → (room work : ℕ) → (bytes : List ℕ) → Outcome Pairs
read_outcome read room work bytes = cond (any_short (read_buffers work)) (refused 12) (read room bytes)

-- a new head: the file's N and M; 0,0 beside a refusal
unfoldable pub read_head : Outcome Pairs → Head
read_head (refused k) = head_of 0 0
read_head (taken g) = head_of g.n (length g.pairs)

-- before the records come into the list: their pairs lie in the work buffer
pub record ReadOn (read : Reader) (room : ℕ) (bytes work work' : List ℕ) (r : Result Head Refusal) : Type 0 where
  -- the list that the file says, in the words, or its refusal
  pub found : read room bytes ≡ outcome_of (λ head. laid_list head.n head.m work') r
  -- they hold it, and it has room
  pub holds : IfOk r (λ head. HoldsList head.n head.m work')
  pub fits : IfOk r (λ head. head.m ≤ room)
  -- 12 is the work buffer's length alone, and 13 is of head and list
  pub own : IfErr r (λ e. (number_of e ≡ 12 → ⊥) × (number_of e ≡ 13 → ⊥))
  -- nothing is written past the 16,384 words
  pub past : cleared work' ≡ cleared work

-- with a work buffer of any length: a shorter one is refused by 12, and is as it was
pub record ReadLent (read : Reader) (room : ℕ) (bytes work work' : List ℕ) (r : Result Head Refusal) : Type 0 where
  pub short : length work < 16384 → (r ≡ Err BufferTooShort) × (work' ≡ work)
  pub long : 16384 ≤ length work → ReadOn read room bytes work work' r
