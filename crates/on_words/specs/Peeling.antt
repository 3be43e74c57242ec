-- Document 01, "Peel", on words: what is lent, and the leaving order and core numbers of the list that lies in them.
--   peel_buffers    what is lent
--   PeelOn         the first N entries of the two buffers
-- Assumes nothing: these are definitions.
use Rattle.std.specs.Prelude.{◌≡◌, List, [], ◌∷◌, ℕ}
use Rattle.theory.specs.Leaving.{leaving}
use Rattle.theory.specs.Cores.{core_numbers}
use Rattle.theory.specs.Words.{laid_list}
use Rattle.records.specs.declared.Head.{Head}
use Rattle.on_words.specs.Buffers.{Buffer, buffer, in_front, cleared}

-- N entries of order and of cores, 16,384 of work
abbrev pub peel_buffers : Head → (order cores work : ℕ) → List Buffer
peel_buffers h o c w = buffer o h.n ∷ buffer c h.n ∷ buffer w 16384 ∷ []

-- on words, with the work buffer cleared
pub record PeelOn (h : Head) (order cores work order' cores' work' : List ℕ) : Type 0 where
  pub order_is : order' ≡ in_front (leaving (laid_list h.n h.m work)) order
  pub cores_are : cores' ≡ in_front (core_numbers (laid_list h.n h.m work)) cores
  pub left : work' ≡ cleared work
