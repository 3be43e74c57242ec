-- Document 02, item 7, on words: what is lent, and the kit of the list that lies in them.
--   kit_buffers    what is lent
--   KitSays        what is answered of a list, and its member bytes
--   KitOn          on words
-- Assumes nothing: these are definitions.
use Rattle.std.specs.Prelude.{◌≡◌, List, [], ◌∷◌, ℕ}
use Rattle.theory.specs.Lists.{Pairs}
use Rattle.theory.specs.Groups.{inside, size}
use Rattle.theory.specs.Refusals.{if_taken}
use Rattle.theory.specs.Kits.{kit, kit_number}
use Rattle.theory.specs.Words.{laid_list}
use Rattle.verify.specs.declared.Verdict.{Verdict}
use Rattle.records.specs.declared.Head.{Head}
use Rattle.on_words.specs.Buffers.{Buffer, buffer, in_front, cleared}

-- N entries of members, 16,384 of work
abbrev pub kit_buffers : Head → (members work : ℕ) → List Buffer
kit_buffers h a w = buffer a h.n ∷ buffer w 16384 ∷ []

-- of a list g, by the number given: the kit's P and Q, and its member bytes in front; beside a refusal 0 and 0, and all entries as before
pub record KitSays (g : Pairs) (k : ℕ) (members : List ℕ) (v : Verdict) (members' : List ℕ) : Type 0 where
  pub p : v.p ≡ if_taken v.number (inside g (kit g k)) 0
  pub q : v.q ≡ if_taken v.number (size (kit g k)) 0
  pub members_are : members' ≡ if_taken v.number (in_front (kit g k) members) members

-- on words, with the work buffer cleared: 20, 21, or the kit
pub record KitOn (h : Head) (k : ℕ) (members work : List ℕ) (v : Verdict) (members' work' : List ℕ) : Type 0 where
  pub number : v.number ≡ kit_number h.n h.m k
  pub says : KitSays (laid_list h.n h.m work) k members v members'
  pub left : work' ≡ cleared work
