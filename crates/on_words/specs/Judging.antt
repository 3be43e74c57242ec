-- Document 01, "Check" and "Surplus", on words: what is lent, and what the two say of the list that lies in them; check only where the list has a pair
-- (document 02, item 6).
--   check_buffers, CheckOn        check
--   surplus_buffers, SurplusOn    surplus
-- Assumes nothing: these are definitions.
use Rattle.std.specs.Prelude.{◌≡◌, true, false, List, [], ◌∷◌, ℕ, take}
use Rattle.theory.specs.Pairless.{no_pair}
use Rattle.theory.specs.Words.{laid_list}
use Rattle.verify.specs.declared.Verdict.{Verdict}
use Rattle.verify.specs.declared.Difference.{Difference}
use Rattle.verify.specs.Answers.{refused_by, CheckSays, SurplusSays}
use Rattle.records.specs.declared.Head.{Head}
use Rattle.on_words.specs.Buffers.{Buffer, buffer, cleared}

-- N entries of members, M of shares, 16,384 of work
abbrev pub check_buffers : Head → (members shares work : ℕ) → List Buffer
check_buffers h a d w = buffer a h.n ∷ buffer d h.m ∷ buffer w 16384 ∷ []

-- check, with the work buffer cleared: 20, or what it says of group and shares
pub record CheckOn (h : Head) (members shares work : List ℕ) (v : Verdict) (work' : List ℕ) : Type 0 where
  pub pairless : no_pair h.m ≡ true → v ≡ refused_by 20
  pub judged : no_pair h.m ≡ false → CheckSays (laid_list h.n h.m work) (take h.n members) (take h.m shares) v
  pub left : work' ≡ cleared work

-- N entries of each set of member bytes
abbrev pub surplus_buffers : Head → (first second : ℕ) → List Buffer
surplus_buffers h t s = buffer t h.n ∷ buffer s h.n ∷ []

-- surplus
abbrev pub SurplusOn : Head → (t s words : List ℕ) → Difference → Type 0
SurplusOn h t s words d = SurplusSays (laid_list h.n h.m words) (take h.n t) (take h.n s) d
