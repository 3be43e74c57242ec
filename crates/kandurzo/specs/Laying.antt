-- The records that are held, once they lie in words.
--   Laid    the words hold the list as it is held
-- Assumes nothing: this is a definition.
use Rattle.std.specs.Prelude.{◌≡◌, true, List, ℕ, ◌≤◌, length}
use Rattle.theory.specs.Words.{laid_list, HoldsList}
use Rattle.records.specs.declared.Pair.{Pair}
use Rattle.records.specs.declared.Head.{Head}
use Rattle.records.specs.Records.{held_list, agrees}
use Rattle.on_words.specs.Buffers.{cleared}

-- head and list agree, and the words hold the list
pub record Laid (h : Head) (ps : List Pair) (words words' : List ℕ) : Type 0 where
  pub agreed : agrees h ps ≡ true
  pub some : h.m ≤ length ps
  pub holds : HoldsList h.n h.m words'
  pub list : laid_list h.n h.m words' ≡ held_list h ps
  -- as long as before, and as before past 16,384 words
  pub long : length words' ≡ length words
  pub left : cleared words' ≡ cleared words
