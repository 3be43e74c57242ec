-- The parts of a text that are left to write.
--   all_left, members_left                 the group's text, and behind the head
--   group_left, numbers_left, shares_left  a sheet's text, behind the group's, and behind the core numbers
-- Assumes nothing.
use Rattle.std.proofs.Common.{◌≡◌, refl, ℕ, List, [], ◌∷◌, ◌++◌, length}
use Rattle.theory.specs.Lists.{Pairs}
use Rattle.theory.specs.Words.{list_in}
use Rattle.lines.specs.Lines.{filled}
use Rattle.lines.specs.Putting.{HasRoom, Writes}
use Rattle.lines.specs.declared.writer.Writer.{Writer}
use Rattle.lines.proofs.Parts.{Left, left_start, left_front, left_step}
use Rattle.sheetfile.specs.Sheet.{head_form, number_form, share_form}
use Rattle.sheetfile.specs.Writer.{member_lines, number_lines, share_lines}
use Rattle.answer.specs.declared.Answer.{Answer}
use Rattle.texts.specs.Filling.{given_lines}
use Rattle.texts.specs.Printed.{answer_lines, sheet_lines}
use Rattle.texts.proofs.Parts.{number_numbers, numbers_given, share_numbers, shares_given}

module _ (a : Answer) (s : List ℕ) {w : Writer} (room : HasRoom (answer_lines a s) w) where
  pub all_left : Left (answer_lines a s) w (filled head_form (a.ratio.p ∷ a.ratio.q ∷ a.k ∷ a.coresize ∷ []) ++ member_lines 0 s) w
  unfolding answer_lines
  all_left = left_start (answer_lines a s) w room

  pub members_left : {w' : Writer} → Writes (filled head_form (a.ratio.p ∷ a.ratio.q ∷ a.k ∷ a.coresize ∷ [])) w w' →
      Left (answer_lines a s) w (member_lines 0 s) w'
  members_left p = left_step all_left _ _ refl p

module _ (a : Answer) (s cs : List ℕ) (n m : ℕ) (es ws xs : List ℕ) where
  abbrev list : Pairs
  list = list_in n m es ws

  abbrev whole : List ℕ
  whole = sheet_lines a s cs list.pairs xs

  module _ (each_pair : length xs ≡ m) {w : Writer} (room : HasRoom whole w) where
    pub group_left : Left whole w (answer_lines a s ++ (number_lines cs ++ share_lines list.pairs xs)) w
    unfolding sheet_lines
    group_left = left_start whole w room

    pub numbers_left : {w' : Writer} → Writes (answer_lines a s) w w' →
        Left whole w (given_lines number_form (number_numbers cs) 0 (length cs) ++ share_lines list.pairs xs) w'
    numbers_left p = rw (numbers_given cs) (left_step group_left _ _ refl p)

    pub shares_left : {w' w'' : Writer} → Writes (answer_lines a s) w w' →
        (let lines = given_lines number_form (number_numbers cs) 0 (length cs) in HasRoom lines w' → Writes lines w' w'') →
        Left whole w (given_lines share_form (share_numbers es xs) 0 (length xs)) w''
    unfolding list_in
    shares_left p q = rw (shares_given m es ws xs each_pair) (left_step (numbers_left p) _ _ refl (q (left_front (numbers_left p) _ _ refl)))
