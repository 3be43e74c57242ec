-- `verify::surplus_words` meets its contract: the value is the difference of the cross products. Assumes nothing.
use mathlib.Core.Path.{sym, ◌∙◌}
use mir.Syntax.{w64}
use mir.ValLaws.{to_z-of_z}
use Rattle.verify.proofs.Answers.{valued}
use Rattle.verify.proofs.surplus_words.Goals as goal

pub returns : goal.returns
returns c =
    let a = c.ratio_of-first_ratio in
    let b = c.ratio_of-second_ratio in
    valued _ _ _ a.result b.result (sym a.ensures.ratio) (sym b.ensures.ratio) _
    (to_z-of_z w64 _ (record { sfits = c.cross_difference.type_inv }) ∙ c.cross_difference.ensures)
