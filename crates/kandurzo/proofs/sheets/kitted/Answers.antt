-- `kandurzo::sheets::kitted` meets its contract: kit of the words is kit of the lent records. Assumes nothing.
use Rattle.lines.proofs.Found.{handed_on}
use Rattle.kandurzo.proofs.Kits.{kit_refused, kit_done}
use Rattle.kandurzo.proofs.sheets.kitted.Goals as goal

pub returns-in_err-lay_held : goal.returns-in_err-lay_held
returns-in_err-lay_held c =
    rw (handed_on c.from_residual.ensures.1, c.in_err-lay_held.ensures.left)
    (kit_refused _ _ _ _ _ c.kit_buffers-lent.ensures _ c.in_err-lay_held.ensures.number)

pub returns : goal.returns
returns c =
    kit_done _ _ _ _ _ c.kit_buffers-lent.ensures c.in_ok-lay_held.ensures.number c.in_ok-lay_held.ensures.laid c.kit_on_words.ensures
