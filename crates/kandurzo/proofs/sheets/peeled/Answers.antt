-- `kandurzo::sheets::peeled` meets its contract: peel of the words is peel of the lent records. Assumes nothing.
use Rattle.lines.proofs.Found.{handed_on}
use Rattle.kandurzo.proofs.Peels.{peel_refused, peel_done}
use Rattle.kandurzo.proofs.sheets.peeled.Goals as goal

pub returns-in_err-lay_held : goal.returns-in_err-lay_held
returns-in_err-lay_held c =
    rw (handed_on c.from_residual.ensures.1, c.in_err-lay_held.ensures.left)
    (peel_refused _ _ _ _ _ c.peel_buffers-lent.ensures _ c.in_err-lay_held.ensures.number)

pub returns : goal.returns
returns c =
    peel_done _ _ _ _ _ c.peel_buffers-lent.ensures c.in_ok-lay_held.ensures.number c.in_ok-lay_held.ensures.laid c.peel_on_words.ensures
