-- `kandurzo::sheets::checked` meets its contract: check of the words is check of the lent records. Assumes nothing.
use Rattle.lines.proofs.Found.{handed_on}
use Rattle.kandurzo.proofs.Judgements.{check_refused, check_done}
use Rattle.kandurzo.proofs.sheets.checked.Goals as goal

pub returns-in_err-lay_held : goal.returns-in_err-lay_held
returns-in_err-lay_held c =
    rw (handed_on c.from_residual.ensures.1, c.in_err-lay_held.ensures.left)
    (check_refused _ _ _ _ _ c.check_buffers-lent.ensures _ c.in_err-lay_held.ensures.number)

pub returns : goal.returns
returns c =
    check_done _ _ _ _ _ c.check_buffers-lent.ensures c.in_ok-lay_held.ensures.number c.in_ok-lay_held.ensures.laid c.check_on_words.ensures
