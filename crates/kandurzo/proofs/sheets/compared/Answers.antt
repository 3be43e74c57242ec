-- `kandurzo::sheets::compared` meets its contract: surplus of the words is surplus of the lent records. Assumes nothing.
use Rattle.lines.proofs.Found.{handed_on}
use Rattle.kandurzo.proofs.Judgements.{surplus_refused, surplus_done}
use Rattle.kandurzo.proofs.sheets.compared.Goals as goal

pub returns-in_err-lay_held : goal.returns-in_err-lay_held
returns-in_err-lay_held c =
    rw (handed_on c.from_residual.ensures.1)
    (surplus_refused _ _ _ _ c.surplus_buffers-lent.ensures _ c.in_err-lay_held.ensures.number)

pub returns : goal.returns
returns c =
    surplus_done _ _ _ _ c.surplus_buffers-lent.ensures c.in_ok-lay_held.ensures.number c.in_ok-lay_held.ensures.laid c.surplus_on_words.ensures
