-- `kandurzo::changes::removed` meets its contract: what remove does on words is what it does to the lent records. Assumes nothing.
use native.Mathlib.Omega.{arith}
use Rattle.lines.proofs.Found.{handed_on}
use Rattle.kandurzo.proofs.Calls.{remove_disagrees, remove_refused, remove_back, remove_done}
use Rattle.kandurzo.proofs.changes.removed.Goals as goal

pub returns-in_err-lay_held : goal.returns-in_err-lay_held
returns-in_err-lay_held c = rw (handed_on c.from_residual.ensures.1) (remove_disagrees _ _ _ _ _ c.in_err-lay_held.ensures.number)

pub returns-in_err-changed : goal.returns-in_err-changed
returns-in_err-changed c =
    rw (handed_on c.from_residual-in_err-changed.ensures.1) (remove_refused _ _ _ _ c.in_ok-lay_held.ensures.laid _ c.in_err-changed.ensures)

pub copy_in-requires : goal.copy_in-requires
copy_in-requires c = remove_back _ _ _ _ c.in_ok-lay_held.ensures.laid c.in_ok-changed.ensures (omega arith)

pub returns : goal.returns
returns c = rw c.copy_in.ensures.read (remove_done _ _ _ _ c.in_ok-lay_held.ensures.laid c.in_ok-changed.ensures)
