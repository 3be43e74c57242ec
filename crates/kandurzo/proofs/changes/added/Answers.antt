-- `kandurzo::changes::added` meets its contract: what add does on words is what it does to the lent records. Assumes nothing.
use mathlib.Core.Path.{sym}
use native.Mathlib.Omega.{arith}
use lib.Seq.{length-take-le}
use Rattle.lines.proofs.Found.{handed_on}
use Rattle.kandurzo.proofs.Calls.{add_disagrees, add_refused, add_part, add_back, add_done}
use Rattle.kandurzo.proofs.changes.added.Goals as goal

pub returns-in_err-lay_held : goal.returns-in_err-lay_held
returns-in_err-lay_held c = rw (handed_on c.from_residual.ensures.1) (add_disagrees _ _ _ _ _ _ c.in_err-lay_held.ensures.number)

pub returns-in_err-changed : goal.returns-in_err-changed
returns-in_err-changed c =
    rw (handed_on c.from_residual-in_err-changed.ensures.1) (add_refused _ _ _ _ _ c.in_ok-lay_held.ensures.laid _ c.in_err-changed.ensures)

pub slice_bounds-copy_in-end : goal.slice_bounds-copy_in-end
slice_bounds-copy_in-end c = (add_part _ _ _ _ _ c.in_ok-lay_held.ensures.laid c.in_ok-changed.ensures).1

pub slice_bounds-copy_in-end-2 : goal.slice_bounds-copy_in-end-2
slice_bounds-copy_in-end-2 c = sym (length-take-le _ _ (add_part _ _ _ _ _ c.in_ok-lay_held.ensures.laid c.in_ok-changed.ensures).1)

pub copy_in-requires : goal.copy_in-requires
copy_in-requires c = add_back _ _ _ _ _ c.in_ok-lay_held.ensures.laid c.in_ok-changed.ensures (omega arith)

pub returns : goal.returns
returns c = rw c.copy_in.ensures.read (add_done _ _ _ _ _ c.in_ok-lay_held.ensures.laid c.in_ok-changed.ensures)
