-- `kandurzo::sheets::solved` meets its contract: solve of the words is solve of the lent records. Assumes nothing.
use Rattle.lines.proofs.Found.{handed_on}
use Rattle.kandurzo.proofs.Solves.{solve_refused, solve_done}
use Rattle.kandurzo.proofs.sheets.solved.Goals as goal

pub returns-in_err-lay_held : goal.returns-in_err-lay_held
returns-in_err-lay_held c =
    rw (handed_on c.from_residual.ensures.1, c.in_err-lay_held.ensures.left)
    (solve_refused _ _ _ _ _ _ c.solve_buffers-lent.ensures _ c.in_err-lay_held.ensures.number)

pub returns : goal.returns
returns c =
    solve_done _ _ _ _ _ _ c.solve_buffers-lent.ensures c.in_ok-lay_held.ensures.number c.in_ok-lay_held.ensures.laid c.solve_on_words.ensures
