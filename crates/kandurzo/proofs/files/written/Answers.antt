-- `kandurzo::files::written` meets its contract: the file of the words is the file of the lent records. Assumes nothing.
use Rattle.lines.proofs.Found.{handed_on}
use Rattle.kandurzo.proofs.Writings.{write_refused, write_done}
use Rattle.kandurzo.proofs.files.written.Goals as goal

pub returns-in_err-lay_held : goal.returns-in_err-lay_held
returns-in_err-lay_held c =
    rw (handed_on c.from_residual.ensures.1) (write_refused _ _ _ c.write_buffers.ensures _ c.in_err-lay_held.ensures.number)

pub returns : goal.returns
returns c = write_done _ _ _ c.write_buffers.ensures c.in_ok-lay_held.ensures.number c.in_ok-lay_held.ensures.laid c.write_on_words.ensures
