-- `dimacs::read_edges` meets its contract, line by line.
use Rattle.lines.proofs.Found.{handed_on}
use Rattle.dimacs.proofs.Filing.{edged_start, edged_17, edged_whole, line_refused, pair_refused, edged_step}
use Rattle.dimacs.proofs.read_edges.Goals as goal

pub loop-reader-init : goal.loop-reader-init
loop-reader-init c = edged_start _ _ _ _ c.skip_comments.ensures

pub returns-in_err-stops : goal.returns-in_err-stops
returns-in_err-stops c =
    rw (handed_on c.from_residual.ensures.1) (line_refused c.loop-reader.invariant c.loop-reader-test.ensures c.in_err-stops.ensures)

pub returns-in_err-put_new : goal.returns-in_err-put_new
returns-in_err-put_new c =
    rw (handed_on c.from_residual-in_err-put_new.ensures.1)
    (pair_refused c.loop-reader.invariant c.loop-reader-test.ensures c.in_ok-stops.ensures c.in_err-put_new.ensures)

pub loop-reader-preserved : goal.loop-reader-preserved
loop-reader-preserved c =
    edged_step c.loop-reader.invariant c.loop-reader-test.ensures c.in_ok-stops.ensures c.requires.few c.requires.room c.in_ok-put_new.ensures
    c.skip_comments-in-loop-reader.ensures

pub returns-then-k-m : goal.returns-then-k-m
returns-then-k-m c = edged_17 c.loop-reader.invariant c.loop-reader-test.ensures c.if-k-m.true

pub returns : goal.returns
returns c = edged_whole c.loop-reader.invariant c.loop-reader-test.ensures c.if-k-m.false
