-- `dimacs::read_words` meets its contract: the `p` line, and the `e` lines.
use Rattle.std.proofs.Common.{Ok, arith}
use Rattle.lines.proofs.Found.{handed_on}
use Rattle.pairfile.proofs.Readings.{reading_holds}
use Rattle.dimacs.specs.Answers.{DimacsRead}
use Rattle.dimacs.proofs.Readings.{dimacs_sound}
use Rattle.dimacs.proofs.Whole.{sizes_refused, sizes_few, edges_refused, edges_all}
use Rattle.dimacs.proofs.read_words.Goals as goal
use Rattle.dimacs.proofs.read_words.Goals.{In_ok-read_edges}

pub returns-in_err-head-clause-file : goal.returns-in_err-head-clause-file
returns-in_err-head-clause-file c =
    rw (handed_on c.from_residual.ensures.1) (sizes_refused _ _ _ _ c.skip_comments.ensures c.in_err-head.ensures)

pub read_edges-requires-clause-few : goal.read_edges-requires-clause-few
read_edges-requires-clause-few c = sizes_few _ _ c.args.words.now _ c.skip_comments.ensures _ _ c.in_ok-head.ensures

pub returns-in_err-read_edges-clause-file : goal.returns-in_err-read_edges-clause-file
returns-in_err-read_edges-clause-file c =
    rw (handed_on c.from_residual-in_err-read_edges.ensures.1)
    (edges_refused _ _ _ _ c.skip_comments.ensures _ _ c.in_ok-head.ensures c.in_err-read_edges.ensures)

-- the whole file
whole : (c : In_ok-read_edges) → DimacsRead c.args.room c.args.bytes.now c.args.words.now c.read_edges.new.words (Ok c.in_ok-head.head)
whole c = edges_all _ _ _ _ c.skip_comments.ensures _ _ c.in_ok-head.ensures c.in_ok-read_edges.ensures

pub returns-clause-file : goal.returns-clause-file
returns-clause-file c = whole c

pub returns-clause-held : goal.returns-clause-held
returns-clause-held c = reading_holds (dimacs_sound c.args.room c.args.bytes.now) (whole c) (omega (arith, c.read_edges.auto.words))
