-- `dimacs::skip_comments` meets its contract, comment by comment.
use Rattle.std.proofs.Common.{sym}
use Rattle.dimacs.proofs.Scanning.{skipped_stop, skipped_open, skipped_more}
use Rattle.dimacs.proofs.skip_comments.Goals as goal

pub returns-in_default : goal.returns-in_default
returns-in_default c = skipped_open _ _ c.loop-left.invariant c.in_default.ensures

pub loop-left-preserved : goal.loop-left-preserved
loop-left-preserved c = skipped_more _ _ c.loop-left.invariant (sym c.loop-left-test.ensures) _ c.in-Some.ensures

pub returns : goal.returns
returns c = skipped_stop _ _ c.loop-left.invariant (sym c.loop-left-test.ensures)
