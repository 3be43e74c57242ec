-- The same lines are left. The measure is what is left of the bytes.
use Rattle.std.proofs.Common.{◌≡◌, length}
use Rattle.dimacs.specs.Comments.{plain_lines}
use Rattle.dimacs.proofs.skip_comments.Given as goal

abbrev pub invariant-loop-left : goal.invariant-loop-left
invariant-loop-left l = plain_lines l.initial.reader.left.now ≡ plain_lines l.reader.left.now

abbrev pub decreases-loop-left : goal.decreases-loop-left
decreases-loop-left l = length l.reader.left.now
