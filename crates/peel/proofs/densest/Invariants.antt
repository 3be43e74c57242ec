-- What is left inside when i have left, and the densest remainder so far.
use mathlib.Core.Path.{◌≡◌}
use lib.ListN.{length}
use Rattle.peel.specs.Steps.{remaining, densest_by, RemainderAt}
use Rattle.peel.proofs.densest.Given as goal

abbrev pub invariant-loop-i : goal.invariant-loop-i
invariant-loop-i l =
    (l.left ≡ remaining l.finals l.i)
    × RemainderAt l.finals (densest_by (length l.finals) (remaining l.finals) l.i) l.best
