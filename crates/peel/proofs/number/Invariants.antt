-- The first i are numbered, and top is the greatest degree so far.
use mathlib.Core.Path.{◌≡◌}
use Rattle.theory.specs.Basics.{greatest}
use Rattle.slots.specs.Buffers.{entry}
use Rattle.peel.specs.Steps.{Numbered}
use Rattle.peel.proofs.number.Given as goal

abbrev pub invariant-loop-i : goal.invariant-loop-i
invariant-loop-i l = Numbered l.i l.order l.finals l.initial.cores l.initial.place l.cores l.place × (l.top ≡ greatest l.i (entry l.finals))
