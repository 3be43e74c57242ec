-- What the loop of `records::copy_out` keeps true.
use mathlib.Core.Path.{◌≡◌}
use lib.ListN.{take}
use Rattle.records.specs.Records.{copied_out}
use Rattle.records.proofs.copy_out.Given as goal

abbrev pub invariant-loop-i : goal.invariant-loop-i
invariant-loop-i l = l.words ≡ copied_out (take l.i l.records) l.fn.words
