-- What the loop of `records::copy_in` keeps true.
use mathlib.Core.Path.{◌≡◌}
use Rattle.records.specs.Records.{put_back}
use Rattle.records.proofs.copy_in.Given as goal

abbrev pub invariant-loop-i : goal.invariant-loop-i
invariant-loop-i l = l.records ≡ put_back l.fn.records l.words l.i
