-- What the loop of `records::all_good` keeps true: the records that are left are as good as all.
use mathlib.Core.Path.{◌≡◌}
use lib.ListN.{drop}
use Rattle.records.specs.Records.{blank}
use Rattle.records.specs.Scan.{good_after}
use Rattle.records.proofs.all_good.Given as goal

abbrev pub invariant-loop-p : goal.invariant-loop-p
invariant-loop-p l = good_after l.n l.last (drop l.p-index l.records) ≡ good_after l.n blank l.records
