-- `Pair::stands_before` meets its contract: second numbers are below 65,536. Assumes nothing.
use native.Mathlib.Omega.{arith}
use Rattle.records.specs.Records.{as_pair}
use Rattle.records.proofs.Scans.{number_before}
use Rattle.records.proofs.Pair.stands_before.Goals as goal

pub returns : goal.returns
unfolding as_pair
returns c =
    let a = c.args in
    rw (c.from.ensures, c.from-2.ensures, c.from-3.ensures, c.from-4.ensures)
    (number_before (as_pair a.self) (as_pair a.other) (omega arith) (omega arith))
