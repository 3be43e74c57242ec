-- `Marks::new` meets its contract. Assumes nothing.
use Rattle.marks.proofs.Bits.{none_marked, none_whole}
use Rattle.marks.proofs.Marks.new.Goals as goal

pub invariant_of-result : goal.invariant_of-result
invariant_of-result c = record { whole = none_whole }

pub returns : goal.returns
returns c = none_marked
