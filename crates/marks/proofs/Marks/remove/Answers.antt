-- `Marks::remove` meets its contract. Assumes nothing.
use Rattle.marks.proofs.Bits.{removed}
use Rattle.marks.proofs.Marks.remove.Goals as goal

pub invariant_of-self : goal.invariant_of-self
invariant_of-self c = record { whole = rw c.from.ensures (removed _ _ c.args.b c.args.self.now.whole c.requires).0 }

pub returns : goal.returns
returns c = (removed _ _ c.args.b c.args.self.now.whole c.requires).1
