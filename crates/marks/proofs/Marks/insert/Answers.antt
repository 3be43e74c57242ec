-- `Marks::insert` meets its contract. Assumes nothing.
use Rattle.marks.proofs.Bits.{inserted}
use Rattle.marks.proofs.Marks.insert.Goals as goal

pub invariant_of-self : goal.invariant_of-self
invariant_of-self c = record { whole = (inserted _ _ c.args.b c.args.self.now.whole c.requires).0 }

pub returns : goal.returns
returns c = (inserted _ _ c.args.b c.args.self.now.whole c.requires).1
