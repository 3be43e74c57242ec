-- `Marks::first` meets its contract. Assumes nothing.
use Rattle.std.proofs.Common.{rules}
use Rattle.marks.proofs.Bits.{marked_low, first_word, first_mark}
use Rattle.marks.proofs.Marks.first.Goals as goal

pub bounds-self-word : goal.bounds-self-word
bounds-self-word c = first_word _ _ c.args.self.now.whole c.requires (search rules)

pub returns : goal.returns
returns c =
    let f = first_mark _ _ c.args.self.now.whole c.requires (search rules) (search rules) in
    record { first = f; bound = marked_low _ _ c.args.self.now.whole _ f.there }
