-- The loop's invariant is `Marked`: so many member lines have been read, and their members are marked.
use Rattle.sheetfile.proofs.Reading.{Marked}
use Rattle.sheetfile.proofs.sheet.read_members.Given as goal

abbrev pub invariant-loop : goal.invariant-loop
invariant-loop l = Marked l.initial.reader.left.now l.q l.initial.members l.members l.reader.left.now l.low l.counter
