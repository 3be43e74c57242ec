-- The loop's invariant is `Counted`: so many number lines have been read.
use Rattle.sheetfile.proofs.Reading.{Counted}
use Rattle.sheetfile.proofs.sheet.read_numbers.Given as goal

abbrev pub invariant-loop-core : goal.invariant-loop-core
invariant-loop-core l = Counted l.initial.reader.left.now l.cores l.reader.left.now l.core-index
