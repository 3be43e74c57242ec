-- The loop's invariant is `Shared`: j share lines have been read, and their shares are in the buffer.
use Rattle.sheetfile.proofs.Reading.{Shared}
use Rattle.sheetfile.proofs.sheet.read_shares.Given as goal

abbrev pub invariant-loop-j : goal.invariant-loop-j
invariant-loop-j l = Shared l.initial.reader.left.now l.list.m l.list.ends.now l.list.weights.now l.shares l.reader.left.now l.j
