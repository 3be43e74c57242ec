-- The loop's invariant is `Edged`: k `e` lines have been read, and their pairs are in the words. The measure is the number of lines left.
use Rattle.std.proofs.Common.{◌-◌}
use Rattle.dimacs.proofs.Filing.{Edged}
use Rattle.dimacs.proofs.read_edges.Given as goal

abbrev pub invariant-loop-reader : goal.invariant-loop-reader
invariant-loop-reader l = Edged l.fn.reader.left.now l.n l.m l.initial.words l.words l.reader.left.now l.k

abbrev pub decreases-loop-reader : goal.decreases-loop-reader
decreases-loop-reader l = l.m - l.k
