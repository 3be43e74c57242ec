-- The loop's invariant is `Matched`: the form so far has been matched, and its numbers stand in front of the others, which are 0.
use Rattle.lines.proofs.Forms.{Matched}
use Rattle.lines.proofs.reader.Reader.line.Given as goal

abbrev pub invariant-loop-c : goal.invariant-loop-c
invariant-loop-c g l = Matched g.row.N l.digits l.form l.fn.self.left.now l.numbers l.reader.left.now l.k l.c-index
