-- The loop's invariant is `Left`: the rest of the form with the rest of the numbers is to be written.
use Rattle.std.proofs.Common.{drop}
use Rattle.lines.specs.Lines.{filled}
use Rattle.lines.proofs.Parts.{Left}
use Rattle.lines.proofs.writer.Writer.line.Given as goal

abbrev pub invariant-loop-c : goal.invariant-loop-c
invariant-loop-c l = Left (filled l.form l.numbers) l.fn.self (filled (drop l.c-index l.form) l.rest.rest.now) l.self
