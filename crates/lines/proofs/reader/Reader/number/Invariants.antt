-- The loop's invariant is `Scan`: the first `count` bytes are digits and have been read.
use Rattle.std.proofs.Common.{◌≡◌}
use Rattle.lines.proofs.Digits.{Scan}
use Rattle.lines.proofs.reader.Reader.number.Given as goal

abbrev pub invariant-loop-c : goal.invariant-loop-c
invariant-loop-c l = record { scan : Scan l.digits l.left l.value l.count; index : l.count ≡ l.c-index }
