-- `converted::from_dimacs_text` meets its contract: a file that is too long, and any other.
use Rattle.std.proofs.Common.{arith}
use Rattle.texts.specs.Printed.{TextWritten}
use Rattle.texts.specs.Converted.{FromDimacsRead}
use Rattle.texts.proofs.Files.{text_refused, text_as, shown}
use Rattle.texts.proofs.Converting.{long_read, from_dimacs_read}
use Rattle.texts.proofs.converted.from_dimacs_text.Goals as goal
use Rattle.texts.proofs.converted.from_dimacs_text.Goals.{then-file-gt1048576, else-file-gt1048576}

pub returns : goal.returns
returns c =
    let w = c.if-file-gt1048576 in
    let written : TextWritten (FromDimacsRead c.bytes-file.result.now) c.args.out.now w.out w.written =
    elim w.branch [
      | then-file-gt1048576 x ↦ rw (x.written-is, x.out-is) (text_refused (long_read x.if-file-gt1048576.true))
      | else-file-gt1048576 x ↦
          rw (x.written-is, x.out-is) (text_as _ (λ text is. from_dimacs_read x.if-file-gt1048576.false is) x.convert-written.ensures)
    ] in
    let r = c.text_or_refusal.ensures in
    rw (← c.bytes-file.ensures) (shown _ (omega (arith, c.requires)) written r.text r.refused)
