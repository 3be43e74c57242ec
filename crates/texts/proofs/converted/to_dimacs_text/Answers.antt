-- `converted::to_dimacs_text` meets its contract.
use Rattle.std.proofs.Common.{arith}
use Rattle.texts.proofs.Files.{text_as, shown}
use Rattle.texts.proofs.Converting.{to_dimacs_read}
use Rattle.texts.proofs.converted.to_dimacs_text.Goals as goal

pub returns : goal.returns
returns c =
    let r = c.text_or_refusal.ensures in
    rw (← c.bytes-file.ensures) (shown _ (omega (arith, c.requires)) (text_as _ (λ text is. to_dimacs_read is) c.convert.ensures) r.text r.refused)
