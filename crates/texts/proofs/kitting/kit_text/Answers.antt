-- `kitting::kit_text` meets its contract: the text, or the refusal's.
use Rattle.std.proofs.Common.{arith}
use Rattle.texts.proofs.Files.{shown}
use Rattle.texts.proofs.kitting.kit_text.Goals as goal

pub returns : goal.returns
returns c =
    let r = c.text_or_refusal.ensures in
    rw (← c.bytes.ensures) (shown _ (omega (arith, c.requires)) c.write_kitted.ensures r.text r.refused)
