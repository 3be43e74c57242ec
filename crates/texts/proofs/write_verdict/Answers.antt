-- `write_verdict` meets its contract: an accepted sheet, and one that is refused.
use Rattle.std.proofs.Common.{◌∙◌, arith, rules}
use Rattle.lines.proofs.Found.{handed_on}
use Rattle.lines.proofs.Parts.{left_lent}
use Rattle.texts.proofs.Lengths.{ratio_length}
use Rattle.texts.proofs.Files.{prints_lent, text_printed, text_refused}
use Rattle.texts.proofs.Audits.{ratio_small, verdict_refused, verdict_accepted}
use Rattle.texts.proofs.Whole.{audit_read}
use Rattle.texts.proofs.write_verdict.Goals as goal

pub write_ratio-requires : goal.write_ratio-requires
write_ratio-requires c =
    let few = ratio_length _ _ (ratio_small c.in_ok-ratio.ensures) in
    (left_lent {start = c.new-writer.result} c.new-writer.ensures.unwritten c.new-writer.ensures.start (omega (arith, few, c.requires))).room

pub returns : goal.returns
returns c =
    let names = c.write_ratio.ensures.same_buffer ∙ c.new-writer.ensures.same_buffer in
    let few = ratio_length _ _ (ratio_small c.in_ok-ratio.ensures) in
    text_printed
    (prints_lent c.new-writer.ensures.unwritten c.new-writer.ensures.start c.write_ratio.new.writer c.write_ratio.ensures (search rules)
    (audit_read (verdict_accepted c.in_ok-ratio.ensures)) (omega (arith, few, c.requires)))

pub returns-in_err-ratio : goal.returns-in_err-ratio
returns-in_err-ratio c =
    rw (handed_on c.from_residual.ensures.1) (text_refused (audit_read (verdict_refused _ c.in_err-ratio.ensures)))
