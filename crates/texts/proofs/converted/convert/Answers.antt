-- `converted::convert` meets its contract: a file that is refused, and one that names a list.
use Rattle.std.proofs.Common.{arith}
use Rattle.lines.specs.Outcomes.{outcome_of}
use Rattle.lines.proofs.Found.{handed_on}
use Rattle.texts.proofs.Files.{prints, text_printed, text_refused}
use Rattle.texts.proofs.Converting.{refusal_converted, list_converted}
use Rattle.texts.proofs.converted.convert.Goals as goal

pub returns-in_err-head : goal.returns-in_err-head
unfolding outcome_of
returns-in_err-head g c = rw (handed_on c.from_residual.ensures.1) (text_refused (refusal_converted g.G.FileWriter.file_of c.in_err-head.ensures.found))

pub returns : goal.returns
unfolding outcome_of
returns g c =
    let puts = rw c.list.ensures.value at c.write_words.ensures.puts in
    let fits = c.write_words.ensures.fits in
    text_printed (prints (list_converted g.G.FileWriter.file_of c.in_ok-head.ensures.found) puts (omega (arith, fits, c.requires)))
