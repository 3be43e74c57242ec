-- `on_words::reading::EdgeFileFormat::read_on_words` meets its contract: what the file says lies in the words. Assumes nothing.
use Rattle.on_words.proofs.Readings.{reads_dimacs, read_on}
use Rattle.on_words.proofs.reading.EdgeFileFormat.read_on_words.Goals as goal

pub returns : goal.returns
returns c = read_on reads_dimacs _ _ _ _ _ c.read_words.ensures.file c.read_words.ensures.held
