-- `write_words` of pair files meets its contract.
use Rattle.theory.specs.Words.{list_in}
use Rattle.lists.specs.Listed.{listed}
use Rattle.pairfile.proofs.Writing.{file_length}
use Rattle.texts.specs.Converted.{pair_file}
use Rattle.texts.proofs.converted.PairFileFileWriter.write_words.Goals as goal

pub returns-clause-puts : goal.returns-clause-puts
unfolding pair_file list_in
returns-clause-puts c = c.write_words.ensures

pub returns-clause-fits : goal.returns-clause-fits
unfolding pair_file
returns-clause-fits c = file_length (listed c.args.list) c.args.list.held.listed
