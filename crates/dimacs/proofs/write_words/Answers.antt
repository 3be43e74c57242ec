-- `dimacs::write_words` meets its contract: a DIMACS file is the file of a list in two such forms.
use Rattle.std.proofs.Common.{arith}
use Rattle.theory.specs.Words.{list_in}
use Rattle.lines.specs.Text.{text}
use Rattle.dimacs.specs.Edges.{problem_form, edge_form}
use Rattle.dimacs.proofs.Writing.{dimacs_lined, dimacs_length}
use Rattle.dimacs.proofs.write_words.Goals as goal

pub write_file-requires-clause-room : goal.write_file-requires-clause-room
unfolding problem_form edge_form text
write_file-requires-clause-room c =
    let l = c.args.list in
    let g = list_in l.n l.m l.ends.now l.weights.now in
    rw (← dimacs_lined g) (omega (arith, dimacs_length g l.held.listed))

pub returns : goal.returns
unfolding problem_form edge_form text
returns c =
    let l = c.args.list in
    rw (dimacs_lined (list_in l.n l.m l.ends.now l.weights.now)) c.write_file.ensures
