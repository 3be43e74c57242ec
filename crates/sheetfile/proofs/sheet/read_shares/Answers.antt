-- `sheetfile::sheet::read_shares` meets its contract, line by line.
use Rattle.std.proofs.Common.{rules, tests}
use Rattle.theory.specs.Basics.{mark}
use Rattle.theory.specs.Words.{list_in}
use Rattle.lines.specs.Text.{text, between}
use Rattle.lines.specs.Lines.{is_place, places}
use Rattle.lines.proofs.Found.{handed_on}
use Rattle.sheetfile.specs.Sheet.{share_form}
use Rattle.sheetfile.proofs.Reading.{shared_missing, shared_unfit, shared_step, shared_done}
use Rattle.sheetfile.proofs.sheet.read_shares.Goals as goal

pub line_due-requires : goal.line_due-requires
unfolding places is_place between mark
line_due-requires c = search rules

pub returns-in_err-a : goal.returns-in_err-a
unfolding share_form text list_in
returns-in_err-a c = rw (handed_on c.from_residual.ensures.1) (shared_missing c.loop-j.invariant (rw c.requires at c.loop-j-test.true) c.in_err-a.ensures)

pub returns-then-ne : goal.returns-then-ne
unfolding share_form text list_in
returns-then-ne c = shared_unfit c.loop-j.invariant (rw c.requires at c.loop-j-test.true) c.in_ok-a.ensures (search (rules, tests))

pub loop-j-preserved : goal.loop-j-preserved
unfolding share_form text
loop-j-preserved c = shared_step c.loop-j.invariant (rw c.requires at c.loop-j-test.true) c.in_ok-a.ensures (search (rules, tests))

pub returns : goal.returns
unfolding list_in
returns c = shared_done c.loop-j.invariant (rw c.requires at c.loop-j-test.false)
