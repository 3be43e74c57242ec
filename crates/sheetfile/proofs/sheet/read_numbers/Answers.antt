-- `sheetfile::sheet::read_numbers` meets its contract, line by line.
use Rattle.std.proofs.Common.{rules}
use Rattle.theory.specs.Basics.{mark}
use Rattle.lines.specs.Text.{text, between}
use Rattle.lines.specs.Lines.{is_place, places}
use Rattle.lines.proofs.Found.{handed_on}
use Rattle.sheetfile.specs.Sheet.{number_form}
use Rattle.sheetfile.proofs.Reading.{counted_missing, counted_unfit, counted_step, counted_done}
use Rattle.sheetfile.proofs.sheet.read_numbers.Goals as goal

pub line_due-requires : goal.line_due-requires
unfolding places is_place between mark
line_due-requires c = search rules

pub returns-in_err-number : goal.returns-in_err-number
unfolding number_form text
returns-in_err-number c =
    rw (handed_on c.from_residual.ensures.1) (counted_missing c.loop-core.invariant c.loop-core-test.true c.in_err-number.ensures)

pub returns-then-number-core : goal.returns-then-number-core
unfolding number_form text
returns-then-number-core c = counted_unfit c.loop-core.invariant c.loop-core-test.true c.in_ok-number.ensures c.if-number-core.true

pub loop-core-preserved : goal.loop-core-preserved
unfolding number_form text
loop-core-preserved c = counted_step c.loop-core.invariant c.loop-core-test.true c.in_ok-number.ensures c.if-number-core.false

pub returns : goal.returns
returns c = counted_done c.loop-core.invariant c.loop-core-test.false
