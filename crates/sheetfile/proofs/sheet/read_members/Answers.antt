-- `sheetfile::sheet::read_members` meets its contract, line by line.
use Rattle.std.proofs.Common.{rules, tests}
use Rattle.theory.specs.Basics.{mark}
use Rattle.lines.specs.Text.{text, between}
use Rattle.lines.specs.Lines.{is_place, places}
use Rattle.lines.proofs.Found.{handed_on}
use Rattle.sheetfile.specs.Sheet.{member_form}
use Rattle.sheetfile.proofs.Reading.{marked_missing, marked_unfit, marked_step, marked_done}
use Rattle.sheetfile.proofs.sheet.read_members.Goals as goal

pub line_due-requires : goal.line_due-requires
unfolding places is_place between mark
line_due-requires c = search rules

pub returns-in_err-member : goal.returns-in_err-member
unfolding member_form text
returns-in_err-member c = rw (handed_on c.from_residual.ensures.1) (marked_missing c.loop.invariant c.loop-test.true c.in_err-member.ensures)

pub returns-then-not-contains : goal.returns-then-not-contains
unfolding member_form text
returns-then-not-contains c =
    marked_unfit c.loop.invariant c.loop-test.true c.in_ok-member.ensures (search (rules, tests))

pub loop-preserved : goal.loop-preserved
unfolding member_form text
loop-preserved c = marked_step c.loop.invariant c.loop-test.true c.in_ok-member.ensures (search (rules, tests))

pub returns : goal.returns
returns c = marked_done c.loop.invariant c.loop-test.false
