-- `write_group` meets its contract: the head, then the members.
use Rattle.std.proofs.Common.{refl}
use Rattle.lines.specs.Text.{text}
use Rattle.lines.proofs.Parts.{Left, left_front}
use Rattle.sheetfile.specs.Sheet.{head_form}
use Rattle.sheetfile.specs.Writer.{member_lines}
use Rattle.texts.specs.Printed.{answer_lines}
use Rattle.texts.proofs.Lines.{all_left, members_left}
use Rattle.texts.proofs.write_group.Goals as goal
use Rattle.texts.proofs.write_group.Goals.{After-line}

pub line-requires : goal.line-requires
unfolding head_form text
line-requires c = left_front (all_left c.args.found c.args.members.now {w = c.args.writer.now} c.requires.room) _ _ refl

-- behind the head the members are left
left : (c : After-line) → let s = c.args.members.now in Left (answer_lines c.args.found s) c.args.writer.now (member_lines 0 s) c.line.new.self
unfolding head_form text
left c = members_left c.args.found c.args.members.now c.requires.room c.line.ensures

pub write_members-requires-clause-room : goal.write_members-requires-clause-room
write_members-requires-clause-room c = (left (goal.at.write_members-requires-clause-room c).After-line).room

pub returns : goal.returns
returns c = (left (goal.at.returns c).After-line).joined c.write_members.ensures
