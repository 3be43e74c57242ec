-- `write_members` meets its contract, line by line.
use Rattle.std.proofs.Common.{rules, of_calls}
use Rattle.lines.specs.Text.{text}
use Rattle.sheetfile.specs.Sheet.{member_form}
use Rattle.texts.proofs.Parts.{member_numbers, members_given}
use Rattle.texts.proofs.write_members.Goals as goal

pub write_lines-requires-clause-room : goal.write_lines-requires-clause-room
unfolding member_form text
write_lines-requires-clause-room c = (
  member_numbers c.args.members.now,
  record { each = λ i r l called. search (rules, of_calls) },
  rw (members_given c.args.members.now) c.requires.room,
)

pub returns : goal.returns
unfolding member_form text
returns c =
    let s = c.args.members.now in
    rw (members_given s) at (c.write_lines.ensures (member_numbers s) (record { each = λ i r l called. search (rules, of_calls) })
    (rw (members_given s) c.requires.room))
