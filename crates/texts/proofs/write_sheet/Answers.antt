-- `write_sheet` meets its contract: the group's lines, the core numbers, the shares.
use Rattle.std.proofs.Common.{refl, ◌++◌, length, rules, of_calls}
use Rattle.theory.specs.Words.{list_in}
use Rattle.lines.specs.Text.{text}
use Rattle.lines.proofs.Parts.{Left, left_front}
use Rattle.sheetfile.specs.Sheet.{number_form, share_form}
use Rattle.sheetfile.specs.Writer.{share_lines}
use Rattle.texts.specs.Printed.{sheet_lines}
use Rattle.texts.specs.Filling.{given_lines}
use Rattle.texts.proofs.Parts.{number_numbers, share_numbers}
use Rattle.texts.proofs.Lines.{group_left, numbers_left, shares_left}
use Rattle.texts.proofs.write_sheet.Goals as goal
use Rattle.texts.proofs.write_sheet.Goals.{After-write_group, After-write_lines}

pub write_group-requires-clause-room : goal.write_group-requires-clause-room
write_group-requires-clause-room c =
    let l = c.args.list in
    left_front (group_left c.args.found c.args.members.now c.args.cores.now l.n l.m l.ends.now l.weights.now c.args.shares.now c.requires.each_pair
    {w = c.args.writer.now} c.requires.room) _ _ refl

-- behind the group the core numbers are left, and the shares
numbers : (c : After-write_group) →
    let l = c.args.list in let g = list_in l.n l.m l.ends.now l.weights.now in let cs = c.args.cores.now in let xs = c.args.shares.now in
    Left (sheet_lines c.args.found c.args.members.now cs g.pairs xs) c.args.writer.now
    (given_lines number_form (number_numbers cs) 0 (length cs) ++ share_lines g.pairs xs) c.write_group.new.writer
numbers c =
    let l = c.args.list in
    numbers_left c.args.found c.args.members.now c.args.cores.now l.n l.m l.ends.now l.weights.now c.args.shares.now c.requires.each_pair c.requires.room
    c.write_group.ensures

pub write_lines-requires-clause-room : goal.write_lines-requires-clause-room
unfolding number_form text
write_lines-requires-clause-room c = (
  number_numbers c.args.cores.now,
  record { each = λ i r l called. search (rules, of_calls) },
  left_front (numbers (goal.at.write_lines-requires-clause-room c).After-write_group) _ _ refl,
)

-- and behind them the shares
shares : (c : After-write_lines) →
    let l = c.args.list in let g = list_in l.n l.m l.ends.now l.weights.now in let xs = c.args.shares.now in
    Left (sheet_lines c.args.found c.args.members.now c.args.cores.now g.pairs xs) c.args.writer.now
    (given_lines share_form (share_numbers l.ends.now xs) 0 (length xs)) c.write_lines.new.writer
unfolding number_form text
shares c =
    let l = c.args.list in
    shares_left c.args.found c.args.members.now c.args.cores.now l.n l.m l.ends.now l.weights.now c.args.shares.now c.requires.each_pair c.requires.room
    c.write_group.ensures
    (c.write_lines.ensures (number_numbers c.args.cores.now) (record { each = λ i r l called. search (rules, of_calls) }))

pub write_lines-requires-2-clause-room : goal.write_lines-requires-2-clause-room
unfolding share_form text
write_lines-requires-2-clause-room c = (
  share_numbers c.args.list.ends.now c.args.shares.now,
  record { each = λ i r l called. search (rules, of_calls) },
  (shares (goal.at.write_lines-requires-2-clause-room c).After-write_lines).room,
)

pub returns : goal.returns
unfolding share_form text
returns c =
    let left = shares (goal.at.returns c).After-write_lines in
    let l = c.args.list in
    left.joined (c.write_lines-2.ensures (share_numbers l.ends.now c.args.shares.now) (record { each = λ i r l called. search (rules, of_calls) }) left.room)
