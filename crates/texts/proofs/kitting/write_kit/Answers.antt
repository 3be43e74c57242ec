-- `kitting::write_kit` meets its contract: the ratio, then the members.
use Rattle.std.proofs.Common.{refl}
use Rattle.lines.proofs.Parts.{Left, left_start, left_front, left_step}
use Rattle.sheetfile.specs.Writer.{member_lines}
use Rattle.texts.specs.Texts.{ratio_lines}
use Rattle.texts.specs.Kits.{kit_lines}
use Rattle.texts.proofs.kitting.write_kit.Goals as goal
use Rattle.texts.proofs.kitting.write_kit.Goals.{After-write_ratio}

pub write_ratio-requires : goal.write_ratio-requires
unfolding kit_lines
write_ratio-requires c =
    let r = c.args.ratio in
    left_front (left_start (kit_lines r.p r.q c.args.members.now) c.args.writer.now c.requires.room) _ (member_lines 0 c.args.members.now) refl

-- behind the ratio the members are left
left : (c : After-write_ratio) → let r = c.args.ratio in let s = c.args.members.now in
    Left (kit_lines r.p r.q s) c.args.writer.now (member_lines 0 s) c.write_ratio.new.writer
unfolding kit_lines
left c =
    let r = c.args.ratio in
    let s = c.args.members.now in
    left_step (left_start (kit_lines r.p r.q s) c.args.writer.now c.requires.room) (ratio_lines r.p r.q) (member_lines 0 s) refl c.write_ratio.ensures

pub write_members-requires-clause-room : goal.write_members-requires-clause-room
write_members-requires-clause-room c = (left (goal.at.write_members-requires-clause-room c).After-write_ratio).room

pub returns : goal.returns
returns c = (left (goal.at.returns c).After-write_ratio).joined c.write_members.ensures
