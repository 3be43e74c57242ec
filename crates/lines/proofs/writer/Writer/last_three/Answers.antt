-- `Writer::last_three` meets its contract, digit by digit.
use Rattle.std.proofs.Common.{◌+◌, ◌/◌, ◌%◌, ◌∷◌, [], arith}
use Rattle.lines.specs.Numbers.{last_two, last_three}
use Rattle.lines.proofs.Putting.{writes_none}
use Rattle.lines.proofs.Parts.{Left, left_start, left_front, left_step}
use Rattle.lines.proofs.Spelling.{some_digits, no_digits}
use Rattle.lines.proofs.writer.Writer.last_three.Goals as goal
use Rattle.lines.proofs.writer.Writer.last_three.Goals.{Joined-value-gt99, Joined-value-gt9, then-value-gt99, else-value-gt99, then-value-gt9, else-value-gt9}

pub byte-requires : goal.byte-requires
unfolding last_three
byte-requires c =
    left_front (left_start _ c.args.self.now c.requires) ((48 + c.args.value / 100 % 10) ∷ []) _ (some_digits _ _ (omega (arith, c.if-value-gt99.true)))

-- two are left
two : (c : Joined-value-gt99) → Left (last_three c.args.value) c.args.self.now (last_two c.args.value) c.if-value-gt99.self
unfolding last_three
two c =
    let all = left_start _ c.args.self.now c.requires in
    elim c.if-value-gt99.branch [
      | then-value-gt99 w ↦ rw w.self-is (left_step all _ _ (some_digits _ _ (omega (arith, w.if-value-gt99.true))) w.byte.ensures)
      | else-value-gt99 w ↦ rw w.self-is (left_step all _ _ (no_digits _ _ (omega (arith, w.if-value-gt99.false))) (writes_none _))
    ]

pub byte-requires-then-value-gt9 : goal.byte-requires-then-value-gt9
byte-requires-then-value-gt9 c =
    left_front (two (goal.at.byte-requires-then-value-gt9 c).Joined-value-gt99) ((48 + c.args.value / 10 % 10) ∷ []) _
    (some_digits _ _ (omega (arith, c.if-value-gt9.true)))

-- one is left
one : (c : Joined-value-gt9) → Left (last_three c.args.value) c.args.self.now ((48 + c.args.value % 10) ∷ []) c.if-value-gt9.self
one c =
    let left = two c.before in
    elim c.if-value-gt9.branch [
      | then-value-gt9 w ↦ rw w.self-is (left_step left _ _ (some_digits _ _ (omega (arith, w.if-value-gt9.true))) w.byte-then-value-gt9.ensures)
      | else-value-gt9 w ↦ rw w.self-is (left_step left _ _ (no_digits _ _ (omega (arith, w.if-value-gt9.false))) (writes_none _))
    ]

pub byte-requires-2 : goal.byte-requires-2
byte-requires-2 c = (one (goal.at.byte-requires-2 c).Joined-value-gt9).room

pub returns : goal.returns
returns c = (one (goal.at.returns c).Joined-value-gt9).joined c.byte-2.ensures
