-- `Writer::line` meets its contract, byte by byte of the form.
use Rattle.std.proofs.Common.{◌∷◌, [], get_or, sym}
use Rattle.lines.specs.Text.{between}
use Rattle.lines.specs.Numbers.{spelled}
use Rattle.lines.specs.Lines.{is_place}
use Rattle.lines.proofs.Parts.{left_start, left_front, left_step, left_done}
use Rattle.lines.proofs.Writing.{next_number, next_byte, no_rest}
use Rattle.lines.proofs.writer.Writer.line.Goals as goal
use Rattle.lines.proofs.writer.Writer.line.Goals.{then-is_ascii_uppercase, else-is_ascii_uppercase}

pub loop-c-init : goal.loop-c-init
loop-c-init c = rw c.iter-rest.ensures.rest (left_start _ c.args.self.now c.requires)

pub number-requires : goal.number-requires
unfolding is_place between
number-requires c =
    let place = sym c.if-is_ascii_uppercase.ensures.value in
    left_front c.loop-c.invariant (spelled c.unwrap_or.result) _
    (next_number c.args.form.now c.loop-c.c-index c.loop-c.rest c.loop-c-test.true place c.next.result c.next.new.self c.next.ensures.steps c.copied.ensures
    c.unwrap_or.ensures)

pub byte-requires : goal.byte-requires
unfolding is_place between
byte-requires c =
    let byte = sym c.if-is_ascii_uppercase.ensures.value in
    left_front c.loop-c.invariant (get_or c.args.form.now c.loop-c.c-index 0 ∷ []) _
    (next_byte c.args.form.now c.loop-c.c-index c.loop-c.rest c.loop-c-test.true byte)

pub loop-c-preserved : goal.loop-c-preserved
unfolding is_place between
loop-c-preserved c =
    elim c.if-is_ascii_uppercase.branch [
      | then-is_ascii_uppercase w ↦
          let place = sym w.if-is_ascii_uppercase.ensures.value in
          rw (w.self-is, w.rest-is)
          (left_step c.loop-c.invariant _ _
          (next_number c.args.form.now c.loop-c.c-index c.loop-c.rest c.loop-c-test.true place w.next.result w.next.new.self w.next.ensures.steps w.copied.ensures
          w.unwrap_or.ensures)
          w.number.ensures)
      | else-is_ascii_uppercase w ↦
          let byte = sym w.if-is_ascii_uppercase.ensures.value in
          rw (w.self-is, w.rest-is)
          (left_step c.loop-c.invariant _ _ (next_byte c.args.form.now c.loop-c.c-index c.loop-c.rest c.loop-c-test.true byte) w.byte.ensures)
    ]

pub returns : goal.returns
returns c = left_done c.loop-c.invariant (no_rest c.args.form.now c.loop-c.c-index c.loop-c.rest c.loop-c-test.false)
