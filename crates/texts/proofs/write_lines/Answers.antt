-- `write_lines` meets its contract, line by line.
use Rattle.std.proofs.Common.{Some, None, sym}
use Rattle.lines.proofs.Parts.{left_start, left_front, left_step, left_done}
use Rattle.texts.proofs.Parts.{all_given, next_there, next_absent, no_given}
use Rattle.texts.proofs.write_lines.Goals as goal
use Rattle.texts.proofs.write_lines.Goals.{in-Some, in_default}

pub loop-i-init : goal.loop-i-init
loop-i-init g c = λ given gives room. rw (all_given c.args.form.now given c.args.count) (left_start _ c.args.writer.now room)

pub line-requires : goal.line-requires
line-requires g c =
    let r = c.requires.room in
    let e = sym (r.1.each c.loop-i.i (Some c.in-Some.line) c.loop-i-test.true c.in-Some.ensures) in
    left_front (c.loop-i.invariant r.0 r.1 r.2) _ _ (next_there c.args.form.now r.0 c.loop-i.i c.args.count c.loop-i-test.true e)

pub loop-i-preserved : goal.loop-i-preserved
loop-i-preserved g c = λ given gives room.
    let left = c.loop-i.invariant given gives room in
    elim c.match-numbers.branch [
      | in-Some w ↦
          let e = sym (gives.each c.loop-i.i (Some w.in-Some.line) c.loop-i-test.true w.in-Some.ensures) in
          rw w.writer-is (left_step left _ _ (next_there c.args.form.now given c.loop-i.i c.args.count c.loop-i-test.true e) w.line.ensures)
      | in_default w ↦
          let e = sym (gives.each c.loop-i.i None c.loop-i-test.true w.in_default.ensures) in
          rw (w.writer-is, ← next_absent c.args.form.now given c.loop-i.i c.args.count c.loop-i-test.true e) left
    ]

pub returns : goal.returns
returns g c = λ given gives room.
    left_done (c.loop-i.invariant given gives room) (no_given c.args.form.now given c.loop-i.i c.args.count c.loop-i-test.false)
