-- `Reader::line` meets its contract, byte by byte of the form.
use Rattle.std.proofs.Common.{arith, sym}
use Rattle.lines.specs.Text.{between}
use Rattle.lines.specs.Lines.{is_place}
use Rattle.lines.proofs.Forms.{matched_start, matched_end, matched_room, matched_missing, matched_number, matched_short, matched_other, matched_byte}
use Rattle.lines.proofs.reader.Reader.line.Goals as goal
use Rattle.lines.proofs.reader.Reader.line.Goals.{then-is_ascii_uppercase+in_ok-numbers, else-is_ascii_uppercase+in-len1-up+else-first-c}

pub loop-c-init : goal.loop-c-init
loop-c-init g c = matched_start _ _ _ _

pub returns-in_err-numbers : goal.returns-in_err-numbers
unfolding is_place between
returns-in_err-numbers g c =
    let place = sym c.if-is_ascii_uppercase.ensures.value in
    rw c.from_residual.ensures (matched_missing c.loop-c.invariant c.loop-c-test.true place c.in_err-numbers.ensures.found)

pub bounds-numbers-k : goal.bounds-numbers-k
unfolding is_place between
bounds-numbers-k g c =
    let place = sym c.if-is_ascii_uppercase.ensures.value in
    omega (arith, matched_room c.loop-c.invariant c.loop-c-test.true place)

pub returns-in_default : goal.returns-in_default
unfolding is_place between
returns-in_default g c =
    let byte = sym c.if-is_ascii_uppercase.ensures.value in
    matched_short c.loop-c.invariant c.loop-c-test.true byte c.in_default.len_below

pub returns-then-first-c : goal.returns-then-first-c
unfolding is_place between
returns-then-first-c g c =
    let byte = sym c.if-is_ascii_uppercase.ensures.value in
    matched_other c.loop-c.invariant c.loop-c-test.true byte c.in-len1-up.len_at_least c.if-first-c.true

pub loop-c-preserved : goal.loop-c-preserved
unfolding is_place between
loop-c-preserved g c =
    elim c.if-is_ascii_uppercase.branch [
      | then-is_ascii_uppercase+in_ok-numbers w ↦
          let place = sym w.if-is_ascii_uppercase.ensures.value in
          let room = matched_room c.loop-c.invariant c.loop-c-test.true place in
          rw (w.reader-is, w.numbers-is, w.k-is)
          (matched_number c.loop-c.invariant c.loop-c-test.true place w.in_ok-numbers.ensures.found (omega (arith, room)))
      | else-is_ascii_uppercase+in-len1-up+else-first-c w ↦
          let byte = sym w.if-is_ascii_uppercase.ensures.value in
          rw (w.reader-is, w.numbers-is, w.k-is)
          (matched_byte c.loop-c.invariant c.loop-c-test.true byte w.in-len1-up.len_at_least w.if-first-c.false)
    ]

pub returns : goal.returns
returns g c = matched_end c.loop-c.invariant c.loop-c-test.false
