-- `Reader::number` meets its contract, digit by digit.
use Rattle.std.proofs.Common.{◌≡◌, [], true, ◌∙◌, arith, refl, sym, get_or, drop}
use Rattle.lines.specs.Text.{between}
use Rattle.lines.specs.Numbers.{is_digit, digits}
use Rattle.lines.proofs.Digits.{digits_end, digits_stop, scan_start, scan_small, scan_step, scan_long, scan_empty, scan_zero, scan_number}
use Rattle.lines.proofs.reader.Reader.number.Goals as goal
use Rattle.lines.proofs.reader.Reader.number.Goals.{Left-loop-c, Else-not-is_ascii_digit, else-loop-c-test, then-loop-c-test+then-not-is_ascii_digit}

pub loop-c-init : goal.loop-c-init
loop-c-init c = record { scan = scan_start _ _; index = refl }

-- a digit stands behind those that were read
more : (c : goal.Else-not-is_ascii_digit) → is_digit (get_or c.args.self.now.left.now c.loop-c.count 0) ≡ true
unfolding is_digit between
more c = rw c.loop-c.invariant.index (sym c.is_ascii_digit.ensures.value ∙ c.if-not-is_ascii_digit.false)

pub returns-then-count-digits : goal.returns-then-count-digits
returns-then-count-digits c =
    let d = more (goal.at.returns-then-count-digits c).Else-not-is_ascii_digit in
    record { found = scan_long c.loop-c.invariant.scan (omega arith) d c.if-count-digits.true; stays = refl }

pub overflow_mul-value : goal.overflow_mul-value
overflow_mul-value c =
    let room = scan_small c.loop-c.invariant.scan c.requires c.if-count-digits.false in
    record { fits = omega (arith, room) }

pub overflow_add-value : goal.overflow_add-value
overflow_add-value c =
    let room = scan_small c.loop-c.invariant.scan c.requires c.if-count-digits.false in
    record { fits = omega (arith, room) }

pub loop-c-preserved : goal.loop-c-preserved
loop-c-preserved c =
    let d = more (goal.at.loop-c-preserved c).Else-not-is_ascii_digit in
    let s = scan_step c.loop-c.invariant.scan (omega arith) d c.if-count-digits.false in
    let next = c.from.ensures in
    record { scan = rw (next, ← c.loop-c.invariant.index) s; index = omega (arith, c.loop-c.invariant.index) }

-- no digit stands behind those that were read
stopped : (c : goal.Left-loop-c) → digits (drop c.loop-c.count c.args.self.now.left.now) ≡ []
unfolding is_digit between
stopped c = rw c.loop-c.invariant.index (elim c.loop-c-test.branch [
  | else-loop-c-test w ↦ digits_end _ _ w.loop-c-test.false
  | then-loop-c-test+then-not-is_ascii_digit w ↦ digits_stop _ _ w.loop-c-test.true (sym w.is_ascii_digit.ensures.value ∙ w.if-not-is_ascii_digit.true)
])

pub returns-then-count-eq0 : goal.returns-then-count-eq0
returns-then-count-eq0 c =
    let stop = stopped (goal.at.returns-then-count-eq0 c).Left-loop-c in
    record { found = scan_empty c.loop-c.invariant.scan stop c.if-count-eq0.true; stays = refl }

pub returns-then-count-gt1 : goal.returns-then-count-gt1
returns-then-count-gt1 c =
    let stop = stopped (goal.at.returns-then-count-gt1 c).Left-loop-c in
    record { found = scan_zero c.loop-c.invariant.scan stop c.if-count-eq0.false c.if-left-eq48.true c.if-count-gt1.true; stays = refl }

pub returns : goal.returns
returns c =
    let stop = stopped (goal.at.returns c).Left-loop-c in
    record { found = scan_number c.loop-c.invariant.scan stop c.if-count-eq0.false c.else-left-eq48.either; stays = tt }
