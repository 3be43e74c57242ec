-- `put_number` meets its contract: the digits of a thousandth, and the last three behind them; a number below a thousand has no others.
use Rattle.std.proofs.Common.{◌≡◌, ◌∙◌, ℕ, ◌+◌, ◌/◌, ◌^◌, ◌<◌, ◌++◌, length, length-append, arith, rules}
use Rattle.lines.specs.Numbers.{spelled, last_three}
use Rattle.lines.proofs.Putting.{puts_then, puts_same, puts_length}
use Rattle.lines.proofs.Spelling.{some_digits, spelled_parts, spelled_three}
use Rattle.lines.proofs.writer.+put_number.Goals as goal

-- the digits of a thousandth come first
parts : (n : ℕ) → 999 < n → n < 10 ^ 10 → spelled n ≡ spelled (n / 1000) ++ last_three n
parts n h l = spelled_parts n l ∙ some_digits _ _ (omega (arith, h))

-- and with the last three they are all of them
both : (n : ℕ) → 999 < n → n < 10 ^ 10 → length (spelled n) ≡ length (spelled (n / 1000)) + length (last_three n)
both n h l = rw (parts n h l) (length-append (spelled (n / 1000)) (last_three n))

pub put_number-front-requires : goal.put_number-front-requires
put_number-front-requires t c = (omega arith, omega (arith, c.requires, both c.args.value (omega (arith, c.if-value-gt999.true)) (omega arith)))

pub last_three-requires : goal.last_three-requires
last_three-requires t c =
    let all = both c.args.value (omega (arith, c.if-value-gt999.true)) (omega arith) in
    let front = c.put_number-front.ensures in
    omega (arith, c.requires, all, front.end, puts_length front (omega (arith, c.requires, all)))

pub returns-then-value-gt999 : goal.returns-then-value-gt999
returns-then-value-gt999 t c =
    let names = c.last_three.ensures.same_buffer in
    let written = puts_then c.put_number-front.ensures c.last_three.ensures.puts (omega (arith, c.requires)) in
    puts_same (rw (← parts c.args.value (omega (arith, c.if-value-gt999.true)) (omega arith)) at written) (search rules)

pub last_three-requires-2 : goal.last_three-requires-2
last_three-requires-2 t c = rw (spelled_three c.args.value (omega (arith, c.if-value-gt999.false))) at c.requires

pub returns : goal.returns
returns t c =
    let names = c.last_three-2.ensures.same_buffer in
    puts_same (rw (← spelled_three c.args.value (omega (arith, c.if-value-gt999.false))) at c.last_three-2.ensures.puts) (search rules)
