-- The tests' random numbers.
--   drawn_after   the number drawn after another
--   drawn_below   a number below k, by one drawn
-- Assumes nothing: these are definitions.
use Rattle.std.specs.Prelude.{ℕ, ◌*◌, ◌/◌, ◌%◌, ◌^◌, bit_xor, cond, eqb}

-- x with itself shifted to the left, on 32 bits
abbrev pub left : ℕ → ℕ → ℕ
left k x = bit_xor x (x * 2 ^ k % 2 ^ 32)

-- x with itself shifted to the right
abbrev pub right : ℕ → ℕ → ℕ
right k x = bit_xor x (x / 2 ^ k)

-- the number drawn after x: a xorshift of Marsaglia
abbrev pub drawn_after : ℕ → ℕ
drawn_after x = left 5 (right 17 (left 13 x))

-- a number below k, by the upper 16 bits of one drawn; 0 where k is 0
abbrev pub drawn_below : ℕ → ℕ → ℕ
drawn_below x k = cond (eqb k 0) 0 (x / 65536 % k)
