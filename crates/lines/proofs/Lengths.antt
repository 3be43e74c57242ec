-- How long a line is.
--   Smalls, no_more, and_small    the numbers of a line, of at most four digits, one by one
--   spelled_length   a number of at most k + 1 digits takes as many bytes
--   filled_length    a line takes k bytes more for each such number than its form has
-- Assumes nothing.
use mathlib.Core.Bool.{Bool, true, false, cond}
use mathlib.Core.List.{List, [], ◌∷◌, ◌++◌}
use Prim.Native.Nat.{ℕ, zero, suc, ◌+◌, ◌*◌, ◌^◌, ◌≤◌, ◌<◌}
use native.Mathlib.Omega.{arith}
use lib.ListN.{length, get_or, drop, length-append}
use lib.Seq.{get_or-drop}
use Rattle.theory.specs.Basics.{mark}
use Rattle.lines.specs.Numbers.{spelled}
use Rattle.lines.specs.Lines.{is_place, places, filled}
use Rattle.lines.proofs.Spelling.{spell_length, spelled_short}

-- the numbers of a line, one by one
pub record Smalls (ns : List ℕ) : Type 0 where
  pub each : (k : ℕ) → get_or ns k 0 < 10 ^ 4

pub no_more : Smalls []
no_more = record { each = λ k. omega arith }

pub and_small : (n : ℕ) {ns : List ℕ} → n ≤ 9999 → Smalls ns → Smalls (n ∷ ns)
and_small n {ns} h hs = record { each = go }
  where
    go : (k : ℕ) → get_or (n ∷ ns) k 0 < 10 ^ 4
    go zero = omega arith
    go (suc k) = hs.each k

-- a number of at most k + 1 digits
pub spelled_length : (k n : ℕ) → k ≤ 9 → n < 10 ^ suc k → length (spelled n) ≤ suc k
spelled_length k n l h = rw (spelled_short k n l h) (spell_length k n).1

-- a number of a line takes up to k + 1 bytes, and its place in the form one
pub filled_length : (k : ℕ) → k ≤ 9 → (form ns : List ℕ) → ((i : ℕ) → get_or ns i 0 < 10 ^ suc k) → length (filled form ns) ≤ length form + k * places form
unfolding filled places mark
filled_length k l [] ns s = omega arith
filled_length k l (c ∷ cs) ns s =
    go (is_place c) (filled_length k l cs (drop 1 ns) (λ i. rw (get_or-drop 1 ns i 0) (s (1 + i)))) (filled_length k l cs ns s)
  where
    go : (b : Bool) → length (filled cs (drop 1 ns)) ≤ length cs + k * places cs → length (filled cs ns) ≤ length cs + k * places cs →
        length (cond b (spelled (get_or ns 0 0) ++ filled cs (drop 1 ns)) (c ∷ filled cs ns)) ≤ suc (length cs) + k * (mark b + places cs)
    go true h i = simp length-append (omega (arith, spelled_length k (get_or ns 0 0) l (s 0), h))
    go false h i = omega arith
