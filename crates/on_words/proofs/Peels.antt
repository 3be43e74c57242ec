-- Peel on words: the leaving order narrowed to the lent buffer, the core numbers in front of theirs.
--   order_front, order_enough, order_small    the first n entries, where the leaving order of a list of n modules stands in front
--   cores_in_front                            the first n entries are the core numbers
-- Assumes nothing.
use mathlib.Core.Path.{◌≡◌, sym, ap, ◌∙◌}
use mathlib.Core.Bool.{true}
use mathlib.Core.List.{List, ◌++◌}
use Prim.Native.Nat.{ℕ, ◌≤◌, ◌<◌}
use native.Mathlib.Omega.{arith}
use lib.ListN.{length, get_or, take, drop, length-append}
use lib.Seq.{take_at}
use Rattle.theory.specs.Lists.{Pairs, is_list}
use Rattle.theory.specs.Leaving.{leaving}
use Rattle.theory.specs.Cores.{core_numbers}
use Rattle.theory.specs.Promise.{LeavingSteps}
use Rattle.theory.proofs.Bounds.{leaving_below}
use Rattle.theory.proofs.Leaving.{leaving_steps}
use Rattle.theory.proofs.Lists.{listed}
use Rattle.theory.proofs.Tables.{length_table}
use Rattle.on_words.specs.Buffers.{in_front}

-- ---- the leaving order

order_length : (g : Pairs) → length (leaving g) ≡ g.n
unfolding LeavingSteps
order_length g = (leaving_steps g).0

module _ (g : Pairs) (held : is_list g ≡ true) (rest new : List ℕ) (is : new ≡ leaving g ++ rest) where
  pub order_front : take g.n new ≡ leaving g
  order_front = ap (λ (ys : List ℕ). take g.n ys) is ∙ take_at (leaving g) rest g.n (order_length g)

  pub order_enough : g.n ≤ length new
  order_enough = omega (arith, ap length is, length-append (leaving g) rest, order_length g)

  pub order_small : (i : ℕ) → i < length (take g.n new) → get_or (take g.n new) i 0 < 65536
  order_small i l =
      let below : i < g.n = omega (arith, rw order_front at l, order_length g) in
      rw order_front (omega (arith, leaving_below g i below, (listed g held).few))

-- ---- core numbers

numbers_length : (g : Pairs) → length (core_numbers g) ≡ g.n
unfolding core_numbers
numbers_length g = length_table g.n _

pub cores_in_front : (g : Pairs) (to : List ℕ) → core_numbers g ++ drop g.n to ≡ in_front (core_numbers g) to
unfolding in_front
cores_in_front g to = ap (λ (i : ℕ). core_numbers g ++ drop i to) (sym (numbers_length g))
