-- The pass over the slots: those passed are chained, and what they weigh is added up.
--   chained_next    one slot more
--   chained_fits    degrees fit 32 bits when its weight is added
-- Assumes nothing.
use mathlib.Core.Path.{◌≡◌, refl, sym, ap}
use mathlib.Core.Bool.{cond}
use mathlib.Core.List.{List}
use mathlib.Core.Logic.{⊎_elim}
use Prim.Native.Nat.{ℕ, ◌+◌, ◌*◌, ◌/◌, ◌≤◌, ◌<◌}
use native.Mathlib.Omega.{arith}
use lib.Dec.{eqb}
use lib.ListN.{length, get_or, set}
use lib.Seq.{get_or-set_same, get_or-set_other}
use Rattle.theory.specs.Words.{HeldWords}
use Rattle.slots.specs.Buffers.{entry}
use Rattle.slots.specs.Rows.{slots_weigh, Chained}
use Rattle.slots.proofs.Choice.{eq_or_ne, cond_eq, cond_ne}
use Rattle.slots.proofs.Totals.{total_next, total_const}
use Rattle.slots.proofs.Held.{cond_most}
use Rattle.slots.proofs.Mates.{slot}
use Rattle.slots.proofs.Linking.{linked_next}
use Rattle.slots.proofs.Words.{good_pair, held_ends}

-- d is added to entry i
raised : (xs : List ℕ) (i d v : ℕ) → i < length xs → get_or (set xs i (get_or xs i 0 + d)) v 0 ≡ get_or xs v 0 + cond (eqb i v) d 0
raised xs i d v l =
    ⊎_elim
    (λ (e : v ≡ i). rw e (omega (arith, get_or-set_same xs i (get_or xs i 0 + d) 0 l, cond_eq i i d refl)))
    (λ ne. omega (arith, get_or-set_other xs i v (get_or xs i 0 + d) 0 ne, cond_ne i v d (λ e. ne (sym e))))
    (eq_or_ne v i)

-- slot k, of module v
module _ {n m k v : ℕ} {ends weights last before degrees : List ℕ} (h : HeldWords n m ends weights) (low : k < 2 * m) (at : v ≡ get_or ends k 0)
    (c : Chained n k ends weights last before degrees) where
  below : v < n
  below = omega (arith, at, (held_ends h).below k low)

  weigh_most : slots_weigh ends weights k v ≤ k * 1000
  unfolding slots_weigh
  weigh_most =
      total_const k 1000 _ (λ s l. omega (
        arith,
        cond_most (eqb (get_or ends s 0) v) (get_or weights (s / 2) 0),
        (good_pair n m ends weights h.listed (s / 2) (omega arith)).light,
      ))

  pub chained_fits : get_or degrees v 0 + get_or weights (k / 2) 0 < 4294967296
  chained_fits =
      omega (arith, c.degrees_are v below, weigh_most, (good_pair n m ends weights h.listed (k / 2) (omega arith)).light, (slot (held_ends h) low).few)

  pub chained_next : {degrees' : List ℕ} → n ≤ length last → k < length before → n ≤ length degrees →
      degrees' ≡ set degrees v (get_or degrees v 0 + get_or weights (k / 2) 0) →
      Chained n (k + 1) ends weights (set last v (k + 1)) (set before k (get_or last v 0)) degrees'
  unfolding slots_weigh entry
  chained_next last_long before_long degrees_long e = record {
    linked = linked_next at below last_long before_long c.linked (refl, refl);
    degrees_are = λ u l.
        rw (e, raised degrees v (get_or weights (k / 2) 0) u (omega (arith, below)))
        (omega (
          arith,
          c.degrees_are u l,
          total_next k (λ s. cond (eqb (get_or ends s 0) u) (get_or weights (s / 2) 0) 0),
          ap (λ (x : ℕ). cond (eqb x u) (get_or weights (k / 2) 0) 0) at,
        ));
  }
