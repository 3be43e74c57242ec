-- The loads of a set's members, counted twice: module by module, and slot by slot.
--   held_of                     the units that the members of a set hold
--   over_most, over_more        sums over members, compared
--   loads_over                  the members' loads are their own loads and the units that they hold
--   pair_most, inside_most      the units of the pairs inside a set are among those its members hold
--   staying_most                where no load is above p, at most p a member stays
-- Assumes nothing.
use mathlib.Core.Path.{◌≡◌, refl}
use mathlib.Core.Bool.{Bool, true, false, ◌&&◌, cond}
use mathlib.Core.List.{List, [], ◌∷◌}
use Prim.Native.Nat.{ℕ, zero, suc, ◌+◌, ◌*◌, ◌≤◌, ◌<◌}
use native.Mathlib.Omega.{arith}
use native.Mathlib.Nat.{mul-le-mul_left}
use lib.Dec.{eqb}
use lib.ListN.{length, get_or}
use borrow.Author.Tests.{eqb-true}
use Rattle.theory.specs.Groups.{is_in, size}
use Rattle.theory.proofs.Sums.{over, over_add, over_at, over_const, over_zero}
use Rattle.slots.specs.Slots.{total, held_upto, held_by, slot_load, own_of, held_inside, staying}
use Rattle.slots.proofs.Totals.{total_le, total_pairs}

-- the units that the members of t hold
abbrev pub held_of : (m : ℕ) → (ends hold t : List ℕ) → ℕ
held_of m ends hold t = total (2 * m) (λ s. get_or t (get_or ends s 0) 0 * get_or hold s 0)

-- ---- sums over members

pub over_most : (s : List ℕ) (f h : ℕ → ℕ) → ((v : ℕ) → v < length s → 0 < get_or s v 0 → f v ≤ h v) → over s f ≤ over s h
unfolding over
over_most [] f h e = omega arith
over_most (zero ∷ xs) f h e = omega (arith, over_most xs (λ m. f (suc m)) (λ m. h (suc m)) (λ m l. e (suc m) (omega arith)))
over_most (suc x ∷ xs) f h e =
    omega (
      arith,
      mul-le-mul_left (suc x) (e 0 (omega arith) (omega arith)),
      over_most xs (λ m. f (suc m)) (λ m. h (suc m)) (λ m l. e (suc m) (omega arith)),
    )

pub over_more : (s : List ℕ) (f h : ℕ → ℕ) (r : ℕ) → ((v : ℕ) → v < length s → 0 < get_or s v 0 → f v ≤ h v) →
    r < length s → 0 < get_or s r 0 → f r < h r → over s f < over s h
unfolding over
over_more [] f h r e l p g = absurd (omega arith)
over_more (x ∷ xs) f h zero e l p g =
    omega (arith, mul-le-mul_left x g, over_most xs (λ m. f (suc m)) (λ m. h (suc m)) (λ m b. e (suc m) (omega arith)))
over_more (zero ∷ xs) f h (suc r) e l p g =
    omega (arith, over_more xs (λ m. f (suc m)) (λ m. h (suc m)) r (λ m b. e (suc m) (omega arith)) (omega arith) p g)
over_more (suc x ∷ xs) f h (suc r) e l p g =
    omega (
      arith,
      mul-le-mul_left (suc x) (e 0 (omega arith) (omega arith)),
      over_more xs (λ m. f (suc m)) (λ m. h (suc m)) r (λ m b. e (suc m) (omega arith)) (omega arith) p g,
    )

-- ---- loads

own_over : (own t : List ℕ) → over t (λ v. get_or own v 0) ≡ own_of own t
unfolding over own_of
own_over own [] = refl
own_over [] (x ∷ xs) = omega (arith, over_zero xs)
own_over (o ∷ os) (x ∷ xs) = omega (arith, own_over os xs)

held_over : (k : ℕ) (t ends hold : List ℕ) → over t (λ v. held_upto k ends hold v) ≡ total k (λ s. get_or t (get_or ends s 0) 0 * get_or hold s 0)
unfolding held_upto total
held_over zero t ends hold = over_zero t
held_over (suc k) t ends hold =
    omega (
      arith,
      over_add t (λ v. cond (eqb (get_or ends k 0) v) (get_or hold k 0) 0) (λ v. held_upto k ends hold v),
      over_at t (get_or ends k 0) (get_or hold k 0),
      held_over k t ends hold,
    )

-- the members' loads: their own, and the units that they hold
pub loads_over : (m : ℕ) (own ends hold t : List ℕ) → over t (λ v. slot_load m own ends hold v) ≡ own_of own t + held_of m ends hold t
loads_over m own ends hold t =
    omega (arith, over_add t (λ v. get_or own v 0) (λ v. held_by m ends hold v), own_over own t, held_over (2 * m) t ends hold)

-- of a pair with bytes u and v at its ends, x and y units there
pair_inside : (u v x y : ℕ) → cond (eqb u 1 && eqb v 1) (x + y) 0 ≤ u * x + v * y
pair_inside u v x y = go (eqb u 1) (eqb v 1) refl refl
  where
    go : (b c : Bool) → eqb u 1 ≡ b → eqb v 1 ≡ c → cond (b && c) (x + y) 0 ≤ u * x + v * y
    go true true e d = rw (eqb-true u 1 e, eqb-true v 1 d) (omega arith)
    go true false e d = omega arith
    go false c e d = omega arith

module _ (m : ℕ) (ends hold t : List ℕ) where
  -- pair by pair
  pub pair_most : (j : ℕ) → j < m →
      cond (is_in t (get_or ends (2 * j) 0) && is_in t (get_or ends (2 * j + 1) 0)) (get_or hold (2 * j) 0 + get_or hold (2 * j + 1) 0) 0
      ≤ get_or t (get_or ends (2 * j) 0) 0 * get_or hold (2 * j) 0 + get_or t (get_or ends (2 * j + 1) 0) 0 * get_or hold (2 * j + 1) 0
  unfolding is_in
  pair_most j h = pair_inside (get_or t (get_or ends (2 * j) 0) 0) (get_or t (get_or ends (2 * j + 1) 0) 0) (get_or hold (2 * j) 0) (get_or hold (2 * j + 1) 0)

  pub inside_most : held_inside m ends hold t ≤ held_of m ends hold t
  unfolding held_inside
  inside_most = rw total_pairs (total_le m _ _ pair_most)

  -- where no load is above p, at most p a member stays
  pub staying_most : (n p : ℕ) (own : List ℕ) → ((v : ℕ) → v < n → slot_load m own ends hold v ≤ p) → length t ≡ n →
      staying m own ends hold t ≤ p * size t
  unfolding staying
  staying_most n p own most l =
      omega (
        arith,
        over_most t (λ v. slot_load m own ends hold v) (λ v. p) (λ v h b. most v (omega arith)),
        over_const t p,
        loads_over m own ends hold t,
        inside_most,
      )
