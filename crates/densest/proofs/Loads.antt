-- Units in slots as shares: loads of a split.
--   load_table               a load as a sum over the pairs
--   shares_table             shares that are in range
--   UnitsHeld, load_held    where a share is what the pair's first slot holds, a load is what the module's slots hold
-- Assumes nothing.
use Rattle.std.proofs.Common.{◌≡◌, ℕ, zero, suc, ◌+◌, ◌-◌, ◌*◌, ◌<◌, ◌≤◌, Bool, true, false, cond, eqb, List, get_or, sym, refl, ap, ◌∙◌, arith, eqb-true}
use Rattle.theory.specs.Basics.{table}
use Rattle.theory.specs.Lists.{Pair}
use Rattle.theory.specs.Splits.{units, received, shares_good, load_of}
use Rattle.theory.proofs.Tests.{tests}
use Rattle.slots.specs.Slots.{total, held_upto, held_by}
use Rattle.slots.proofs.Totals.{total_first, total_ext, total_pairs}

-- a load as a sum over the pairs
pub load_table : (q v m : ℕ) (h : ℕ → Pair) (f : ℕ → ℕ) → load_of q v (table m h) (table m f) ≡ total m (λ j. received q v (h j) (f j))
unfolding load_of table total
load_table q v zero h f = refl
load_table q v (suc m) h f =
    omega (arith, load_table q v m (λ j. h (suc j)) (λ j. f (suc j)), total_first m (λ j. received q v (h j) (f j)))

-- shares that are in range, one by one
pub shares_table : (q m : ℕ) (h : ℕ → Pair) (f : ℕ → ℕ) → ((j : ℕ) → j < m → f j ≤ units q (h j)) → shares_good q (table m h) (table m f) ≡ true
unfolding shares_good table
shares_table q zero h f e = refl
shares_table q (suc m) h f e = simp tests (e 0 (omega arith), shares_table q m (λ j. h (suc j)) (λ j. f (suc j)) (λ j l. e (suc j) (omega arith)))

-- of a pair: x and y units at its ends a and b
received_slots : (a b v u x y : ℕ) → (a ≡ b → ⊥) → x + y ≡ u → cond (eqb a v) x (cond (eqb b v) (u - x) 0) ≡ cond (eqb a v) x 0 + cond (eqb b v) y 0
received_slots a b v u x y ne e = go (eqb a v) (eqb b v) refl refl
  where
    go : (c d : Bool) → eqb a v ≡ c → eqb b v ≡ d → cond c x (cond d (u - x) 0) ≡ cond c x 0 + cond d y 0
    go true true i k = absurd (ne (eqb-true a v i ∙ sym (eqb-true b v k)))
    go true false i k = omega arith
    go false true i k = omega arith
    go false false i k = refl

-- pair j of h lies in slots 2j and 2j + 1, which hold its units
pub record UnitsHeld (q m : ℕ) (h : ℕ → Pair) (ends hold : List ℕ) : Type 0 where
  pub first : (j : ℕ) → j < m → (h j).a ≡ get_or ends (2 * j) 0
  pub second : (j : ℕ) → j < m → (h j).b ≡ get_or ends (2 * j + 1) 0
  pub apart : (j : ℕ) → j < m → (h j).a ≡ (h j).b → ⊥
  pub whole : (j : ℕ) → j < m → get_or hold (2 * j) 0 + get_or hold (2 * j + 1) 0 ≡ units q (h j)

pub load_held : (q v m : ℕ) (h : ℕ → Pair) (ends hold : List ℕ) → UnitsHeld q m h ends hold →
    load_of q v (table m h) (table m (λ j. get_or hold (2 * j) 0)) ≡ held_by m ends hold v
unfolding held_upto received
load_held q v m h ends hold w =
    load_table q v m h (λ j. get_or hold (2 * j) 0)
    ∙ total_ext m _ _ (λ j l.
    received_slots (h j).a (h j).b v (units q (h j)) (get_or hold (2 * j) 0) (get_or hold (2 * j + 1) 0) (w.apart j l) (w.whole j l)
    ∙ ap (λ (z : ℕ). cond (eqb z v) (get_or hold (2 * j) 0) 0 + cond (eqb (h j).b v) (get_or hold (2 * j + 1) 0) 0) (w.first j l)
    ∙ ap (λ (z : ℕ). cond (eqb (get_or ends (2 * j) 0) v) (get_or hold (2 * j) 0) 0 + cond (eqb z v) (get_or hold (2 * j + 1) 0) 0) (w.second j l))
    ∙ sym (total_pairs m (λ s. cond (eqb (get_or ends s 0) v) (get_or hold s 0) 0))
