-- Rows: the neighbours of a module, along its slots; and what slots weigh.
--   row_linked, row_step    a row begins at the slot to which the link leads, and goes on at the one before it
--   before_low              a link leads to an earlier slot
--   Fits, row_fits          in a held list neighbours are modules, and pairs weigh at most 1,000
--   weigh_pairs             what slots weigh, pair by pair
-- Assumes nothing.
use mathlib.Core.Path.{◌≡◌, refl, ◌∙◌}
use mathlib.Core.Bool.{cond}
use mathlib.Core.List.{List}
use mathlib.Core.Logic.{⊎_elim}
use Prim.Native.Nat.{ℕ, zero, suc, ◌+◌, ◌*◌, ◌/◌, ◌≤◌, ◌<◌}
use native.Mathlib.Omega.{arith}
use lib.Dec.{eqb}
use lib.ListN.{get_or}
use borrow.Author.Tests.{eq-eqb, ne_eqb}
use Rattle.std.specs.Prelude.{◌∷◌, Some, All}
use Rattle.std.proofs.lemmas.List.Elements.{All-nil, All-cons}
use Rattle.theory.specs.Words.{HeldWords}
use Rattle.slots.specs.declared.neighbours.Neighbour.{Neighbour}
use Rattle.slots.specs.Buffers.{entry}
use Rattle.slots.specs.Links.{place, last_at}
use Rattle.slots.specs.Rows.{first_end, second_end, weight_at, neighbour_at, row, row_from, slots_weigh}
use Rattle.slots.proofs.Choice.{eq_or_ne}
use Rattle.slots.proofs.Totals.{total_ext, total_pairs}
use Rattle.slots.proofs.Mates.{slot}
use Rattle.slots.proofs.Linking.{last_le}
use Rattle.slots.proofs.Words.{good_pair, held_ends}

pub row_linked : (es ws : List ℕ) (v k : ℕ) → row_from es ws (place (last_at k (entry es) v)) ≡ row es ws v k
unfolding row last_at entry
row_linked es ws v zero = refl
row_linked es ws v (suc k) =
    ⊎_elim
    (λ (e : get_or es k 0 ≡ v). rw (eq-eqb (get_or es k 0) v e) (rw e refl))
    (λ ne. rw (ne_eqb (get_or es k 0) v ne) (row_linked es ws v k))
    (eq_or_ne (get_or es k 0) v)

-- and goes on at the one before it
pub row_step : (es ws : List ℕ) (s : ℕ) →
    row_from es ws (Some s) ≡ neighbour_at es ws s ∷ row_from es ws (place (last_at s (entry es) (get_or es s 0)))
row_step es ws s = rw row_linked refl

place_some : (y s : ℕ) → place y ≡ Some s → y ≡ suc s
place_some zero s e = cc
place_some (suc y) s e = cc

-- the slot to which a link leads
pub before_low : (k : ℕ) (f : ℕ → ℕ) (v s : ℕ) → place (last_at k f v) ≡ Some s → s < k
before_low k f v s e = omega (arith, place_some (last_at k f v) s e, last_le k f v)

-- a module of n, and the weight of a pair
pub record Fits (n : ℕ) (x : Neighbour) : Type 0 where
  pub below : x.number < n
  pub light : x.weight ≤ 1000

module _ {n m : ℕ} {ends weights : List ℕ} (h : HeldWords n m ends weights) where
  slot_fits : (s : ℕ) → s < 2 * m → Fits n (neighbour_at ends weights s)
  slot_fits s l = record {
    below = (slot (held_ends h) l).mate_below;
    light = (good_pair n m ends weights h.listed (s / 2) (omega arith)).light;
  }

  pub row_fits : (v k : ℕ) → k ≤ 2 * m → All (Fits n) (row ends weights v k)
  unfolding row
  row_fits v zero l = All-nil _
  row_fits v (suc k) l =
      ⊎_elim
      (λ (e : get_or ends k 0 ≡ v).
      rw (eq-eqb (get_or ends k 0) v e)
      (All-cons (Fits n) (neighbour_at ends weights k) _ (slot_fits k (omega arith)) (row_fits v k (omega arith))))
      (λ ne. rw (ne_eqb (get_or ends k 0) v ne) (row_fits v k (omega arith)))
      (eq_or_ne (get_or ends k 0) v)

pub weigh_pairs : (ends weights : List ℕ) (m v : ℕ) → slots_weigh ends weights (2 * m) v ≡ weight_at ends weights m v
unfolding slots_weigh weight_at first_end second_end
weigh_pairs ends weights m v =
    total_pairs m (λ s. cond (eqb (get_or ends s 0) v) (get_or weights (s / 2) 0) 0)
    ∙ total_ext m _ _ (λ j l.
    let e : 2 * j / 2 ≡ j = omega arith in
    let f : (2 * j + 1) / 2 ≡ j = omega arith in
    rw (e, f))
