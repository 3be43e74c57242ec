-- The units that a module holds.
--   held_zero, held_next         slot by slot
--   held_part, held_some         a slot's units are among its module's; a module that holds units has a slot that does
--   cond_most, held_most         all of them fit 32 bits
--   Added, loads_next, loads_fit    a loop that adds up the loads
--   zero_at                      a buffer of zeros
-- Assumes nothing.
use mathlib.Core.Path.{◌≡◌, refl, sym, ◌∙◌}
use mathlib.Core.Bool.{Bool, true, false, cond}
use mathlib.Core.List.{List}
use mathlib.Core.Logic.{⊎_elim}
use Prim.Native.Nat.{ℕ, zero, suc, ◌+◌, ◌*◌, ◌≤◌, ◌<◌}
use native.Mathlib.Omega.{arith}
use lib.Dec.{eqb}
use lib.ListN.{length, get_or, set, replicate}
use lib.Seq.{get_or-set_same, get_or-set_other}
use borrow.Author.Tests.{eqb-true}
use Rattle.std.proofs.lemmas.Bool.{cases_eq}
use Rattle.slots.specs.Slots.{total, held_upto, Room, Own}
use Rattle.slots.proofs.Choice.{cond_eq, cond_ne}
use Rattle.slots.proofs.Totals.{total_next, total_le, total_part, total_some, total_const, total_upto, total_pairs}
use Rattle.slots.proofs.Mates.{mate_even}

pub held_zero : (ends hold : List ℕ) (v : ℕ) → held_upto 0 ends hold v ≡ 0
unfolding held_upto total
held_zero ends hold v = refl

-- one slot more
pub held_next : (k : ℕ) (ends hold : List ℕ) (v : ℕ) →
    held_upto (k + 1) ends hold v ≡ cond (eqb (get_or ends k 0) v) (get_or hold k 0) 0 + held_upto k ends hold v
unfolding held_upto
held_next k ends hold v = total_next k _

-- what a slot holds, its module holds
pub held_part : (K k : ℕ) (ends hold : List ℕ) → k < K → get_or hold k 0 ≤ held_upto K ends hold (get_or ends k 0)
unfolding held_upto
held_part K k ends hold l =
    rw (cond_eq (get_or ends k 0) (get_or ends k 0) (get_or hold k 0) refl)
    at (total_part K k (λ s. cond (eqb (get_or ends s 0) (get_or ends k 0)) (get_or hold s 0) 0) l)

cond_some : (b : Bool) (x : ℕ) → 0 < cond b x 0 → (b ≡ true) × (0 < x)
cond_some true x h = (refl, h)
cond_some false x h = absurd (omega arith)

-- a module that holds units has a slot that does
pub held_some : (K : ℕ) (ends hold : List ℕ) (v : ℕ) → 0 < held_upto K ends hold v → (s : ℕ) × (s < K) × (get_or ends s 0 ≡ v) × (0 < get_or hold s 0)
unfolding held_upto
held_some K ends hold v h =
    let r = total_some K (λ s. cond (eqb (get_or ends s 0) v) (get_or hold s 0) 0) h in
    let c = cond_some (eqb (get_or ends r.0 0) v) (get_or hold r.0 0) r.2 in
    (r.0, r.1, eqb-true _ _ c.0, c.1)

-- a part counts at most what it is
pub cond_most : (b : Bool) (x : ℕ) → cond b x 0 ≤ x
cond_most true x = omega arith
cond_most false x = omega arith

-- no module holds more than all pairs have
pub held_most : (k m : ℕ) (ends hold : List ℕ) (v : ℕ) → k ≤ 2 * m → m ≤ 4096 → Room m hold → held_upto k ends hold v ≤ 2097152000
unfolding held_upto
held_most k m ends hold v l few r =
    omega (
      arith,
      total_le k (λ s. cond (eqb (get_or ends s 0) v) (get_or hold s 0) 0) (λ s. get_or hold s 0)
          (λ s h. cond_most (eqb (get_or ends s 0) v) (get_or hold s 0)),
      total_upto k (2 * m) (λ s. get_or hold s 0) l,
      total_pairs m (λ s. get_or hold s 0),
      total_const m 512000 (λ j. get_or hold (2 * j) 0 + get_or hold (2 * j + 1) 0) (λ j h. rw mate_even at (r.small (2 * j) (omega arith))),
    )

-- the slots below s are added up
abbrev pub Added : (n s : ℕ) → (own ends hold load : List ℕ) → Type 0
Added n s own ends hold load = (v : ℕ) → v < n → get_or load v 0 ≡ get_or own v 0 + held_upto s ends hold v

-- slot s is added to the load of its module, x
pub loads_next : (n s : ℕ) (own ends hold load : List ℕ) (x : ℕ) → x ≡ get_or ends s 0 → x < length load → Added n s own ends hold load →
    Added n (s + 1) own ends hold (set load x (get_or load x 0 + get_or hold s 0))
loads_next n s own ends hold load x e l h v b =
    ⊎_elim
    (λ (z : v ≡ x). rw z (omega (
      arith,
      get_or-set_same load x (get_or load x 0 + get_or hold s 0) 0 l,
      held_next s ends hold x,
      cond_eq (get_or ends s 0) x (get_or hold s 0) (sym e),
      rw z at (h v b),
    )))
    (λ ne. omega (
      arith,
      get_or-set_other load x v (get_or load x 0 + get_or hold s 0) 0 ne,
      held_next s ends hold v,
      cond_ne (get_or ends s 0) v (get_or hold s 0) (λ t. ne (sym t ∙ sym e)),
      h v b,
    ))
    (cases_eq v x)

-- the sum fits 32 bits
pub loads_fit : (n m s : ℕ) (own ends hold load : List ℕ) (x : ℕ) → x ≡ get_or ends s 0 → x < n → s < 2 * m → m ≤ 4096 → Own n own → Room m hold →
    Added n s own ends hold load → get_or load x 0 + get_or hold s 0 < 4294967296
loads_fit n m s own ends hold load x e l ls few o r h =
    omega (
      arith,
      h x l,
      o.small x l,
      held_next s ends hold x,
      cond_eq (get_or ends s 0) x (get_or hold s 0) (sym e),
      held_most (s + 1) m ends hold x (omega arith) few r,
    )

-- a buffer of zeros
pub zero_at : (k v : ℕ) → get_or (replicate {A = ℕ} k 0) v 0 ≡ 0
zero_at zero v = refl
zero_at (suc k) zero = refl
zero_at (suc k) (suc v) = zero_at k v
