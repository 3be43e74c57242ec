-- The two slots of a pair.
--   mate_even, mate_odd, mate_yes, mate_no    which slot is the other
--   slot_cases                                a slot is one of its pair's two
--   Mates, mates                              what holds of any slot's mate
--   by_pair                                   what holds of both slots of every pair holds of every slot
--   Slot, slot, slot_other                    what a list's words have at a slot and at its mate
-- Assumes nothing.
use mathlib.Core.Path.{◌≡◌, sym}
use mathlib.Core.List.{List}
use mathlib.Core.Logic.{◌⊎◌, inl, inr, ⊎_elim}
use Prim.Native.Nat.{ℕ, ◌+◌, ◌*◌, ◌-◌, ◌/◌, ◌%◌, ◌<◌}
use native.Mathlib.Omega.{arith}
use lib.ListN.{length, get_or}
use borrow.Author.Tests.{eq-eqb, ne_eqb}
use Rattle.std.proofs.lemmas.Bool.{cases_eq}
use Rattle.slots.specs.Slots.{mate, Ends}

pub mate_yes : (s : ℕ) → s % 2 ≡ 0 → s + 1 ≡ mate s
unfolding mate
mate_yes s e = rw (eq-eqb (s % 2) 0 e)

pub mate_no : (s : ℕ) → (s % 2 ≡ 0 → ⊥) → s - 1 ≡ mate s
unfolding mate
mate_no s e = rw (ne_eqb (s % 2) 0 e)

pub mate_even : (j : ℕ) → mate (2 * j) ≡ 2 * j + 1
mate_even j = sym (mate_yes (2 * j) (omega arith))

pub mate_odd : (j : ℕ) → mate (2 * j + 1) ≡ 2 * j
mate_odd j = omega (arith, mate_no (2 * j + 1) (λ e. omega arith))

-- a slot is the first or the second of its pair
pub slot_cases : (s : ℕ) → (s ≡ 2 * (s / 2)) ⊎ (s ≡ 2 * (s / 2) + 1)
slot_cases s = ⊎_elim (λ (e : s % 2 ≡ 0). inl (omega arith)) (λ ne. inr (omega arith)) (cases_eq (s % 2) 0)

-- what holds of both slots of every pair holds of every slot
pub by_pair : (m : ℕ) (P : ℕ → ℕ → Type 0) → ((j : ℕ) → j < m → P (2 * j) (2 * j + 1) × P (2 * j + 1) (2 * j)) → (s : ℕ) → s < 2 * m → P s (mate s)
by_pair m P h s l =
    ⊎_elim
    (λ (e : s ≡ 2 * (s / 2)). rw e (rw mate_even (h (s / 2) (omega arith)).0))
    (λ (e : s ≡ 2 * (s / 2) + 1). rw e (rw mate_odd (h (s / 2) (omega arith)).1))
    (slot_cases s)

pub record Mates (m s : ℕ) : Type 0 where
  pub back : mate (mate s) ≡ s
  pub apart : mate s ≡ s → ⊥
  pub low : s < 2 * m → mate s < 2 * m

pub mates : (m s : ℕ) → Mates m s
mates m s =
    ⊎_elim
    (λ e. rw e (record { back = rw mate_even (mate_odd _); apart = rw mate_even (λ d. omega arith); low = rw mate_even (λ d. omega arith) }))
    (λ e. rw e (record { back = rw mate_odd (mate_even _); apart = rw mate_odd (λ d. omega arith); low = rw mate_odd (λ d. omega arith) }))
    (slot_cases s)

-- of a slot s of the m pairs: the words at s and at its mate o
pub record Slot (n m : ℕ) (ends : List ℕ) (s o : ℕ) : Type 0 where
  pub few : s < 8192
  pub long : s < length ends
  pub mate_low : o < 2 * m
  pub mate_long : o < length ends
  pub apart : s ≡ o → ⊥
  pub below : get_or ends s 0 < n
  pub mate_below : get_or ends o 0 < n
  pub modules : get_or ends s 0 ≡ get_or ends o 0 → ⊥

pub slot : {n m : ℕ} {ends : List ℕ} {s : ℕ} → Ends n m ends → s < 2 * m → Slot n m ends s (mate s)
slot {n} {m} {ends} {s} e l =
    let few = e.few in
    let long = e.long in
    let low : mate s < 2 * m = (mates m s).low l in
    record {
      few = omega arith;
      long = omega arith;
      mate_low = low;
      mate_long = omega arith;
      apart = λ z. (mates m s).apart (sym z);
      below = e.below s l;
      mate_below = e.below (mate s) low;
      modules = e.apart s l;
    }

-- the same where the mate goes by another name
pub slot_other : {n m : ℕ} {ends : List ℕ} {s o : ℕ} → o ≡ mate s → Ends n m ends → s < 2 * m → Slot n m ends s o
slot_other z e l = rw z (slot e l)
