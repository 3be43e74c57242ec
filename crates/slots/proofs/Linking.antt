-- Chains of places, one place more at a time.
--   last_here      a module's last place: the place at hand
--   lasts_next     each module's last place
--   linked_next    the links
--   last_le        a link leads back
--   total_linked   a sum over a module's places, along its links
-- Assumes nothing.
use mathlib.Core.Path.{◌≡◌, refl, sym, ap, ◌∙◌}
use mathlib.Core.List.{List}
use mathlib.Core.Logic.{⊎_elim}
use Prim.Native.Nat.{ℕ, zero, suc, ◌+◌, ◌≤◌, ◌<◌}
use native.Mathlib.Omega.{arith}
use native.Mathlib.Numerals.{add-one}
use lib.ListN.{length, get_or, set}
use lib.Seq.{get_or-set_same, get_or-set_other}
use borrow.Author.Tests.{eq-eqb, ne_eqb}
use Rattle.slots.specs.Slots.{total}
use Rattle.slots.specs.Links.{last_at, Lasts, Linked}
use Rattle.slots.proofs.Choice.{eq_or_ne, stored_more}

last_here : (k : ℕ) (f : ℕ → ℕ) (v : ℕ) → f k ≡ v → last_at (k + 1) f v ≡ k + 1
unfolding last_at
last_here k f v e = rw (add-one, eq-eqb (f k) v e)

last_before : (k : ℕ) (f : ℕ → ℕ) (v : ℕ) → (f k ≡ v → ⊥) → last_at (k + 1) f v ≡ last_at k f v
unfolding last_at
last_before k f v e = rw (add-one, ne_eqb (f k) v e)

-- place k becomes the last of its module, x
lasts_next : {n k : ℕ} {f : ℕ → ℕ} {first : List ℕ} {x : ℕ} → x ≡ f k → x < length first → Lasts n k f first → Lasts n (k + 1) f (set first x (k + 1))
lasts_next {n} {k} {f} {first} {x} e l c = record {
  same = λ v h. ⊎_elim
      (λ (z : v ≡ x). rw z (get_or-set_same first x (k + 1) 0 l ∙ sym (last_here k f x (sym e))))
      (λ ne. get_or-set_other first x v (k + 1) 0 ne ∙ c.same v h ∙ sym (last_before k f v (λ t. ne (sym t ∙ sym e))))
      (eq_or_ne v x);
}

-- and it is in the chain
pub linked_next : {n k : ℕ} {f : ℕ → ℕ} {first next first' next' : List ℕ} {x : ℕ} → x ≡ f k → x < n → n ≤ length first → k < length next →
    Linked n k f first next → (first' ≡ set first x (k + 1)) × (next' ≡ set next k (get_or first x 0)) → Linked n (k + 1) f first' next'
linked_next {n} {k} {f} {first} {next} {first'} {next'} {x} e l lf ln c w =
    rw (w.0, w.1)
    record {
      firsts = lasts_next e (omega arith) c.firsts;
      nexts = stored_more (λ i y. y ≡ last_at i f (f i)) next k (get_or first x 0) ln c.nexts (c.firsts.same x l ∙ ap (last_at k f) e);
    }

-- a link leads back
pub last_le : (k : ℕ) (f : ℕ → ℕ) (v : ℕ) → last_at k f v ≤ k
unfolding last_at
last_le zero f v = omega arith
last_le (suc k) f v =
    ⊎_elim
    (λ (e : f k ≡ v). rw (eq-eqb (f k) v e) (omega arith))
    (λ ne. rw (ne_eqb (f k) v ne) (omega (arith, last_le k f v)))
    (eq_or_ne (f k) v)

-- the links pass over places of other modules, which add nothing
pub total_linked : (k : ℕ) (f : ℕ → ℕ) (v : ℕ) (h : ℕ → ℕ) → ((i : ℕ) → (f i ≡ v → ⊥) → h i ≡ 0) → total k h ≡ total (last_at k f v) h
unfolding total last_at
total_linked zero f v h z = refl
total_linked (suc k) f v h z =
    ⊎_elim
    (λ (e : f k ≡ v). rw (eq-eqb (f k) v e))
    (λ ne. rw (ne_eqb (f k) v ne) (omega (arith, z k ne, total_linked k f v h z)))
    (eq_or_ne (f k) v)
