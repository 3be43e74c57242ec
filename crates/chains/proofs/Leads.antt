-- Slots that lead out of a set.
--   leads_facts, leads_of           what it says of a slot that it leads out, and back
--   pair_before, pair_passed        which slot of a pair may lead out; none before it does, and where it does not, none of the pair
--   closed_empty                    of a closed set: a slot from a member to another module holds nothing
--   LeadsOut, leads_out            what is known of a slot that leads out
-- Assumes nothing.
use Rattle.std.proofs.Common.{◌≡◌, ℕ, ◌+◌, ◌*◌, ◌<◌, ◌≤◌, Bool, true, false, not, eqb, List, length, get_or, sym, ap, ◌∙◌, ◌⊎◌, ⊎_elim, arith}
use mathlib.Core.Bool.{beq}
use Rattle.std.proofs.lemmas.Bool.Decides.{nat_tests}
use Rattle.theory.proofs.Tests.{tests, no, fails}
use Rattle.slots.specs.Slots.{mate, Ends}
use Rattle.slots.proofs.Choice.{eq_or_ne, lt_or_le}
use Rattle.slots.proofs.Mates.{mates, mate_even, mate_odd}
use Rattle.chains.specs.Search.{leads}
use Rattle.chains.proofs.Zeros.{is_zero, zero_not, zero_most}

module _ (ends hold rank : List ℕ) (s : ℕ) where
  pub leads_facts : leads ends hold rank s ≡ true →
      (0 < get_or hold s 0) × ((0 < get_or rank (get_or ends s 0) 0) × (get_or rank (get_or ends (mate s) 0) 0 ≡ 0))
  unfolding leads
  leads_facts e = simp tests at e

  pub leads_of : 0 < get_or hold s 0 → 0 < get_or rank (get_or ends s 0) 0 → get_or rank (get_or ends (mate s) 0) 0 ≡ 0 → leads ends hold rank s ≡ true
  unfolding leads
  leads_of l up out = simp tests (l, (up, out))

  -- a slot from a member to another module holds nothing, where it does not lead out
  pub closed_empty : leads ends hold rank s ≡ false → 0 < get_or rank (get_or ends s 0) 0 → get_or rank (get_or ends (mate s) 0) 0 ≡ 0 → get_or hold s 0 ≡ 0
  closed_empty e up out =
      ⊎_elim
      (λ (l : 0 < get_or hold s 0). no (sym e ∙ leads_of l up out))
      (λ (l : get_or hold s 0 ≤ 0). omega arith)
      (lt_or_le 0 (get_or hold s 0))

-- whether of two numbers one alone is 0
abbrev pub one_zero : (x y : ℕ) → Bool
one_zero x y = not (beq (eqb x 0) (eqb y 0))

one_zero_is : (x y : ℕ) → 0 < x → y ≡ 0 → (one_zero x y ≡ true) × (one_zero y x ≡ true)
one_zero_is x y h e = (grind (arith, nat_tests), grind (arith, nat_tests))

-- the ends of pair j are modules u and v, bit says whether u is outside the set; and no slot of the pairs before it leads out
module _ (ends hold rank : List ℕ) (j u v bit : ℕ) (eu : u ≡ get_or ends (2 * j) 0) (ev : v ≡ get_or ends (2 * j + 1) 0)
    (at : bit ≡ is_zero (get_or rank u 0)) (before : (k : ℕ) → k < 2 * j → leads ends hold rank k ≡ false) where
  -- of the pair, slot 2j + bit alone may lead out, and not where both ends are alike
  leads_pair : (k : ℕ) → 2 * j ≤ k → k < 2 * j + 2 → leads ends hold rank k ≡ true →
      (k ≡ 2 * j + bit) × (one_zero (get_or rank u 0) (get_or rank v 0) ≡ true)
  leads_pair k l h ld =
      let f = leads_facts ends hold rank k ld in
      ⊎_elim
      (λ (e : k ≡ 2 * j).
      let z = rw (e, mate_even, ← eu, ← ev) at f in (omega (arith, at, zero_not _ z.1.0), (one_zero_is _ _ z.1.0 z.1.1).0))
      (λ ne.
      let e : k ≡ 2 * j + 1 = omega arith in
      let z = rw (e, mate_odd, ← eu, ← ev) at f in (omega (arith, at, ap is_zero z.1.1), (one_zero_is _ _ z.1.0 z.1.1).1))
      (eq_or_ne k (2 * j))

  leads_below : (top : ℕ) → ((k : ℕ) → 2 * j ≤ k → k < top → leads ends hold rank k ≡ true → ⊥) → (k : ℕ) → k < top → leads ends hold rank k ≡ false
  leads_below top f k h = ⊎_elim (λ (l : k < 2 * j). before k l) (λ (l : 2 * j ≤ k). fails (leads ends hold rank k) (f k l h)) (lt_or_le k (2 * j))

  -- no slot before 2j + bit leads out
  pub pair_before : (k : ℕ) → k < 2 * j + bit → leads ends hold rank k ≡ false
  pair_before = leads_below (2 * j + bit) (λ k l h ld. omega (arith, leads_pair k l (omega (arith, at, zero_most (get_or rank u 0))) ld))

  -- the pair's slots do not, where both ends are alike or that slot does not
  pub pair_passed : (one_zero (get_or rank u 0) (get_or rank v 0) ≡ false) ⊎ (leads ends hold rank (2 * j + bit) ≡ false) → (k : ℕ) → k < 2 * (j + 1) → leads ends hold rank k ≡ false
  pair_passed f = leads_below (2 * (j + 1)) (λ k l h ld.
      let p = leads_pair k l (omega arith) ld in
      ⊎_elim (λ (e : one_zero (get_or rank u 0) (get_or rank v 0) ≡ false). no (sym e ∙ p.1)) (λ (e : leads ends hold rank (2 * j + bit) ≡ false). no (sym e ∙ ap (λ (s : ℕ). leads ends hold rank s) (sym p.0) ∙ ld)) f)

-- slot k leads out of the set
pub record LeadsOut (n m : ℕ) (ends hold rank : List ℕ) (k : ℕ) : Type 0 where
  pub slot : k < 2 * m
  pub low : get_or ends k 0 < n
  pub mate_low : get_or ends (mate k) 0 < n
  pub long : n ≤ length rank
  pub live : 0 < get_or hold k 0
  pub up : 0 < get_or rank (get_or ends k 0) 0
  pub down : get_or rank (get_or ends (mate k) 0) 0 ≡ 0

pub leads_out : {n m : ℕ} {ends hold rank : List ℕ} {k : ℕ} → Ends n m ends → n ≤ length rank → k < 2 * m → leads ends hold rank k ≡ true →
    LeadsOut n m ends hold rank k
leads_out {n} {m} {ends} {hold} {rank} {k} e lr lk ld =
    let f = leads_facts ends hold rank k ld in
    record {
      slot = lk;
      low = e.below k lk;
      mate_low = e.below (mate k) ((mates m k).low lk);
      long = lr;
      live = f.0;
      up = f.1.0;
      down = f.1.1;
    }
