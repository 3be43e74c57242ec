-- Closed sets, counted: what makes the promise of specs/Flow.antt of what search and drain find.
--   Marked, marked_at               a set as bytes, and as groups' mark_at_least leaves it
--   marked_good, marked_on, marked_closed    the bytes of a closed set
--   closed_staying                  all the load of a closed set stays in it
--   stuck_denser                    a stuck set is denser
--   tight_full, tight_closed        where no load is above p, a tight set is closed and loaded p throughout
--   drained_largest                 so what stays is the largest
--   flowed_good, flowed_bad         the promise, kept one way or the other
-- Assumes nothing.
use Rattle.std.proofs.Common.{◌≡◌, refl, sym, ap, ◌∙◌, subst, Bool, true, false, ◌&&◌, cond, List, ◌⊎◌, inl, inr, ⊎_elim, ℕ, zero, suc, ◌+◌, ◌*◌, ◌/◌, ◌≤◌, ◌<◌, arith, leb, eqb, length, get_or, eqb-true, eq-eqb}
use Rattle.std.proofs.lemmas.Bool.Decides.{nat_tests}
use Rattle.theory.specs.Basics.{mark}
use Rattle.theory.specs.Groups.{is_in, bytes_good}
use Rattle.theory.proofs.Tests.{no, fails}
use Rattle.theory.proofs.Sums.{over, over_const, byte_le}
use Rattle.theory.proofs.Groups.{in_lt, size_in}
use Rattle.slots.specs.Slots.{mate, held_inside, slot_load, staying, Ends, Loads, Kept}
use Rattle.slots.proofs.Choice.{eq_or_ne, lt_or_le}
use Rattle.slots.proofs.Totals.{total_le, total_lt, total_pairs}
use Rattle.slots.proofs.Buffers.{good_bytes}
use Rattle.slots.proofs.Mates.{mates, mate_even, mate_odd, slot_cases}
use Rattle.slots.proofs.Held.{held_some}
use Rattle.slots.proofs.Counting.{held_of, over_most, over_more, loads_over, pair_most, inside_most}
use Rattle.chains.specs.Search.{leads, Closed, Stuck}
use Rattle.chains.proofs.Leads.{leads_facts, leads_of, closed_empty}
use Rattle.flow.specs.Flow.{Tight, Denser, Largest, Flowed}
use Rattle.flow.specs.Drain.{Drained}

-- ---- a set as bytes

pub record Marked (n : ℕ) (rank group : List ℕ) : Type 0 where
  pub long : length group ≡ n
  pub yes : (v : ℕ) → v < n → 0 < get_or rank v 0 → get_or group v 0 ≡ 1
  pub no : (v : ℕ) → v < n → get_or rank v 0 ≡ 0 → get_or group v 0 ≡ 0

pub marked_at : {n : ℕ} {rank group : List ℕ} → length group ≡ n → ((v : ℕ) → v < n → get_or group v 0 ≡ mark (leb 1 (get_or rank v 0))) →
    Marked n rank group
unfolding mark
marked_at long marks = record {
  long = long;
  yes = λ v h up. grind (arith, nat_tests, marks v h);
  no = λ v h down. grind (arith, nat_tests, marks v h);
}

module _ {n : ℕ} {rank t : List ℕ} (k : Marked n rank t) where
  marked_bit : (v : ℕ) → v < n → ((0 < get_or rank v 0) × (get_or t v 0 ≡ 1)) ⊎ ((get_or rank v 0 ≡ 0) × (get_or t v 0 ≡ 0))
  marked_bit v h =
      ⊎_elim
      (λ (a : 0 < get_or rank v 0). inl (a, k.yes v h a))
      (λ (a : get_or rank v 0 ≤ 0). let z : get_or rank v 0 ≡ 0 = omega arith in inr (z, k.no v h z))
      (lt_or_le 0 (get_or rank v 0))

  pub marked_good : bytes_good t ≡ true
  marked_good =
      good_bytes t (λ v h. ⊎_elim
      (λ (a : (0 < get_or rank v 0) × (get_or t v 0 ≡ 1)). omega arith)
      (λ (a : (get_or rank v 0 ≡ 0) × (get_or t v 0 ≡ 0)). omega arith)
      (marked_bit v (omega (arith, k.long))))

  pub marked_on : (v : ℕ) → v < n → 0 < get_or t v 0 → 0 < get_or rank v 0
  marked_on v h b =
      ⊎_elim
      (λ (a : (0 < get_or rank v 0) × (get_or t v 0 ≡ 1)). a.0)
      (λ (a : (get_or rank v 0 ≡ 0) × (get_or t v 0 ≡ 0)). absurd (omega arith))
      (marked_bit v h)

  marked_off : (v : ℕ) → v < n → get_or t v 0 ≡ 0 → get_or rank v 0 ≡ 0
  marked_off v h b =
      ⊎_elim
      (λ (a : (0 < get_or rank v 0) × (get_or t v 0 ≡ 1)). absurd (omega arith))
      (λ (a : (get_or rank v 0 ≡ 0) × (get_or t v 0 ≡ 0)). a.0)
      (marked_bit v h)

  -- the bytes of a closed set are closed
  pub marked_closed : (m : ℕ) (ends hold : List ℕ) → Ends n m ends → Closed m ends hold rank → Closed m ends hold t
  marked_closed m ends hold e c s h =
      fails (leads ends hold t s) (λ ld.
      let f = leads_facts ends hold t s ld in
      let up = marked_on _ (e.below s h) f.1.0 in
      let down = marked_off _ (e.below (mate s) ((mates m s).low h)) f.1.1 in
      let z : ◌≡◌ {A = ℕ} 0 1 = no (sym (c s h) ∙ leads_of ends hold rank s f.0 up down) in
      omega arith)

in_byte : (t : List ℕ) (v : ℕ) → is_in t v ≡ true → get_or t v 0 ≡ 1
unfolding is_in
in_byte t v e = eqb-true (get_or t v 0) 1 e

-- ---- a closed set

-- of a pair with bytes u and v at its ends, x and y units there: where only one end is a member, it has none
pair_closed : (u v x y : ℕ) → u ≤ 1 → v ≤ 1 → (u ≡ 1 → v ≡ 0 → x ≡ 0) → (v ≡ 1 → u ≡ 0 → y ≡ 0) → u * x + v * y ≤ cond (eqb u 1 && eqb v 1) (x + y) 0
pair_closed zero zero x y a b f g = omega arith
pair_closed zero (suc zero) x y a b f g = omega (arith, g refl refl)
pair_closed (suc zero) zero x y a b f g = omega (arith, f refl refl)
pair_closed (suc zero) (suc zero) x y a b f g = omega arith
pair_closed (suc (suc u)) v x y a b f g = absurd (omega arith)
pair_closed zero (suc (suc v)) x y a b f g = absurd (omega arith)
pair_closed (suc zero) (suc (suc v)) x y a b f g = absurd (omega arith)

module _ (m : ℕ) (ends hold t : List ℕ) (good : bytes_good t ≡ true) (c : Closed m ends hold t) where
  closed_pair : (s : ℕ) → s < 2 * m → get_or t (get_or ends s 0) 0 ≡ 1 → get_or t (get_or ends (mate s) 0) 0 ≡ 0 → get_or hold s 0 ≡ 0
  closed_pair s h a b = closed_empty ends hold t s (c s h) (omega arith) b

  closed_inside : held_of m ends hold t ≤ held_inside m ends hold t
  unfolding held_inside is_in
  closed_inside =
      rw total_pairs
      (total_le m _ _ (λ j h.
      pair_closed (get_or t (get_or ends (2 * j) 0) 0) (get_or t (get_or ends (2 * j + 1) 0) 0) (get_or hold (2 * j) 0) (get_or hold (2 * j + 1) 0)
      (byte_le t _ good) (byte_le t _ good)
      (λ u v. closed_pair (2 * j) (omega arith) u (rw mate_even v))
      (λ u v. closed_pair (2 * j + 1) (omega arith) u (rw mate_odd v))))

  -- all the load of a closed set stays in it
  pub closed_staying : (own : List ℕ) → over t (λ v. slot_load m own ends hold v) ≤ staying m own ends hold t
  unfolding staying
  closed_staying own = omega (arith, loads_over m own ends hold t, closed_inside)

-- ---- a stuck set is denser

pub stuck_denser : {n m p : ℕ} {own ends hold load rank t : List ℕ} → Ends n m ends → Loads n m own ends hold load → Stuck n m p ends hold load rank →
    Marked n rank t → Denser n m p own ends hold t
unfolding is_in
stuck_denser {n} {m} {p} {own} {ends} {hold} {load} {rank} {t} e l s k =
    let long = k.long in
    let good = marked_good k in
    let in_root : get_or t s.root 0 ≡ 1 = k.yes s.root s.low s.reached in
    record {
      long = long;
      bytes = good;
      some = size_in t s.root (eq-eqb (get_or t s.root 0) 1 in_root);
      more = omega (
        arith,
        over_more t (λ v. p) (λ v. slot_load m own ends hold v) s.root
            (λ v h b. omega (arith, s.full v (omega arith) (marked_on k v (omega arith) b), l.same v (omega arith)))
            (omega (arith, s.low)) (omega arith) (omega (arith, s.over, l.same s.root s.low)),
        over_const t p,
        closed_staying m ends hold t good (marked_closed k m ends hold e s.shut) own,
      );
      live = λ v i.
          let h : v < n = omega (arith, in_lt t v i) in
          let up : 0 < get_or rank v 0 = marked_on k v h (omega (arith, in_byte t v i)) in
          ⊎_elim
          (λ (z : v ≡ s.root). ⊎_elim
          (λ (o : 0 < get_or own v 0). inl o)
          (λ (o : get_or own v 0 ≤ 0).
          let b = held_some (2 * m) ends hold v (omega (arith, s.over, ap (λ (x : ℕ). get_or load x 0) z, l.same v h)) in
          inr (record { slot = b.0; low = b.1; end = b.2; units = omega (arith, b.3) }))
          (lt_or_le 0 (get_or own v 0)))
          (λ ne. inr (s.live v h up ne))
          (eq_or_ne v s.root);
    }

-- ---- tight sets

-- of a pair whose one end is a member and has units, and whose other end is not
pair_first : (u v x y : ℕ) → 0 < u → 0 < x → v ≡ 0 → cond (eqb u 1 && eqb v 1) (x + y) 0 < u * x + v * y
pair_first (suc u) v (suc x) y a b e = rw e (go (eqb (suc u) 1))
  where
    go : (c : Bool) → cond (c && eqb 0 1) (suc x + y) 0 < suc u * suc x + 0 * y
    go true = omega arith
    go false = omega arith
pair_first zero v x y a b e = absurd (omega arith)
pair_first (suc u) v zero y a b e = absurd (omega arith)

pair_second : (u v x y : ℕ) → 0 < v → 0 < y → u ≡ 0 → cond (eqb u 1 && eqb v 1) (x + y) 0 < u * x + v * y
pair_second u (suc v) x (suc y) a b e = rw e (omega arith)
pair_second u zero x y a b e = absurd (omega arith)
pair_second u (suc v) x zero a b e = absurd (omega arith)

-- where a slot leads out, less is inside than members hold
leads_less : (m : ℕ) (ends hold t : List ℕ) (s : ℕ) → s < 2 * m → leads ends hold t s ≡ true → held_inside m ends hold t < held_of m ends hold t
unfolding held_inside is_in
leads_less m ends hold t s h ld =
    let f = leads_facts ends hold t s ld in
    let j = s / 2 in
    let lj : j < m = omega arith in
    rw total_pairs
    (total_lt m j _ _ (pair_most m ends hold t) lj
    (⊎_elim
    (λ (z : s ≡ 2 * j).
    let o : mate s ≡ 2 * j + 1 = ap mate z ∙ mate_even j in
    pair_first _ _ _ _
    (subst (λ (y : ℕ). 0 < get_or t (get_or ends y 0) 0) z f.1.0) (subst (λ (y : ℕ). 0 < get_or hold y 0) z f.0)
    (subst (λ (y : ℕ). get_or t (get_or ends y 0) 0 ≡ 0) o f.1.1))
    (λ (z : s ≡ 2 * j + 1).
    let o : mate s ≡ 2 * j = ap mate z ∙ mate_odd j in
    pair_second _ _ _ _
    (subst (λ (y : ℕ). 0 < get_or t (get_or ends y 0) 0) z f.1.0) (subst (λ (y : ℕ). 0 < get_or hold y 0) z f.0)
    (subst (λ (y : ℕ). get_or t (get_or ends y 0) 0 ≡ 0) o f.1.1))
    (slot_cases s)))

module _ (n m p : ℕ) (own ends hold t : List ℕ) (most : (v : ℕ) → v < n → slot_load m own ends hold v ≤ p) (long : length t ≡ n)
    (tight : Tight m p own ends hold t) where
  pub tight_full : (v : ℕ) → v < n → 0 < get_or t v 0 → p ≤ slot_load m own ends hold v
  unfolding staying
  tight_full v h b =
      ⊎_elim
      (λ (l : slot_load m own ends hold v < p). absurd (omega (
        arith,
        over_more t (λ v. slot_load m own ends hold v) (λ v. p) v (λ u h b. most u (omega arith)) (omega arith) b l,
        over_const t p,
        loads_over m own ends hold t,
        inside_most m ends hold t,
        tight,
      )))
      (λ (l : p ≤ slot_load m own ends hold v). l)
      (lt_or_le (slot_load m own ends hold v) p)

  pub tight_closed : Closed m ends hold t
  unfolding staying
  tight_closed s h =
      fails (leads ends hold t s) (λ ld. omega (
        arith,
        over_most t (λ v. slot_load m own ends hold v) (λ v. p) (λ u h b. most u (omega arith)),
        over_const t p,
        loads_over m own ends hold t,
        leads_less m ends hold t s h ld,
        tight,
      ))

-- ---- what stays is the largest tight set

pub drained_largest : {n m p : ℕ} {own scope ends hold load rank t : List ℕ} → Ends n m ends → Loads n m own ends hold load →
    ((v : ℕ) → v < n → get_or load v 0 ≤ p) → Drained n m p scope ends hold load rank → Marked n rank t → Largest n m p own scope ends hold t
unfolding is_in
drained_largest {n} {m} {p} {own} {scope} {ends} {hold} {load} {rank} {t} e l most d k =
    let long = k.long in
    let good = marked_good k in
    let loads : (v : ℕ) → v < n → slot_load m own ends hold v ≤ p = λ v h. omega (arith, most v h, l.same v h) in
    record {
      long = long;
      bytes = good;
      inside = λ v i. let h : v < n = omega (arith, in_lt t v i) in (d.inside v h (marked_on k v h (omega (arith, in_byte t v i)))).0;
      tight = omega (
        arith,
        over_most t (λ v. p) (λ v. slot_load m own ends hold v)
            (λ v h b. omega (arith, (d.inside v (omega arith) (marked_on k v (omega arith) b)).1, l.same v (omega arith))),
        over_const t p,
        closed_staying m ends hold t good (marked_closed k m ends hold e d.shut) own,
      );
      all = λ s ls gs sub ti v i.
          let h : v < n = omega (arith, in_lt s v i) in
          let in_scope : (u : ℕ) → u < n → 0 < get_or s u 0 → is_in s u ≡ true = λ u b c. eq-eqb (get_or s u 0) 1 (omega (arith, byte_le s u gs)) in
          let full : (u : ℕ) → u < n → 0 < get_or s u 0 → (is_in scope u ≡ true) × (p ≤ get_or load u 0) =
          λ u b c. (sub u (in_scope u b c), omega (arith, tight_full n m p own ends hold s loads ls ti u b c, l.same u b)) in
          eq-eqb (get_or t v 0) 1 (k.yes v h (d.all s (tight_closed n m p own ends hold s loads ls ti) full v h (omega (arith, in_byte s v i))));
    }

-- ---- the promise

module _ {n m p : ℕ} {own scope ends hold load hold' load' rank t : List ℕ} (e : Ends n m ends) (kept : Kept n m ends hold load hold' load')
    (l : Loads n m own ends hold' load') (k : Marked n rank t) where
  pub flowed_good : {r : Bool} → r ≡ true → ((v : ℕ) → v < n → get_or load' v 0 ≤ p) → Drained n m p scope ends hold' load' rank →
      Flowed n m p own scope ends hold hold' t r
  flowed_good so most d = record {
    long = kept.hold_long;
    units = kept.units;
    rest = kept.rest;
    good = λ z v h. omega (arith, most v h, l.same v h);
    largest = λ z. drained_largest e l most d k;
    denser = λ z. no (sym z ∙ so);
  }

  pub flowed_bad : {r : Bool} → r ≡ false → Stuck n m p ends hold' load' rank → Flowed n m p own scope ends hold hold' t r
  flowed_bad so s = record {
    long = kept.hold_long;
    units = kept.units;
    rest = kept.rest;
    good = λ z. no (sym so ∙ z);
    largest = λ z. no (sym so ∙ z);
    denser = λ z. stuck_denser e l s k;
  }
