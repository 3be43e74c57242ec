-- A split and its loads, pair by pair.
--   SplitUpto                                          the pairs below j hold their units, the others what they did
--   SpreadUpto, spread_start                           and the loads have what these pairs hold; no pair
--   Turn, spread_fits, spread_fits_too, spread_next    one pair more: the sums fit 32 bits
-- Assumes nothing.
use mathlib.Core.Path.{◌≡◌, refl, sym, ◌∙◌, ap}
use mathlib.Core.Bool.{◌&&◌, cond}
use mathlib.Core.List.{List}
use mathlib.Core.Logic.{⊎_elim}
use Prim.Native.Nat.{ℕ, ◌+◌, ◌*◌, ◌-◌, ◌≤◌, ◌<◌}
use native.Mathlib.Omega.{arith}
use native.Mathlib.Nat.{mul-le-mul_right, mul-le-mul_left}
use lib.Dec.{eqb}
use lib.ListN.{length, get_or, set, length-set}
use lib.Seq.{get_or-set_same, get_or-set_other}
use Rattle.std.proofs.lemmas.Bool.{cases_eq, cases_lt}
use Rattle.theory.specs.Groups.{is_in, holds_pair}
use Rattle.theory.specs.Splits.{units}
use Rattle.theory.specs.Words.{word_pair}
use Rattle.slots.specs.Slots.{held_upto, Ends, Room, Own}
use Rattle.slots.specs.Split.{scope_units, Weights}
use Rattle.slots.proofs.Totals.{total_ext}
use Rattle.slots.proofs.Mates.{mate_even, by_pair}
use Rattle.slots.proofs.Held.{Added, held_zero, cond_most, loads_next, loads_fit}

-- the pairs below j hold their units, the others what they did
pub record SplitUpto (m q j : ℕ) (ends weights scope hold₀ hold : List ℕ) : Type 0 where
  pub low : j ≤ m
  pub long : length hold ≡ length hold₀
  pub room : 2 * m ≤ length hold
  pub whole : (i : ℕ) → i < j → get_or hold (2 * i) 0 + get_or hold (2 * i + 1) 0 ≡ scope_units q ends weights scope i
  pub rest : (s : ℕ) → 2 * j ≤ s → get_or hold s 0 ≡ get_or hold₀ s 0

split_start : {m q : ℕ} {ends weights scope hold : List ℕ} → 2 * m ≤ length hold → SplitUpto m q 0 ends weights scope hold hold
split_start r = record { low = omega arith; long = refl; room = r; whole = λ i h. absurd (omega arith); rest = λ s h. refl }

-- the units of pair j, by its ends' bytes
scope_bytes : (q j a b : ℕ) (ends weights scope : List ℕ) → a ≡ get_or ends (2 * j) 0 → b ≡ get_or ends (2 * j + 1) 0 →
    cond (eqb (get_or scope a 0) 1 && eqb (get_or scope b 0) 1) (get_or weights j 0 * q) 0 ≡ scope_units q ends weights scope j
unfolding scope_units holds_pair word_pair is_in units
scope_bytes q j a b ends weights scope ea eb = rw (ea, eb)

-- pair j gets u units, x of them at its first slot
split_next : {m q j : ℕ} {ends weights scope hold₀ hold : List ℕ} (a b u x : ℕ) → SplitUpto m q j ends weights scope hold₀ hold → j < m →
    a ≡ get_or ends (2 * j) 0 → b ≡ get_or ends (2 * j + 1) 0 → u ≡ cond (eqb (get_or scope a 0) 1 && eqb (get_or scope b 0) 1) (get_or weights j 0 * q) 0 →
    x ≤ u → SplitUpto m q (j + 1) ends weights scope hold₀ (set (set hold (2 * j) x) (2 * j + 1) (u - x))
split_next {m} {q} {j} {ends} {weights} {scope} {hold₀} {hold} a b u x w h ea eb eu le =
    let one = set hold (2 * j) x in
    let two = set one (2 * j + 1) (u - x) in
    let room = w.room in
    let l1 : length one ≡ length hold = length-set hold (2 * j) x in
    let l2 : length two ≡ length one = length-set one (2 * j + 1) (u - x) in
    let at1 : get_or two (2 * j) 0 ≡ x =
    get_or-set_other one (2 * j + 1) (2 * j) (u - x) 0 (λ z. omega arith) ∙ get_or-set_same hold (2 * j) x 0 (omega arith) in
    let at2 : get_or two (2 * j + 1) 0 ≡ u - x = get_or-set_same one (2 * j + 1) (u - x) 0 (omega arith) in
    let el : (s : ℕ) → (s ≡ 2 * j → ⊥) → (s ≡ 2 * j + 1 → ⊥) → get_or two s 0 ≡ get_or hold s 0 =
    λ s p r. get_or-set_other one (2 * j + 1) s (u - x) 0 r ∙ get_or-set_other hold (2 * j) s x 0 p in
    let all : get_or two (2 * j) 0 + get_or two (2 * j + 1) 0 ≡ u = omega arith in
    record {
      low = omega arith;
      long = l2 ∙ l1 ∙ w.long;
      room = omega arith;
      whole = λ i l. ⊎_elim
          (λ (z : i ≡ j). rw z (all ∙ eu ∙ scope_bytes q j a b ends weights scope ea eb))
          (λ ne. omega (
            arith,
            el (2 * i) (λ z. ne (omega arith)) (λ z. omega arith),
            el (2 * i + 1) (λ z. omega arith) (λ z. ne (omega arith)),
            w.whole i (omega arith),
          ))
          (cases_eq i j);
      rest = λ s l. el s (λ z. omega arith) (λ z. omega arith) ∙ w.rest s (omega arith);
    }

units_most : (w q : ℕ) → w ≤ 1000 → q ≤ 512 → w * q ≤ 512000
units_most w q a h = omega (arith, mul-le-mul_right q a, mul-le-mul_left 1000 h)

-- no pair has more than 512,000 units
scope_most : (m q : ℕ) (ends weights scope : List ℕ) → Weights m weights → q ≤ 512 → (j : ℕ) → j < m → scope_units q ends weights scope j ≤ 512000
unfolding scope_units units word_pair
scope_most m q ends weights scope w h j l =
    omega (
      arith,
      cond_most (holds_pair scope (word_pair ends weights j)) (get_or weights j 0 * q),
      units_most (get_or weights j 0) q (w.small j l) h,
    )

-- so there is room where there was
split_upto_room : {m q j : ℕ} {ends weights scope hold₀ hold : List ℕ} → Weights m weights → q ≤ 512 → Room m hold₀ →
    SplitUpto m q j ends weights scope hold₀ hold → Room m hold
split_upto_room {m} {q} {j} {ends} {weights} {scope} {hold₀} {hold} w h r s = record {
  long = s.room;
  small = by_pair m (λ s o. get_or hold s 0 + get_or hold o 0 ≤ 512000) (λ i l.
      let b : get_or hold (2 * i) 0 + get_or hold (2 * i + 1) 0 ≤ 512000 =
      ⊎_elim
      (λ low. omega (arith, s.whole i low, scope_most m q ends weights scope w h i l))
      (λ high. omega (
        arith,
        s.rest (2 * i) (omega arith),
        s.rest (2 * i + 1) (omega arith),
        rw mate_even at (r.small (2 * i) (omega arith)),
      ))
      (cases_lt i j) in
      (b, omega arith));
}

-- the pairs below j hold their units, and the loads have what they hold
pub record SpreadUpto (n m q j : ℕ) (ends weights scope hold₀ own hold load : List ℕ) : Type 0 where
  pub split : SplitUpto m q j ends weights scope hold₀ hold
  pub added : Added n (2 * j) own ends hold load
  pub load_long : length load ≡ length own

pub spread_start : {n m q : ℕ} {ends weights scope hold own : List ℕ} → 2 * m ≤ length hold → SpreadUpto n m q 0 ends weights scope hold own hold own
spread_start {ends = ends} {hold = hold} r = record { split = split_start r; added = λ v h. omega (arith, held_zero ends hold v); load_long = refl }

-- units that change at slot k and behind it leave those before
held_before : (k : ℕ) (ends hold hold' : List ℕ) (v : ℕ) → ((s : ℕ) → s < k → get_or hold' s 0 ≡ get_or hold s 0) →
    held_upto k ends hold' v ≡ held_upto k ends hold v
unfolding held_upto
held_before k ends hold hold' v e = total_ext k _ _ (λ s l. rw (e s l))

-- pair j, with a and b as its ends, gets u units, x of them at its first slot
pub record Turn (n m q j : ℕ) (ends weights scope hold₀ own hold load : List ℕ) (a b u x : ℕ) : Type 0 where
  pub list : Ends n m ends
  pub light : Weights m weights
  pub few : q ≤ 512
  pub room : Room m hold₀
  pub own_small : Own n own
  pub upto : SpreadUpto n m q j ends weights scope hold₀ own hold load
  pub low : j < m
  pub first : a ≡ get_or ends (2 * j) 0
  pub second : b ≡ get_or ends (2 * j + 1) 0
  pub all : u ≡ cond (eqb (get_or scope a 0) 1 && eqb (get_or scope b 0) 1) (get_or weights j 0 * q) 0
  pub part : x ≤ u

module _ {n m q j : ℕ} {ends weights scope hold₀ own hold load : List ℕ} {a b u x : ℕ}
    (t : Turn n m q j ends weights scope hold₀ own hold load a b u x) where
  -- the units after it
  abbrev laid : List ℕ
  laid = set (set hold (2 * j) x) (2 * j + 1) (u - x)

  next : SplitUpto m q (j + 1) ends weights scope hold₀ laid
  next = split_next a b u x t.upto.split t.low t.first t.second t.all t.part

  laid_room : Room m laid
  laid_room = split_upto_room t.light t.few t.room next

  at_first : get_or laid (2 * j) 0 ≡ x
  at_first =
      get_or-set_other (set hold (2 * j) x) (2 * j + 1) (2 * j) (u - x) 0 (λ z. omega arith)
      ∙ get_or-set_same hold (2 * j) x 0 (omega (arith, t.upto.split.room))

  at_second : get_or laid (2 * j + 1) 0 ≡ u - x
  at_second =
      get_or-set_same (set hold (2 * j) x) (2 * j + 1) (u - x) 0 (omega (arith, t.upto.split.room, length-set hold (2 * j) x))

  added_before : Added n (2 * j) own ends laid load
  added_before v h =
      t.upto.added v h
      ∙ sym (ap (λ (y : ℕ). get_or own v 0 + y) (held_before (2 * j) ends hold laid v (λ i l.
      get_or-set_other (set hold (2 * j) x) (2 * j + 1) i (u - x) 0 (λ z. omega arith) ∙ get_or-set_other hold (2 * j) i x 0 (λ z. omega arith))))

  a_low : a < n
  a_low = omega (arith, t.first, t.low, t.list.below (2 * j) (omega arith))

  b_low : b < n
  b_low = omega (arith, t.second, t.low, t.list.below (2 * j + 1) (omega arith))

  -- the first end's load with its part
  pub spread_fits : get_or load a 0 + x < 4294967296
  spread_fits = rw at_first at (loads_fit n m (2 * j) own ends laid load a t.first a_low (omega arith) t.list.few t.own_small laid_room added_before)

  -- and then the second's with the rest
  module _ {load₁ : List ℕ} (e₁ : load₁ ≡ set load a (get_or load a 0 + x)) where
    added_first : Added n (2 * j + 1) own ends laid load₁
    added_first =
        let long : a < length load = omega (arith, a_low, t.own_small.long, t.upto.load_long) in
        rw e₁ (rw at_first at (loads_next n (2 * j) own ends laid load a t.first long added_before))

    long₁ : length load₁ ≡ length own
    long₁ = rw e₁ (length-set load a (get_or load a 0 + x) ∙ t.upto.load_long)

    pub spread_fits_too : get_or load₁ b 0 + (u - x) < 4294967296
    spread_fits_too =
        rw at_second at (loads_fit n m (2 * j + 1) own ends laid load₁ b t.second b_low (omega arith) t.list.few t.own_small laid_room added_first)

    pub spread_next : {load₂ : List ℕ} → load₂ ≡ set load₁ b (get_or load₁ b 0 + (u - x)) →
        SpreadUpto n m q (j + 1) ends weights scope hold₀ own laid load₂
    spread_next e₂ =
        let d : 2 * j + 1 + 1 ≡ 2 * (j + 1) = omega arith in
        let long : b < length load₁ = omega (arith, b_low, t.own_small.long, long₁) in
        record {
          split = next;
          added = rw e₂ (rw (d, at_second) at (loads_next n (2 * j + 1) own ends laid load₁ b t.second long added_first));
          load_long = rw e₂ (length-set load₁ b (get_or load₁ b 0 + (u - x)) ∙ long₁);
        }
