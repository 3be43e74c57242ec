-- Units of a split in slots, against inside counts.
--   inside_most, inside_all  the units of the pairs inside a set are at most q times its inside count; all of that, for a set inside the scope
--   split_kept, split_room   a split whose units moved is a split; a split has room
--   has_units_in                  a pair with units has its ends in the scope
--   none_own                 no own load, of a module
--   own_none, no_own         of a set of modules that have none, whatever has the own loads; where nobody has one
-- Assumes nothing.
use Rattle.std.proofs.Common.{◌≡◌, ℕ, suc, ◌+◌, ◌*◌, ◌<◌, ◌≤◌, Bool, true, false, cond, List, [], ◌∷◌, length, get_or, sym, refl, ap, ◌∙◌, mul-le-mul_right, mul-le-mul_left, arith}
use Rattle.theory.specs.Groups.{is_in, holds_pair, inside}
use Rattle.theory.specs.Splits.{units}
use Rattle.theory.specs.Words.{word_pair, list_in}
use Rattle.theory.proofs.Tests.{tests, no}
use Rattle.slots.specs.Slots.{own_of, held_inside, Room, SameUnits}
use Rattle.slots.specs.Split.{scope_units, Weights, Split}
use Rattle.slots.proofs.Totals.{total_le, total_scale}
use Rattle.slots.proofs.Held.{zero_at}
use Rattle.slots.proofs.Mates.{mate_even, by_pair}
use Rattle.slots.proofs.Words.{inside_total}
use Rattle.groups.specs.Pairs.{inner_at}
use Rattle.flow.specs.Flow.{Sub, HasUnits}
use Rattle.rounds.specs.Search.{no_load}

-- b: both ends in the set, c: both in the scope
units_most : (b c : Bool) (x w q : ℕ) → x ≡ cond c (w * q) 0 → cond b x 0 ≤ cond b w 0 * q
units_most true true x w q e = omega arith
units_most true false x w q e = omega arith
units_most false c x w q e = omega arith

units_all : (b c : Bool) (x w q : ℕ) → x ≡ cond c (w * q) 0 → (b ≡ true → c ≡ true) → cond b w 0 * q ≤ cond b x 0
units_all true true x w q e f = omega arith
units_all true false x w q e f = no (f refl)
units_all false c x w q e f = omega arith

units_some : (c : Bool) (u x : ℕ) → x ≡ cond c u 0 → 0 < x → c ≡ true
units_some true u x e h = refl
units_some false u x e h = absurd (omega arith)

module _ (n m q : ℕ) (ends weights scope hold : List ℕ) (sp : Split m q ends weights scope hold) where
  -- the units of the pairs inside t are at most q times the inside count
  pub inside_most : (t : List ℕ) → held_inside m ends hold t ≤ inside (list_in n m ends weights) t * q
  unfolding held_inside scope_units holds_pair word_pair units
  inside_most t =
      rw (inside_total n m ends weights t, ← total_scale)
      (total_le m _ _ (λ j h. units_most
      (inner_at ends t j) (inner_at ends scope j) _ (get_or weights j 0) q (sp.whole j h)))

  -- and no less, for a set inside the scope
  pub inside_all : (t : List ℕ) → Sub t scope → inside (list_in n m ends weights) t * q ≤ held_inside m ends hold t
  unfolding held_inside scope_units holds_pair word_pair units
  inside_all t sub =
      rw (inside_total n m ends weights t, ← total_scale)
      (total_le m _ _ (λ j h. units_all
      (inner_at ends t j) (inner_at ends scope j) _ (get_or weights j 0) q (sp.whole j h)
      (λ b. let b' = simp tests at b in simp tests (sub _ b'.0, sub _ b'.1))))

  -- units that moved within their pairs make a split again
  pub split_kept : (hold' : List ℕ) → length hold' ≡ length hold → SameUnits m hold hold' → Split m q ends weights scope hold'
  split_kept hold' e s = record {
    long = omega (arith, sp.long);
    whole = λ j h. (rw mate_even at (s (2 * j) (omega arith))) ∙ sp.whole j h;
  }

  whole_most : (c : Bool) (w x : ℕ) → w ≤ 1000 → q ≤ 512 → x ≡ cond c (w * q) 0 → x ≤ 512000
  whole_most true w x a b e = omega (arith, mul-le-mul_right q a, mul-le-mul_left 1000 b)
  whole_most false w x a b e = omega arith

  -- a split has room
  pub split_room : q ≤ 512 → Weights m weights → Room m hold
  unfolding scope_units holds_pair units word_pair
  split_room hq hw = record {
    long = sp.long;
    small = by_pair m (λ s o. get_or hold s 0 + get_or hold o 0 ≤ 512000) (λ j h.
        let b = whole_most (inner_at ends scope j) (get_or weights j 0) _ (hw.small j h) hq (sp.whole j h) in
        (b, omega arith));
  }

  -- a pair with units has its ends in the scope
  pub has_units_in : (v : ℕ) → HasUnits m ends hold v → is_in scope v ≡ true
  unfolding scope_units holds_pair word_pair units
  has_units_in v b =
      ap (λ (x : ℕ). is_in scope x) (sym b.end)
      ∙ by_pair m (λ s o. 0 < get_or hold s 0 + get_or hold o 0 → is_in scope (get_or ends s 0) ≡ true)
      (λ j h.
      let both : 0 < get_or hold (2 * j) 0 + get_or hold (2 * j + 1) 0 →
      (is_in scope (get_or ends (2 * j) 0) ≡ true) × (is_in scope (get_or ends (2 * j + 1) 0) ≡ true) =
      λ p. simp tests at (units_some (inner_at ends scope j) (get_or weights j 0 * q) _ (sp.whole j h) p) in
      ((λ p. (both p).0), λ p. (both (omega arith)).1))
      b.slot b.low b.units

-- ---- no own loads

-- nobody has one
pub none_own : (v : ℕ) → get_or no_load v 0 ≡ 0
unfolding no_load
none_own v = zero_at 512 v

-- nor a set of modules that have none
pub own_none : (own t : List ℕ) → ((v : ℕ) → v < length t → get_or own v 0 ≡ 0) → own_of own t ≡ 0
unfolding own_of
own_none own [] h = refl
own_none [] (x ∷ xs) h = refl
own_none (o ∷ os) (x ∷ xs) h = omega (arith, ap (λ (z : ℕ). x * z) (h 0 (omega arith)), own_none os xs (λ v l. h (suc v) (omega arith)))

-- where nobody has one
pub no_own : (t : List ℕ) → own_of no_load t ≡ 0
no_own t = own_none no_load t (λ v _. none_own v)
