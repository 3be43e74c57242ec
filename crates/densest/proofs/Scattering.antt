-- The units of the pairs gathered, put back in the slots of all pairs.
--   ScatteredAt, Scattered   slots of all pairs that have them
--   put_back, put_back_is    such slots
--   scattered_held           each module holds what it held among the pairs gathered
--   scattered_split          a split of the pairs gathered is one of all pairs
-- Assumes nothing.
use Rattle.std.proofs.Common.{◌≡◌, ℕ, ◌+◌, ◌*◌, ◌/◌, ◌%◌, ◌<◌, ◌≤◌, Bool, true, false, cond, eqb, List, length, get_or, sym, refl, ap, ◌∙◌, arith}
use Rattle.theory.specs.Basics.{table}
use Rattle.theory.specs.Lists.{Pair}
use Rattle.theory.specs.Groups.{holds_pair}
use Rattle.theory.specs.Splits.{units as units_at}
use Rattle.theory.specs.Words.{word_pair}
use Rattle.theory.proofs.Tests.{tests, no}
use Rattle.theory.proofs.Tables.{length_table, table_at}
use Rattle.slots.specs.Slots.{total, held_upto, held_by}
use Rattle.slots.specs.Split.{scope_units, Split}
use Rattle.slots.proofs.Totals.{total_ext, total_pairs}
use Rattle.flow.specs.Flow.{Sub}
use Rattle.densest.specs.Gather.{inner_before, Gathered}
use Rattle.densest.proofs.Gathering.{inner_before_less, inner_total}

-- pair j has the units of the pair gathered from it, slot by slot, and none where it is not inside the scope
abbrev pub ScatteredAt : (h : ℕ → Pair) → (scope units hold : List ℕ) → (j : ℕ) → Type 0
ScatteredAt h scope units hold j =
    (get_or hold (2 * j) 0 ≡ cond (holds_pair scope (h j)) (get_or units (2 * inner_before h scope j) 0) 0)
    × (get_or hold (2 * j + 1) 0 ≡ cond (holds_pair scope (h j)) (get_or units (2 * inner_before h scope j + 1) 0) 0)

-- all pairs do; further slots are free
pub record Scattered (m : ℕ) (h : ℕ → Pair) (scope units hold : List ℕ) : Type 0 where
  pub long : 2 * m ≤ length hold
  pub slots : (j : ℕ) → j < m → ScatteredAt h scope units hold j

-- the slots of all pairs: those of pair j, where it is inside the scope, have what the slots at its number among the pairs gathered have
unfoldable pub put_back : (m : ℕ) (h : ℕ → Pair) (scope units : List ℕ) → List ℕ
put_back m h scope units =
    table (2 * m) (λ s. cond (holds_pair scope (h (s / 2))) (get_or units (2 * inner_before h scope (s / 2) + s % 2) 0) 0)

pub put_back_is : (m : ℕ) (h : ℕ → Pair) (scope units : List ℕ) → Scattered m h scope units (put_back m h scope units)
unfolding put_back
put_back_is m h scope units =
    let at : ℕ → ℕ → ℕ = λ j d. cond (holds_pair scope (h j)) (get_or units (2 * inner_before h scope j + d) 0) 0 in
    let slot : (s j d : ℕ) → s < 2 * m → s / 2 ≡ j → s % 2 ≡ d → get_or (put_back m h scope units) s 0 ≡ at j d =
    λ s j d l ej ed. table_at (2 * m) (λ s. at (s / 2) (s % 2)) s 0 l ∙ rw (ej, ed) in
    record {
      long = omega (arith, length_table (2 * m) (λ s. at (s / 2) (s % 2)));
      slots = λ j l. (
        slot (2 * j) j 0 (omega arith) (omega arith) (omega arith)
            ∙ ap {B = ℕ} (λ (k : ℕ). cond (holds_pair scope (h j)) (get_or units k 0) 0) (omega arith),
        slot (2 * j + 1) j 1 (omega arith) (omega arith) (omega arith),
      );
    }

-- ---- what is put back

cond_none : (c : Bool) → ◌≡◌ {A = ℕ} (cond c 0 0) 0
cond_none true = refl
cond_none false = refl

-- of a pair inside the scope or not: its end e holds y, and the same end of the pair gathered from it, d, holds x
held_end : (b : Bool) (d e v x y : ℕ) → (b ≡ true → d ≡ e) → y ≡ cond b x 0 → cond (eqb e v) y 0 ≡ cond b (cond (eqb d v) x 0) 0
held_end true d e v x y f h = rw (h, f refl)
held_end false d e v x y f h = rw h (cond_none (eqb e v))

cond_add : (b : Bool) (x y : ℕ) → cond b x 0 + cond b y 0 ≡ cond b (x + y) 0
cond_add true x y = refl
cond_add false x y = refl

-- b: inside the scope, c: inside a part of it
part_only : (b c : Bool) (x u : ℕ) → (b ≡ true → x ≡ cond c u 0) → (c ≡ true → b ≡ true) → cond b x 0 ≡ cond c u 0
part_only true c x u f h = f refl
part_only false true x u f h = no (h refl)
part_only false false x u f h = refl

module _ (n m r : ℕ) (ends weights scope inner_ends inner_weights units hold : List ℕ) (g : Gathered n m ends weights scope inner_ends inner_weights r)
    (s : Scattered m (word_pair ends weights) scope units hold) where
  -- the pairs of the list, and their numbers among those gathered
  abbrev at : ℕ → Pair
  at = word_pair ends weights

  abbrev number : ℕ → ℕ
  number = inner_before at scope

  -- what a module holds in the slots of pair j, and in those of the pair gathered from it
  slots_of : (es hs : List ℕ) → (v j : ℕ) → ℕ
  slots_of es hs v j = cond (eqb (get_or es (2 * j) 0) v) (get_or hs (2 * j) 0) 0 + cond (eqb (get_or es (2 * j + 1) 0) v) (get_or hs (2 * j + 1) 0) 0

  held_pair : (v j : ℕ) → j < m → slots_of ends hold v j ≡ cond (holds_pair scope (at j)) (slots_of inner_ends units v (number j)) 0
  unfolding slots_of word_pair
  held_pair v j h =
      let k = number j in
      let b = holds_pair scope (at j) in
      omega (
        arith,
        held_end b (get_or inner_ends (2 * k) 0) (get_or ends (2 * j) 0) v (get_or units (2 * k) 0) _
            (λ y. ap (λ (p : Pair). p.a) (g.pairs j h y)) (s.slots j h).0,
        held_end b (get_or inner_ends (2 * k + 1) 0) (get_or ends (2 * j + 1) 0) v (get_or units (2 * k + 1) 0) _
            (λ y. ap (λ (p : Pair). p.b) (g.pairs j h y)) (s.slots j h).1,
        cond_add b (cond (eqb (get_or inner_ends (2 * k) 0) v) (get_or units (2 * k) 0) 0)
            (cond (eqb (get_or inner_ends (2 * k + 1) 0) v) (get_or units (2 * k + 1) 0) 0),
      )

  -- each module holds what it held among the pairs gathered
  pub scattered_held : (v : ℕ) → held_by m ends hold v ≡ held_by r inner_ends units v
  unfolding held_upto slots_of
  scattered_held v =
      total_pairs m (λ k. cond (eqb (get_or ends k 0) v) (get_or hold k 0) 0)
      ∙ total_ext m (slots_of ends hold v) (λ j. cond (holds_pair scope (at j)) (slots_of inner_ends units v (number j)) 0) (held_pair v)
      ∙ inner_total at scope m (slots_of inner_ends units v)
      ∙ ap {B = ℕ} (λ (k : ℕ). total k (slots_of inner_ends units v)) (sym g.count)
      ∙ sym (total_pairs r (λ k. cond (eqb (get_or inner_ends k 0) v) (get_or units k 0) 0))

  -- the units of pair j
  whole : (j : ℕ) → j < m → get_or hold (2 * j) 0 + get_or hold (2 * j + 1) 0
      ≡ cond (holds_pair scope (at j)) (get_or units (2 * number j) 0 + get_or units (2 * number j + 1) 0) 0
  whole j h =
      omega (
        arith,
        s.slots j h,
        cond_add (holds_pair scope (at j)) (get_or units (2 * number j) 0) (get_or units (2 * number j + 1) 0),
      )

  -- a pair inside the scope is among those gathered
  kept_low : (j : ℕ) → j < m → holds_pair scope (at j) ≡ true → number j < r
  kept_low j h y = omega (arith, g.count, inner_before_less at scope j m h y)

  -- a split of the pairs gathered, inside a part of the scope, is a split of all pairs
  pub scattered_split : (q : ℕ) (part : List ℕ) → Sub part scope → Split r q inner_ends inner_weights part units → Split m q ends weights part hold
  unfolding scope_units holds_pair word_pair
  scattered_split q part sub sp = record {
    long = s.long;
    whole = λ j h. whole j h
        ∙ part_only (holds_pair scope (at j)) (holds_pair part (at j)) _ (units_at q (at j))
        (λ y. sp.whole (number j) (kept_low j h y) ∙ ap {B = ℕ} (λ (p : Pair). cond (holds_pair part p) (units_at q p) 0) (g.pairs j h y))
        (λ y. let y' = simp tests at y in simp tests (sub _ y'.0, sub _ y'.1));
  }
