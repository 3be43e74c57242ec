-- The load sheet: units inside the core, the other pairs wholly with the end that left first.
--   only_table, merge_table           shares inside the core and all shares, as tables
--   Writing, writing_start, packed_same, writing_next    a loop that writes the shares in the place of the pairs packed
--   share_of                          a share as a maximum
--   written_shares                    shares that are written by the units of the pairs gathered
--   Sheet                             what the last round and the leaving places give
--   sheet_optimal, sheet_outside      such a sheet is the split that solve hands out
-- Assumes nothing.
use Rattle.std.proofs.Common.{◌≡◌, ℕ, zero, suc, ◌+◌, ◌*◌, ◌<◌, ◌≤◌, Bool, true, false, cond, ltb, leb, min, max, List, length, get_or, set, sym, refl, ap, ◌∙◌, arith, length-set, get_or-set_other, ext_get_or}
use Rattle.theory.specs.Basics.{table}
use Rattle.theory.specs.Lists.{Pair, Pairs}
use Rattle.theory.specs.Groups.{is_in, size, holds_pair, inside, Found}
use Rattle.theory.specs.Leaving.{leaving, before}
use Rattle.theory.specs.Cores.{core, core_number}
use Rattle.theory.specs.Splits.{units, shares_good, is_split, load_of, greatest_load, core_order, pair_in_core, wholly_first, outside_good}
use Rattle.theory.specs.Words.{word_pair, pairs_in, list_in, HeldWords}
use Rattle.theory.specs.Promise.{Optimal, CoreMembers}
use Rattle.theory.proofs.Tests.{tests}
use Rattle.theory.proofs.Tables.{length_table, table_at, table_ext}
use Rattle.theory.proofs.Groups.{Sub}
use Rattle.theory.proofs.Densest.{found_densest}
use Rattle.theory.proofs.Duality.{optimal}
use Rattle.theory.proofs.Cores.{core_members}
use Rattle.theory.proofs.Splits.{only, merge, split_with}
use Rattle.slots.specs.Slots.{held_by}
use Rattle.slots.specs.Split.{scope_units, Split}
use Rattle.slots.proofs.Choice.{stored_more}
use Rattle.slots.proofs.Words.{good_pair}
use Rattle.densest.specs.Gather.{inner_before, unpacked, Packed, first_left, sheet_share, Written}
use Rattle.densest.proofs.Scattering.{Scattered}
use Rattle.densest.proofs.Loads.{load_held, shares_table}
use Rattle.densest.proofs.Gathering.{inner_before_ext, InnerPassed, passed_start, passed_next}

-- ---- shares as tables

-- a pair, of weight 0 where it is not kept
kept_pair : (keep : Pair → Bool) → Pair → Pair
kept_pair keep p = record { a = p.a; b = p.b; w = cond (keep p) p.w 0 }

module _ (keep : Pair → Bool) (out : Pair → ℕ) where
  only_table : (m : ℕ) (h : ℕ → Pair) → only keep out (table m h) ≡ table m (λ j. kept_pair keep (h j))
  unfolding only table kept_pair
  only_table zero h = refl
  only_table (suc m) h = rw (only_table m (λ j. h (suc j)))

  merge_table : (m : ℕ) (h : ℕ → Pair) (x : ℕ → ℕ) → merge keep out (table m h) (table m x) ≡ table m (λ j. cond (keep (h j)) (x j) (out (h j)))
  unfolding merge table
  merge_table zero h x = refl
  merge_table (suc m) h x = rw (merge_table m (λ j. h (suc j)) (λ j. x (suc j)))

cond_times : (c : Bool) (w q : ℕ) → cond c (w * q) 0 ≡ cond c w 0 * q
cond_times true w q = refl
cond_times false w q = omega arith

-- ---- the sheet, written in the place of the pairs

-- the pairs that are packed in a list of words
abbrev pub packed_at : List ℕ → ℕ → Pair
packed_at xs j = unpacked (get_or xs j 0)

-- at pair j of m, of which i before it are inside the core: the shares below j are written; the other pairs stand packed as they did
pub record Writing (m j i q : ℕ) (core scope place held shares₀ shares : List ℕ) : Type 0 where
  pub passed : InnerPassed m j i (packed_at shares₀) core
  pub long : length shares ≡ m
  pub ahead : (k : ℕ) → j ≤ k → get_or shares k 0 ≡ get_or shares₀ k 0
  pub written : (k : ℕ) → k < j →
      get_or shares k 0 ≡ sheet_share q scope place (packed_at shares₀ k) (get_or held (2 * inner_before (packed_at shares₀) core k) 0)

pub writing_start : (q : ℕ) (core scope place held shares : List ℕ) → Writing (length shares) 0 0 q core scope place held shares shares
writing_start q core scope place held shares = record {
  passed = passed_start _ _ _;
  long = refl;
  ahead = λ k h. refl;
  written = λ k h. absurd (omega arith);
}

module _ {m j i q : ℕ} {core scope place held shares₀ shares : List ℕ} (low : j < m) (w : Writing m j i q core scope place held shares₀ shares) where
  -- pair j is read as it was
  pub packed_same : packed_at shares j ≡ packed_at shares₀ j
  packed_same = ap unpacked (w.ahead j (omega arith))

  -- pair j gets the share x
  pub writing_next : (x y d : ℕ) (t b : Bool) → t ≡ holds_pair scope (packed_at shares j) →
      y ≡ cond (first_left place (packed_at shares j)) (units q (packed_at shares j)) 0 → x ≡ cond t (get_or held (2 * i) 0) y →
      b ≡ holds_pair core (packed_at shares j) → d ≡ cond b 1 0 → Writing m (j + 1) (i + d) q core scope place held shares₀ (set shares j x)
  unfolding sheet_share
  writing_next x y d t b et ey ex eb ed =
      let sl = w.long in
      record {
        passed = passed_next b d w.passed low (eb ∙ ap (holds_pair core) packed_same) ed;
        long = length-set shares j x ∙ sl;
        ahead = λ k h. get_or-set_other shares j k x 0 (λ z. omega arith) ∙ w.ahead k (omega arith);
        written =
            stored_more (λ k z. z ≡ sheet_share q scope place (packed_at shares₀ k) (get_or held (2 * inner_before (packed_at shares₀) core k) 0))
            shares j x (omega arith) w.written (rw (← w.passed.place, ← packed_same, ← et, ← ey) ex);
      }

forced_none : (f : Bool) (w : ℕ) → ◌≡◌ {A = ℕ} (cond f (w * 0) 0) 0
forced_none true w = omega arith
forced_none false w = refl

-- a share as a maximum: of h, which the slot holds, and what is forced one counts as 0
pub share_of : (t f : Bool) (h w x q : ℕ) (p : Pair) → (t ≡ true → h ≤ 524288) → w ≡ cond f (units (cond t 0 q) p) 0 →
    x ≡ max (min h (cond t 524288 0)) w → x ≡ cond t h (cond f (units q p) 0)
unfolding units
share_of true f h w x q p small ew ex = omega (arith, ex, small refl, ew, forced_none f p.w)
share_of false f h w x q p small ew ex = omega (arith, ex, ew)

-- a pair's share where what its first slot holds matters only inside the scope
share_same : (b : Bool) (x y z : ℕ) → (b ≡ true → x ≡ y) → cond b x z ≡ cond b y z
share_same true x y z e = e refl
share_same false x y z e = refl

-- the shares written are those of the units put back
pub written_shares : (m q : ℕ) (ends weights core scope place units hold old new : List ℕ) → Packed m ends weights old → Sub scope core →
    Scattered m (word_pair ends weights) core units hold → Written m q core scope place units old new →
    (j : ℕ) → j < m → get_or new j 0 ≡ sheet_share q scope place (word_pair ends weights j) (get_or hold (2 * j) 0)
unfolding sheet_share holds_pair
written_shares m q ends weights core scope place units hold old new pk sub sc w j l =
    let at = word_pair ends weights in
    let p = at j in
    let number : inner_before (packed_at old) core j ≡ inner_before at core j =
    inner_before_ext at core (packed_at old) j (λ i b. pk.pairs i (omega arith)) in
    w.shares j l
    ∙ ap (λ (r : Pair). sheet_share q scope place r (get_or units (2 * inner_before (packed_at old) core j) 0)) (pk.pairs j l)
    ∙ share_same (holds_pair scope p) _ _ _ (λ y.
    let y' = simp tests at y in
    let z : holds_pair core p ≡ true = simp tests (sub _ y'.0, sub _ y'.1) in
    ap (λ (k : ℕ). get_or units (2 * k) 0) number ∙ sym ((sc.slots j l).0 ∙ rw z))

-- ---- the sheet is the split that is handed out

-- t is the found group; the scope is its core, hold a split inside it with no load above t's inside count, and shares the sheet of these
pub record Sheet (n m : ℕ) (ends weights scope place hold t shares : List ℕ) : Type 0 where
  pub held : HeldWords n m ends weights
  pub found : Found (list_in n m ends weights) t
  pub scope_is : scope ≡ core (list_in n m ends weights) (core_order (list_in n m ends weights) t)
  pub split : Split m (size t) ends weights scope hold
  pub most : (v : ℕ) → v < n → held_by m ends hold v ≤ inside (list_in n m ends weights) t
  pub by_place : (a b : ℕ) → a < n → b < n → before (leaving (list_in n m ends weights)) a b ≡ ltb (get_or place a 0) (get_or place b 0)
  pub long : length shares ≡ m
  pub written : (j : ℕ) → j < m → get_or shares j 0 ≡ sheet_share (size t) scope place (word_pair ends weights j) (get_or hold (2 * j) 0)

module _ (n m : ℕ) (ends weights scope place hold t shares : List ℕ) (d : Sheet n m ends weights scope place hold t shares) where
  list : Pairs
  list = list_in n m ends weights

  inner : Pair → Bool
  inner = pair_in_core list (core_order list t)

  outer : Pair → ℕ
  outer = wholly_first list (size t)

  at : ℕ → Pair
  at = word_pair ends weights

  in_scope : (v : ℕ) → v < n → is_in scope v ≡ leb (core_order list t) (core_number list v)
  unfolding list list_in CoreMembers
  in_scope v h = rw d.scope_is (core_members list (core_order list t) v d.held.listed h)

  -- both ends in the scope: both in the core
  scope_inner : (j : ℕ) → j < m → holds_pair scope (at j) ≡ inner (at j)
  unfolding inner at holds_pair pair_in_core word_pair
  scope_inner j h =
      let w = good_pair n m ends weights d.held.listed j h in
      rw (in_scope (get_or ends (2 * j) 0) (omega arith), in_scope (get_or ends (2 * j + 1) 0) w.below)

  whole : (j : ℕ) → j < m → get_or hold (2 * j) 0 + get_or hold (2 * j + 1) 0 ≡ units (size t) (kept_pair inner (at j))
  unfolding kept_pair units scope_units at word_pair
  whole j h =
      d.split.whole j h
      ∙ ap (λ (c : Bool). cond c (get_or weights j 0 * size t) 0) (scope_inner j h)
      ∙ cond_times (inner (at j)) (get_or weights j 0) (size t)

  load_inner : (v : ℕ) → load_of (size t) v (only inner outer (table m at)) (table m (λ j. get_or hold (2 * j) 0)) ≡ held_by m ends hold v
  load_inner v =
      rw (only_table inner outer m at)
      (load_held (size t) v m (λ j. kept_pair inner (at j)) ends hold (unfold kept_pair at word_pair in record {
        first = λ j h. refl;
        second = λ j h. refl;
        apart = λ j h e. let w = good_pair n m ends weights d.held.listed j h in omega (arith, w.first);
        whole = whole;
      }))

  good_inner : shares_good (size t) (only inner outer (table m at)) (table m (λ j. get_or hold (2 * j) 0)) ≡ true
  good_inner =
      rw (only_table inner outer m at) (shares_table (size t) m (λ j. kept_pair inner (at j)) (λ j. get_or hold (2 * j) 0) (λ j h. omega (arith, whole j h)))

  -- the share of pair j
  share_at : ℕ → ℕ
  share_at j = sheet_share (size t) scope place (at j) (get_or hold (2 * j) 0)

  share_is : (j : ℕ) → j < m → share_at j ≡ cond (inner (at j)) (get_or hold (2 * j) 0) (outer (at j))
  unfolding share_at sheet_share outer wholly_first list at word_pair
  share_is j h =
      let w = good_pair n m ends weights d.held.listed j h in
      ap (λ (c : Bool). cond c (get_or hold (2 * j) 0) (cond (first_left place (at j)) (units (size t) (at j)) 0)) (scope_inner j h)
      ∙ ap (λ (c : Bool). cond (inner (at j)) (get_or hold (2 * j) 0) (cond c (units (size t) (at j)) 0))
      (sym (d.by_place (get_or ends (2 * j) 0) (get_or ends (2 * j + 1) 0) (omega arith) w.below))

  -- the entries written are these shares
  shares_are : shares ≡ merge inner outer (table m at) (table m (λ j. get_or hold (2 * j) 0))
  unfolding share_at at
  shares_are =
      ext_get_or 0 shares (table m share_at) (d.long ∙ sym (length_table m _))
      (λ j h. let l : j < m = omega (arith, d.long) in d.written j l ∙ sym (table_at m share_at j 0 l))
      ∙ table_ext m _ _ share_is
      ∙ sym (merge_table inner outer m at (λ j. get_or hold (2 * j) 0))

  handed_out : (is_split list (size t) shares ≡ true) × (greatest_load list (size t) shares ≡ inside list t)
      × (outside_good list (core_order list t) (size t) (pairs_in m ends weights) shares ≡ true)
  unfolding list list_in pairs_in inner outer at
  handed_out =
      rw shares_are
      (split_with list t d.held.listed (found_densest list t d.found) (table m (λ j. get_or hold (2 * j) 0)) good_inner
      (λ v h. omega (arith, load_inner v, d.most v h)))

  pub sheet_optimal : Optimal (list_in n m ends weights) t shares (inside (list_in n m ends weights) t) (size t)
  unfolding list
  sheet_optimal = optimal list t shares d.held.listed d.found.group handed_out.0 (omega (arith, handed_out.1))

  pub sheet_outside : let g = list_in n m ends weights in outside_good g (core_order g t) (size t) g.pairs shares ≡ true
  unfolding list list_in
  sheet_outside = handed_out.2
