-- The pairs inside a scope, gathered at the front of the words that hold all pairs; all pairs, packed; and the load sheet.
--   inner_before               how many pairs before pair j are inside the scope (its number among the pairs gathered)
--   Gathered, CoreGathered     words that have the pairs inside the scope; inside a core as large as the group at hand asks for
--   unpacked, Packed, Unpacks  the pair of one word; entries that are the pairs, packed; entries whose ends are modules
--   first_left, sheet_share    who of a pair left first; a pair's share, from its first slot and the leaving places
--   LastLeavers, FirstPlace    a group that leaves last (as cores do); the place from which on its members leave
--   SmallUnits, Written        what slots hold inside the scope is small; the load sheet, from the pairs packed and the units of the pairs gathered
-- Assumes nothing: these are definitions.
use Rattle.std.specs.Prelude.{◌≡◌, ℕ, ◌*◌, ◌/◌, ◌%◌, ◌<◌, ◌≤◌, Bool, true, false, cond, List, length, nat_lt, slice_index}
use Rattle.theory.specs.Lists.{Pair}
use Rattle.theory.specs.Groups.{is_in, holds_pair}
use Rattle.theory.specs.Cores.{core}
use Rattle.theory.specs.Splits.{units, rounded_up}
use Rattle.theory.specs.Words.{word_pair, list_in, HeldWords}
use Rattle.slots.specs.Slots.{total}
use Rattle.rounds.specs.Known.{Candidate}
use Rattle.densest.specs.Inner.{inner_list}

-- how many of the first j pairs have both ends in the scope; pair i is h i
unfoldable pub inner_before : (h : ℕ → Pair) → (scope : List ℕ) → (j : ℕ) → ℕ
inner_before h scope j = total j (λ i. cond (holds_pair scope (h i)) 1 0)

-- the first r pairs of `inner_ends` and `inner_weights` are the pairs inside the scope, in order; further words are free
pub record Gathered (n m : ℕ) (ends weights scope inner_ends inner_weights : List ℕ) (r : ℕ) : Type 0 where
  pub count : r ≡ inner_before (word_pair ends weights) scope m
  pub list : list_in n r inner_ends inner_weights ≡ inner_list (list_in n m ends weights) scope
  -- pair j has its number among them
  pub pairs : (j : ℕ) → j < m → holds_pair scope (word_pair ends weights j) ≡ true →
      word_pair inner_ends inner_weights (inner_before (word_pair ends weights) scope j) ≡ word_pair ends weights j

-- the pairs inside a core, gathered: its order is at most p over q rounded up, a ratio that some group of all pairs reaches
pub record CoreGathered (n m p q : ℕ) (ends weights members inner_ends inner_weights : List ℕ) (r : ℕ) : Type 0 where
  pub held : HeldWords n m ends weights
  pub at_hand : Candidate (list_in n m ends weights) p q
  pub order : ℕ
  pub low : order ≤ rounded_up p q
  pub members_are : members ≡ core (list_in n m ends weights) order
  pub gathered : Gathered n m ends weights members inner_ends inner_weights r

-- the pair of a word that has its first end from bit 19 on, its second end from bit 10 on, and its count in the lowest 10 bits
unfoldable pub unpacked : ℕ → Pair
unpacked x = record { a = x / 524288; b = x / 1024 % 512; w = x % 1024 }

-- the first m entries are the pairs, packed
pub record Packed (m : ℕ) (ends weights shares : List ℕ) : Type 0 where
  pub pairs : (j : ℕ) → j < m → unpacked (slice_index shares j) ≡ word_pair ends weights j

-- the first m entries, unpacked, have ends below n
pub record Unpacks (n m : ℕ) (shares : List ℕ) : Type 0 where
  pub first : (j : ℕ) → j < m → (unpacked (slice_index shares j)).a < n
  pub second : (j : ℕ) → j < m → (unpacked (slice_index shares j)).b < n

-- whether a pair's first end left before the second
abbrev pub first_left : (place : List ℕ) → Pair → Bool
first_left place p = nat_lt (slice_index place p.a) (slice_index place p.b)

-- whoever is outside the group leaves before all members; no place is above 512
pub record LastLeavers (group place : List ℕ) : Type 0 where
  pub small : (v : ℕ) → v < length group → slice_index place v ≤ 512
  pub last : (a b : ℕ) → a < length group → b < length group → is_in group a ≡ false → is_in group b ≡ true →
      slice_index place a < slice_index place b

-- k is the lowest place of a member among the first n modules, but 1,024 at most
pub record FirstPlace (n : ℕ) (group place : List ℕ) (k : ℕ) : Type 0 where
  pub most : k ≤ 1024
  pub low : (v : ℕ) → v < n → is_in group v ≡ true → k ≤ slice_index place v
  pub greatest : (i : ℕ) → i ≤ 1024 → ((v : ℕ) → v < n → is_in group v ≡ true → i ≤ slice_index place v) → i ≤ k

-- a pair's share: x, what its first slot holds, where both its ends are in the scope, else all of it or nothing, by who left first
unfoldable pub sheet_share : (q : ℕ) → (scope place : List ℕ) → Pair → (x : ℕ) → ℕ
sheet_share q scope place p x = cond (holds_pair scope p) x (cond (first_left place p) (units q p) 0)

-- what a pair inside the scope has in its first slot fits 19 bits; pairs stand packed in `shares`, units at their numbers among those inside the core
pub record SmallUnits (m : ℕ) (core scope units shares : List ℕ) : Type 0 where
  pub small : (j : ℕ) → j < m → holds_pair scope (unpacked (slice_index shares j)) ≡ true →
      slice_index units (2 * inner_before (λ i. unpacked (slice_index shares i)) core j) ≤ 524288

-- each of the pairs packed in `old` has its share in `new`; what a pair inside the core has in its first slot stands at its number among these
pub record Written (m q : ℕ) (core scope place units old new : List ℕ) : Type 0 where
  pub shares : (j : ℕ) → j < m → slice_index new j
      ≡ sheet_share q scope place (unpacked (slice_index old j)) (slice_index units (2 * inner_before (λ i. unpacked (slice_index old i)) core j))
