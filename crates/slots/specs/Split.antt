-- A split (document 01, "Split") in slots, inside a scope of modules.
--   Weights        the pairs' weights, a word each
--   scope_units    the units of a pair: none where it has an end outside the scope
--   Split          the slots of a pair inside the scope hold its units, all others nothing
-- Assumes nothing: these are definitions.
use Rattle.std.specs.Prelude.{◌≡◌, cond, List, ℕ, ◌+◌, ◌*◌, ◌≤◌, ◌<◌, length, get_or}
use Rattle.theory.specs.Groups.{holds_pair}
use Rattle.theory.specs.Splits.{units}
use Rattle.theory.specs.Words.{word_pair}

-- a weight of at most 1,000 for each pair
pub record Weights (m : ℕ) (weights : List ℕ) : Type 0 where
  pub long : m ≤ length weights
  pub small : (j : ℕ) → j < m → get_or weights j 0 ≤ 1000

-- the units of pair j at share size q: all of them where both its ends are in the scope, none otherwise
unfoldable pub scope_units : (q : ℕ) → (ends weights scope : List ℕ) → (j : ℕ) → ℕ
scope_units q ends weights scope j = cond (holds_pair scope (word_pair ends weights j)) (units q (word_pair ends weights j)) 0

-- a split at share size q inside the scope: which of a pair's ends has how many is free
pub record Split (m q : ℕ) (ends weights scope hold : List ℕ) : Type 0 where
  pub long : 2 * m ≤ length hold
  pub whole : (j : ℕ) → j < m → get_or hold (2 * j) 0 + get_or hold (2 * j + 1) 0 ≡ scope_units q ends weights scope j
