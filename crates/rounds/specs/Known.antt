-- What is known of a list when a round begins.
--   Candidate      a ratio that some group reaches
--   Cored          a buffer that has the core numbers
--   LeavingRoom    buffers for leaving order and places
-- Assumes nothing: these are definitions.
use Rattle.std.specs.Prelude.{◌≡◌, ℕ, ◌*◌, ◌<◌, ◌≤◌, List, length, slice_index}
use Rattle.theory.specs.Lists.{Pairs}
use Rattle.theory.specs.Groups.{size, inside, found_of}
use Rattle.theory.specs.Cores.{core_number}

-- the found group's ratio is p over q or more, which is to say that some group's is; p and q are small enough for words
pub record Candidate (g : Pairs) (p q : ℕ) : Type 0 where
  pub reached : p * size (found_of g) ≤ inside g (found_of g) * q
  pub few : p ≤ 4096000
  pub some : 1 ≤ q
  pub small : q ≤ g.n

-- the first n entries are the core numbers
pub record Cored (g : Pairs) (cores : List ℕ) : Type 0 where
  pub long : g.n ≤ length cores
  pub numbers : (v : ℕ) → v < g.n → slice_index cores v ≡ core_number g v

-- leaving order and places are free here: they only say where to begin
pub record LeavingRoom (n : ℕ) (order place : List ℕ) : Type 0 where
  pub order_long : n ≤ length order
  pub place_long : 512 ≤ length place
