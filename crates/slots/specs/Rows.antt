-- The pairs by their ends, and the row of each module: its neighbours, along its slots from the last one back (adjacency lists). And each module's degree,
-- what its pairs weigh.
--   first_end, second_end    the ends of a pair
--   weight_at                what the first pairs weigh at a module
--   neighbour_at             what joins a slot's module to another one
--   row, row_from            a module's neighbours: in its slots below a number, and from one of its slots on
--   slots_weigh, Chained     the first slots are chained, and what they weigh is added up
-- Assumes nothing: these are definitions.
use Rattle.std.specs.Prelude.{◌≡◌, cond, List, [], ◌∷◌, Option, Some, None, ℕ, zero, suc, ◌+◌, ◌*◌, ◌/◌, ◌<◌, eqb, get_or}
use Rattle.slots.specs.declared.neighbours.Neighbour.{Neighbour}
use Rattle.slots.specs.Slots.{mate, total}
use Rattle.slots.specs.Buffers.{entry}
use Rattle.slots.specs.Links.{Linked}

-- the first and the second end of pair j
unfoldable pub first_end : (ends : List ℕ) → (j : ℕ) → ℕ
first_end es j = get_or es (2 * j) 0

unfoldable pub second_end : (ends : List ℕ) → (j : ℕ) → ℕ
second_end es j = get_or es (2 * j + 1) 0

-- what the first k pairs weigh at v
unfoldable pub weight_at : (ends weights : List ℕ) → (k v : ℕ) → ℕ
weight_at es ws k v =
    total k (λ j. cond (eqb (first_end es j) v) (get_or ws j 0) 0 + cond (eqb (second_end es j) v) (get_or ws j 0) 0)

-- the module at the other end of a slot's pair, and the pair's weight
abbrev pub neighbour_at : (ends weights : List ℕ) → (s : ℕ) → Neighbour
neighbour_at es ws s = record { number = get_or es (mate s) 0; weight = get_or ws (s / 2) 0 }

-- the neighbours of v in the first k slots, the last one first
unfoldable pub row : (ends weights : List ℕ) → (v k : ℕ) → List Neighbour
row es ws v zero = []
row es ws v (suc s) = cond (eqb (get_or es s 0) v) (neighbour_at es ws s ∷ row es ws v s) (row es ws v s)

-- the neighbours of a slot's module from that slot back
abbrev pub row_from : (ends weights : List ℕ) → Option ℕ → List Neighbour
row_from es ws None = []
row_from es ws (Some s) = neighbour_at es ws s ∷ row es ws (get_or es s 0) s

-- what the first k slots weigh at v
unfoldable pub slots_weigh : (ends weights : List ℕ) → (k v : ℕ) → ℕ
slots_weigh es ws k v = total k (λ s. cond (eqb (get_or es s 0) v) (get_or ws (s / 2) 0) 0)

-- the first k slots are chained, and `degrees` has what they weigh at each module; further entries of all three are free
pub record Chained (n k : ℕ) (ends weights last before degrees : List ℕ) : Type 0 where
  pub linked : Linked n k (entry ends) last before
  pub degrees_are : (v : ℕ) → v < n → get_or degrees v 0 ≡ slots_weigh ends weights k v
