-- The neighbours of a module, and what is left of a walk over them.
--   neighbours_of      a module's neighbours in a list
--   neighbours_left    those that are still to come
-- Assumes nothing: these are definitions.
use Rattle.std.specs.Prelude.{List, ℕ, ◌*◌}
use Rattle.lists.specs.declared.list.List.{List as HeldList}
use Rattle.slots.specs.declared.neighbours.Neighbour.{Neighbour}
use Rattle.slots.specs.declared.neighbours.Neighbours.{Neighbours}
use Rattle.slots.specs.Rows.{row, row_from}

-- the neighbours of v in all slots of a list
abbrev pub neighbours_of : HeldList → (v : ℕ) → List Neighbour
neighbours_of l v = row l.ends.now l.weights.now v (2 * l.m)

-- the neighbours from the slot at hand back
abbrev pub neighbours_left : Neighbours → List Neighbour
neighbours_left s = row_from s.adjacency.list.ends.now s.adjacency.list.weights.now s.slot
