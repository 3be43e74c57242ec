-- What the structs that borrow a list and its units keep.
--   GraphOf      the ends of a list's pairs
--   UnitsSame    the same list, and the same two buffers
--   UnitsKept    units that moved within pairs
-- Assumes nothing: these are definitions.
use Rattle.std.specs.Prelude.{◌≡◌}
use Rattle.lists.specs.declared.list.List.{List}
use Rattle.slots.specs.declared.graph.Graph.{Graph}
use Rattle.slots.specs.declared.units.Units.{Units}
use Rattle.slots.specs.Slots.{Kept}

-- the graph has a list's modules and the ends of its pairs
pub record GraphOf (list : List) (graph : Graph) : Type 0 where
  pub modules : graph.n ≡ list.n
  pub pairs : graph.m ≡ list.m
  pub ends : graph.ends.now ≡ list.ends.now

-- the list is the same, and units and loads lie where they lay (a borrow keeps its name)
pub record UnitsSame (old new : Units) : Type 0 where
  pub graph : new.graph ≡ old.graph
  pub hold : new.hold.ghost_name ≡ old.hold.ghost_name
  pub load : new.load.ghost_name ≡ old.load.ghost_name

-- units moved within pairs, how many and where being free, and the loads with them
pub record UnitsKept (old new : Units) : Type 0 where
  pub same : UnitsSame old new
  pub kept : Kept old.graph.n old.graph.m old.graph.ends.now old.hold.now old.load.now new.hold.now new.load.now
