-- What rounds take and leave.
--   Searchable                room for scope, units and group
--   no_load, Opened           what a round begins with; UnitsOpened: as units
--   Counted, DenserCounted    a group's inside count and size; of one that is denser than p over q
--   Round, RoundMade          what one round learns; with the ratio that it answers
--   GroupFound                what all rounds learn
-- Assumes nothing: these are definitions.
use Rattle.std.specs.Prelude.{◌≡◌, ℕ, ◌*◌, ◌<◌, ◌≤◌, Bool, true, false, nat_le, List, length, replicate}
use Rattle.theory.specs.Groups.{size, is_group, inside, Found}
use Rattle.theory.specs.Cores.{core}
use Rattle.theory.specs.Splits.{rounded_up}
use Rattle.theory.specs.Words.{list_in}
use Rattle.numbers.specs.declared.Ratio.{Ratio}
use Rattle.lists.specs.Listed.{listed}
use Rattle.slots.specs.declared.units.Units.{Units}
use Rattle.slots.specs.Slots.{held_by, Room, Loads}
use Rattle.slots.specs.Split.{Split}
use Rattle.slots.specs.Views.{GraphOf}
use Rattle.rounds.specs.declared.known.Known.{Known}

-- room for scope and group, with a byte for each of n modules, and for the units of m pairs
pub record Searchable (n m : ℕ) (scope hold group : List ℕ) : Type 0 where
  pub scope_long : length scope ≡ n
  pub group_long : length group ≡ n
  pub room : Room m hold

-- no module has a load of its own
unfoldable pub no_load : List ℕ
no_load = replicate {A = ℕ} 512 0

-- the scope is the core of the ratio rounded up, hold a split inside it at the ratio's size, and load has its loads
pub record Opened (known : Known) (scope hold load : List ℕ) : Type 0 where
  pub scope_is : scope ≡ core (listed known.list) (rounded_up known.ratio.p known.ratio.q)
  pub split : Split known.list.m known.ratio.q known.list.ends.now known.list.weights.now scope hold
  pub loads : Loads known.list.n known.list.m no_load known.list.ends.now hold load
  pub load_long : length load ≡ 512

-- the units of the list's pairs are such a split, and such loads
pub record UnitsOpened (known : Known) (scope : List ℕ) (units : Units) : Type 0 where
  pub graph : GraphOf known.list units.graph
  pub opened : Opened known scope units.hold.now units.load.now

-- a and b are the group's inside count and size
pub record Counted (n m : ℕ) (ends weights group : List ℕ) (a b : ℕ) : Type 0 where
  pub inside_count : a ≡ inside (list_in n m ends weights) group
  pub modules : b ≡ size group

-- they are those of a group with a higher ratio than that at hand
pub record DenserCounted (known : Known) (group : List ℕ) (ratio : Ratio) : Type 0 where
  pub counted : Counted known.list.n known.list.m known.list.ends.now known.list.weights.now group ratio.p ratio.q
  pub is_a_group : is_group (listed known.list) group ≡ true
  pub denser : known.ratio.p * size group < inside (listed known.list) group * known.ratio.q

-- the scope is the core of p over q rounded up, and hold a split inside it at share size q; true: no load is above p, and the group is the found
-- group; false: the group is denser than p over q
pub record Round (n m p q : ℕ) (ends weights scope hold group : List ℕ) (r : Bool) : Type 0 where
  pub scope_is : scope ≡ core (list_in n m ends weights) (rounded_up p q)
  pub split : Split m q ends weights scope hold
  pub room : Room m hold
  pub good : r ≡ true → (v : ℕ) → v < n → held_by m ends hold v ≤ p
  pub found : r ≡ true → Found (list_in n m ends weights) group
  pub is_a_group : r ≡ false → is_group (list_in n m ends weights) group ≡ true
  pub denser : r ≡ false → p * size group < inside (list_in n m ends weights) group * q

-- the round at the ratio at hand has counted its group; it has found a split with no load above p where the group's ratio is no higher
pub record RoundMade (known : Known) (scope hold group : List ℕ) (ratio : Ratio) : Type 0 where
  pub counted : Counted known.list.n known.list.m known.list.ends.now known.list.weights.now group ratio.p ratio.q
  pub round : Round known.list.n known.list.m known.ratio.p known.ratio.q known.list.ends.now known.list.weights.now scope hold group
      (nat_le (ratio.p * known.ratio.q) (known.ratio.p * ratio.q))

-- the found group, its inside count and its size; the last round was one at that inside count and size
pub record GroupFound (n m : ℕ) (ends weights scope hold group : List ℕ) (p q : ℕ) : Type 0 where
  pub found : Found (list_in n m ends weights) group
  pub inside_count : p ≡ inside (list_in n m ends weights) group
  pub modules : q ≡ size group
  pub last : Round n m p q ends weights scope hold group true
