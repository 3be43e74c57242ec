-- Units in slots. Pair j has two slots, 2j and 2j + 1: `ends` has the slot's module, `hold` the units of the pair that it holds. (A slot is an arc
-- of an orientation; units move from a slot to the pair's other slot, as along the arcs of a residual network.)
--   mate                            the other slot of the same pair
--   total                           the sum of f 0, .., f (k − 1)
--   pair_units                      the units of a slot's pair
--   held_upto, held_by              the units that a module holds
--   slot_load                       a module's load: its own, and the units that it holds
--   own_of, held_inside, staying    the load that cannot leave a set of modules
--   Ends, Room, Own                 what is asked of a list's words, of the units and of own loads
--   Loads, Covers                   a buffer that has the loads; one that has loads, whatever modules have of their own
--   moved, SameUnits, Kept         d moved from one place to another; what units that move within pairs keep
-- Assumes nothing: these are definitions.
use Rattle.std.specs.Prelude.{◌≡◌, cond, ◌&&◌, List, [], ◌∷◌, ℕ, zero, suc, ◌+◌, ◌*◌, ◌-◌, ◌%◌, ◌≤◌, ◌<◌, eqb, length, get_or, set}
use Rattle.theory.specs.Groups.{is_in}

-- the other slot of the same pair
unfoldable pub mate : ℕ → ℕ
mate s = cond (eqb (s % 2) 0) (s + 1) (s - 1)

-- the sum of f 0, .., f (k − 1)
unfoldable pub total : (k : ℕ) → (ℕ → ℕ) → ℕ
total zero f = 0
total (suc k) f = f k + total k f

-- the units of the pair of slot s
abbrev pub pair_units : (hold : List ℕ) → (s : ℕ) → ℕ
pair_units hold s = get_or hold s 0 + get_or hold (mate s) 0

-- the units that v holds in the first k slots
unfoldable pub held_upto : (k : ℕ) → (ends hold : List ℕ) → (v : ℕ) → ℕ
held_upto k ends hold v = total k (λ s. cond (eqb (get_or ends s 0) v) (get_or hold s 0) 0)

-- and in all slots of m pairs
abbrev pub held_by : (m : ℕ) → (ends hold : List ℕ) → (v : ℕ) → ℕ
held_by m ends hold v = held_upto (2 * m) ends hold v

-- the load of v: its own, which does not move, and the units that it holds
abbrev pub slot_load : (m : ℕ) → (own ends hold : List ℕ) → (v : ℕ) → ℕ
slot_load m own ends hold v = get_or own v 0 + held_by m ends hold v

-- the own loads of the members of t
unfoldable pub own_of : (own t : List ℕ) → ℕ
own_of own [] = 0
own_of [] (x ∷ xs) = 0
own_of (o ∷ os) (x ∷ xs) = x * o + own_of os xs

-- the units of the pairs with both ends in t
unfoldable pub held_inside : (m : ℕ) → (ends hold t : List ℕ) → ℕ
held_inside m ends hold t =
    total m (λ j. cond (is_in t (get_or ends (2 * j) 0) && is_in t (get_or ends (2 * j + 1) 0)) (get_or hold (2 * j) 0 + get_or hold (2 * j + 1) 0) 0)

-- the load that cannot leave t, wherever units move
unfoldable pub staying : (m : ℕ) → (own ends hold t : List ℕ) → ℕ
staying m own ends hold t = own_of own t + held_inside m ends hold t

-- a list's words: up to 4,096 pairs of two different modules below n
pub record Ends (n m : ℕ) (ends : List ℕ) : Type 0 where
  pub few : m ≤ 4096
  pub long : 2 * m ≤ length ends
  pub below : (s : ℕ) → s < 2 * m → get_or ends s 0 < n
  pub apart : (s : ℕ) → s < 2 * m → get_or ends s 0 ≡ get_or ends (mate s) 0 → ⊥

-- room for the units: no pair has more than a weight of 1,000 at share size 512, so sums fit 32 bits
pub record Room (m : ℕ) (hold : List ℕ) : Type 0 where
  pub long : 2 * m ≤ length hold
  pub small : (s : ℕ) → s < 2 * m → pair_units hold s ≤ 512000

-- own loads: none above 4,096 · 1,000 · 512, so that a load fits 32 bits
pub record Own (n : ℕ) (own : List ℕ) : Type 0 where
  pub long : n ≤ length own
  pub small : (v : ℕ) → v < n → get_or own v 0 ≤ 2097152000

-- the first n entries of `load` are the loads; what follows them is free
pub record Loads (n m : ℕ) (own ends hold load : List ℕ) : Type 0 where
  pub long : n ≤ length load
  pub same : (v : ℕ) → v < n → get_or load v 0 ≡ slot_load m own ends hold v

-- each load is what the module holds and a load of its own
pub record Covers (n m : ℕ) (ends hold load : List ℕ) : Type 0 where
  pub long : n ≤ length load
  pub least : (v : ℕ) → v < n → held_by m ends hold v ≤ get_or load v 0
  pub most : (v : ℕ) → v < n → get_or load v 0 ≤ held_by m ends hold v + 2097152000

-- d taken from place i and put to place j
unfoldable pub moved : List ℕ → (i j d : ℕ) → List ℕ
moved xs i j d = set (set xs i (get_or xs i 0 - d)) j (get_or (set xs i (get_or xs i 0 - d)) j 0 + d)

-- each pair has the units that it had
abbrev pub SameUnits : (m : ℕ) → (old new : List ℕ) → Type 0
SameUnits m old new = (s : ℕ) → s < 2 * m → pair_units new s ≡ pair_units old s

-- units moved within pairs, how many and where being free, and the loads with them
pub record Kept (n m : ℕ) (ends hold load hold' load' : List ℕ) : Type 0 where
  pub hold_long : length hold' ≡ length hold
  pub load_long : length load' ≡ length load
  pub units : SameUnits m hold hold'
  -- slots past those of the m pairs are as they were
  pub rest : (s : ℕ) → 2 * m ≤ s → get_or hold' s 0 ≡ get_or hold s 0
  -- what a module gains in load it gains in units held: own loads stay
  pub loads : (v : ℕ) → v < n → get_or load' v 0 + held_by m ends hold v ≡ get_or load v 0 + held_by m ends hold' v
