-- The promise of the split search, in slots: units held at the ends of pairs move within their pairs until no load is above p; or a set of modules
-- shows that no way of moving them does that. (A maximum flow, or a minimum cut.)
--   Sub                every member of one set is in another
--   Tight              a set that cannot get below p a module
--   HasUnits          an end of a pair that has units (crate chains)
--   Denser             a set that cannot get down to p a module: the cut
--   Largest            the largest tight set inside a scope
--   Flowed             what `flow` answers
-- Assumes nothing: these are definitions.
use Rattle.std.specs.Prelude.{◌≡◌, Bool, true, false, List, ◌⊎◌, ℕ, ◌*◌, ◌≤◌, ◌<◌, length, get_or}
use Rattle.theory.specs.Groups.{is_in, size, bytes_good}
use Rattle.slots.specs.Slots.{slot_load, staying, SameUnits}
pub use Rattle.chains.specs.Search.{HasUnits}

-- every member of s is a member of t
abbrev pub Sub : (s t : List ℕ) → Type 0
Sub s t = (v : ℕ) → is_in s v ≡ true → is_in t v ≡ true

-- the load that stays in t is p a module or more
abbrev pub Tight : (m p : ℕ) → (own ends hold t : List ℕ) → Type 0
Tight m p own ends hold t = p * size t ≤ staying m own ends hold t

-- a set t of modules in which more than p a module stays: however units move, one of them is loaded above p
pub record Denser (n m p : ℕ) (own ends hold t : List ℕ) : Type 0 where
  pub long : length t ≡ n
  pub bytes : bytes_good t ≡ true
  pub some : 0 < size t
  pub more : p * size t < staying m own ends hold t
  -- so it lies in any scope outside of which modules have no own load and pairs no units
  pub live : (v : ℕ) → is_in t v ≡ true → (0 < get_or own v 0) ⊎ HasUnits m ends hold v

-- t is tight, and has every tight set inside the scope
pub record Largest (n m p : ℕ) (own scope ends hold t : List ℕ) : Type 0 where
  pub long : length t ≡ n
  pub bytes : bytes_good t ≡ true
  pub inside : Sub t scope
  pub tight : Tight m p own ends hold t
  pub all : (s : List ℕ) → length s ≡ n → bytes_good s ≡ true → Sub s scope → Tight m p own ends hold s → Sub s t

-- What `flow` answers; r is whether it settled. Free are only where the units of a pair lie (each pair has as many as before), where r is false the set
-- t, and the counts of the searches.
pub record Flowed (n m p : ℕ) (own scope ends hold hold' t : List ℕ) (r : Bool) : Type 0 where
  pub long : length hold' ≡ length hold
  pub units : SameUnits m hold hold'
  pub rest : (s : ℕ) → 2 * m ≤ s → get_or hold' s 0 ≡ get_or hold s 0
  -- true: no load is above p, and t is what can give nothing away
  pub good : r ≡ true → (v : ℕ) → v < n → slot_load m own ends hold' v ≤ p
  pub largest : r ≡ true → Largest n m p own scope ends hold' t
  -- false: no way of moving units brings all loads down to p
  pub denser : r ≡ false → Denser n m p own ends hold' t
