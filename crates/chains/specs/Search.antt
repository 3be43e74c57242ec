-- What the chain search does, on the way to the promise of crate `flow`. A set of modules is given by numbers above 0 (`rank`).
--   zeros                      how many numbers are 0
--   HasUnits                  an end of a pair that has units
--   leads, Closed, ExitFound   slots that hold units and lead out of a set
--   Step, Tree                 how each module was reached (a search tree)
--   Full                       every module of a set is loaded p or more
--   Visited, ChainFound       one module more; a search's answer
--   excess, Pulled             what lies above p; units moved back along a chain
--   Stuck, Settled             a set that no unit can leave; the answer of all searches
-- Assumes nothing: these are definitions.
use Rattle.std.specs.Prelude.{◌≡◌, ℕ, ◌+◌, ◌-◌, ◌*◌, ◌<◌, ◌≤◌, Bool, true, false, cond, ◌&&◌, List, length, ◌==◌, ◌≢◌, nat_lt, slice_index, slice_index_or, slice_set, Option, IfSome, IfNone}
use Rattle.slots.specs.Slots.{mate, total, pair_units, Kept}

-- how many of the first k numbers are 0
unfoldable pub zeros : (k : ℕ) → List ℕ → ℕ
zeros k xs = total k (λ v. cond (slice_index xs v == 0) 1 0)

-- module v is an end of a pair that has units
pub record HasUnits (m : ℕ) (ends hold : List ℕ) (v : ℕ) : Type 0 where
  pub slot : ℕ
  pub low : slot < 2 * m
  pub end : slice_index_or ends slot 0 ≡ v
  pub units : 0 < pair_units hold slot

-- a slot that holds units and leads out of the set: from a module of rank above 0 to one of rank 0
unfoldable pub leads : (ends hold rank : List ℕ) → (s : ℕ) → Bool
leads ends hold rank s =
    nat_lt 0 (slice_index hold s) && (nat_lt 0 (slice_index rank (slice_index ends s)) && slice_index rank (slice_index ends (mate s)) == 0)

-- no slot leads out of the set
abbrev pub Closed : (m : ℕ) → (ends hold rank : List ℕ) → Type 0
Closed m ends hold rank = (s : ℕ) → s < 2 * m → leads ends hold rank s ≡ false

-- the first slot that leads out, if one does
pub record ExitFound (m : ℕ) (ends hold rank : List ℕ) (r : Option ℕ) : Type 0 where
  pub found : IfSome r (λ s. (s < 2 * m) × (leads ends hold rank s ≡ true) × ((t : ℕ) → t < s → leads ends hold rank t ≡ false))
  pub none : IfNone r (Closed m ends hold rank)

-- the module that slot k leads to is the next of rank, at the end of the queue
pub record Visited (ends : List ℕ) (k tail : ℕ) (rank from queue rank' from' queue' : List ℕ) (r : ℕ) : Type 0 where
  pub at : r ≡ slice_index ends (mate k)
  pub ranks : rank' ≡ slice_set rank r (tail + 1)
  pub froms : from' ≡ slice_set from r k
  pub queues : queue' ≡ slice_set queue tail r

-- module v was reached by the slot that `from` has, which holds units, out of a module of lower rank
pub record Step (m : ℕ) (ends hold rank from : List ℕ) (v : ℕ) : Type 0 where
  pub slot : slice_index_or from v 0 < 2 * m
  pub into : slice_index_or ends (mate (slice_index from v)) 0 ≡ v
  pub live : 0 < slice_index hold (slice_index from v)
  pub up : 0 < slice_index rank (slice_index ends (slice_index from v))
  pub less : slice_index_or rank (slice_index ends (slice_index from v)) 0 < slice_index rank v

-- the tree of the modules reached, those of rank up to `top`: rank 0 is not reached, rank 1 the root alone
pub record Tree (n m root top : ℕ) (ends hold rank from : List ℕ) : Type 0 where
  pub rank_long : n ≤ length rank
  pub from_long : n ≤ length from
  pub first : slice_index_or rank root 0 ≡ 1
  pub one : (v : ℕ) → v < n → slice_index rank v ≡ 1 → v ≡ root
  pub step : (v : ℕ) → v < n → 1 < slice_index rank v → slice_index rank v ≤ top → Step m ends hold rank from v

-- every module of the set is loaded p or more
abbrev pub Full : (n p : ℕ) → (load rank : List ℕ) → Type 0
Full n p load rank = (v : ℕ) → v < n → 0 < slice_index rank v → p ≤ slice_index load v

-- a search from the root: a module c is reached and loaded below p; or none is, and the modules reached are closed and loaded p or more
pub record ChainFound (n m p root : ℕ) (ends hold load rank from : List ℕ) (r : Option ℕ) : Type 0 where
  pub tree : (top : ℕ) → Tree n m root top ends hold rank from
  pub low : IfSome r (λ c. (c < n) × (0 < slice_index rank c) × (slice_index load c < p))
  -- it is the first such module: every other one was reached before it and is loaded p or more
  pub first : IfSome r (λ c. (v : ℕ) → v < n → 0 < slice_index rank v → (v ≢ c) → (p ≤ slice_index load v) × (slice_index rank v < slice_index rank c))
  pub shut : IfNone r (Closed m ends hold rank × Full n p load rank)

-- what the first k loads have above p, in all
unfoldable pub excess : (k p : ℕ) → (load : List ℕ) → ℕ
excess k p load = total k (λ v. slice_index load v - p)

-- units moved along a chain: no load passes p, and less is above it
pub record Pulled (n m p : ℕ) (ends hold load hold' load' : List ℕ) : Type 0 where
  pub kept : Kept n m ends hold load hold' load'
  pub calm : (v : ℕ) → v < n → slice_index load v ≤ p → slice_index load' v ≤ p
  pub less_excess : excess n p load' < excess n p load

-- a closed set of modules loaded p or more, one of them, the root, above it; the others have pairs with units
pub record Stuck (n m p : ℕ) (ends hold load rank : List ℕ) : Type 0 where
  pub root : ℕ
  pub low : root < n
  pub reached : 0 < slice_index rank root
  pub over : p < slice_index load root
  pub shut : Closed m ends hold rank
  pub full : Full n p load rank
  pub live : (v : ℕ) → v < n → 0 < slice_index rank v → (v ≢ root) → HasUnits m ends hold v

-- all searches: no load is above p, or a set is stuck
pub record Settled (n m p : ℕ) (ends hold load hold' load' rank' : List ℕ) (r : Bool) : Type 0 where
  pub kept : Kept n m ends hold load hold' load'
  pub good : r ≡ true → (v : ℕ) → v < n → slice_index load' v ≤ p
  pub bad : r ≡ false → Stuck n m p ends hold' load' rank'
