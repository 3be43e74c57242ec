-- The contract of `solve`: document 01, "Solve", on a list that lies in words.
--   IsSolution    what is said of the group, the load sheet and the numbers returned; free are only the shares of pairs inside the core of order K,
--                  and the counts of the searches
--   Solves         where they stand in the buffers
-- Assumes nothing: these are definitions.
use Rattle.std.specs.Prelude.{◌≡◌, ℕ, true, List, ◌++◌, length, take, drop}
use Rattle.theory.specs.Lists.{Pairs}
use Rattle.theory.specs.Groups.{size, Found}
use Rattle.theory.specs.Cores.{core, core_numbers}
use Rattle.theory.specs.Splits.{core_order, outside_good}
use Rattle.theory.specs.Promise.{Optimal}
use Rattle.densest.specs.declared.Solution.{Solution}

-- of a list g: member bytes s, shares xs, and what is returned
pub record IsSolution (g : Pairs) (s xs : List ℕ) (r : Solution) : Type 0 where
  -- s is the found group
  pub found : Found g s
  -- the ratio is its inside count P over its size Q; xs is a split at share size Q, its greatest load is exactly P, and both are best
  pub optimal : Optimal g s xs r.ratio.p r.ratio.q
  -- a pair with an end outside the core of order K goes wholly to the end that left first
  pub outside : outside_good g (core_order g s) r.ratio.q g.pairs xs ≡ true
  -- K is P over Q, rounded up, and the core of order K has so many modules
  pub order : r.k ≡ core_order g s
  pub core_size : r.core ≡ size (core g r.k)

-- the buffers before (members, cores, shares) and after (members', ..): entries past the first N and the first M are as they were
pub record Solves (g : Pairs) (members cores shares members' cores' shares' : List ℕ) (r : Solution) : Type 0 where
  pub members_long : length members' ≡ length members
  pub shares_long : length shares' ≡ length shares
  pub members_rest : drop g.n members' ≡ drop g.n members
  pub shares_rest : drop (length g.pairs) shares' ≡ drop (length g.pairs) shares
  pub cores_are : cores' ≡ core_numbers g ++ drop g.n cores
  pub solved : IsSolution g (take g.n members') (take (length g.pairs) shares') r
