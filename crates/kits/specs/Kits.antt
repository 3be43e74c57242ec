-- The contract of `kit`.
--   Kits    what it leaves in the buffer and returns, outright
-- Assumes nothing: this is a definition.
use Rattle.std.specs.Prelude.{◌≡◌, List, ◌++◌, ℕ, drop}
use Rattle.theory.specs.Lists.{Pairs}
use Rattle.theory.specs.Groups.{inside, size}
use Rattle.theory.specs.Kits.{kit}
use Rattle.numbers.specs.declared.Ratio.{Ratio}

-- of a list g: the member bytes before and after, and what is returned
pub record Kits (g : Pairs) (k : ℕ) (members members' : List ℕ) (r : Ratio) : Type 0 where
  -- the kit's member bytes stand in the first N entries; the others are as they were
  pub members_are : members' ≡ kit g k ++ drop g.n members
  -- its inside count and its size
  pub p_is : r.p ≡ inside g (kit g k)
  pub q_is : r.q ≡ size (kit g k)
