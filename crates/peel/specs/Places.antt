-- The places of the leaving order.
--   index_of    the place at which a module stands in an order
--   places      the place of each module in the leaving order
-- Assumes nothing: these are definitions.
use Rattle.std.specs.Prelude.{cond, List, [], ◌∷◌, ℕ, suc, eqb}
use Rattle.theory.specs.Basics.{table}
use Rattle.theory.specs.Lists.{Pairs}
use Rattle.theory.specs.Leaving.{leaving}

-- the place at which m stands, counted from 0; the order's length where it stands nowhere
unfoldable pub index_of : List ℕ → (m : ℕ) → ℕ
index_of [] m = 0
index_of (x ∷ xs) m = cond (eqb x m) 0 (suc (index_of xs m))

-- who leaves before whom: the module at the lower place (the inverse of the leaving order)
unfoldable pub places : Pairs → List ℕ
places g = table g.n (index_of (leaving g))
