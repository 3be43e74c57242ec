-- The pairs inside a group, as a list of their own.
--   inner_pairs    the pairs with both ends in a group
--   inner_list     the same modules with these pairs (the edges of the induced subgraph)
-- Assumes nothing: these are definitions.
use Rattle.std.specs.Prelude.{ℕ, cond, List, [], ◌∷◌}
use Rattle.theory.specs.Lists.{Pair, Pairs}
use Rattle.theory.specs.Groups.{holds_pair}

-- the pairs of a list of pairs with both ends in the group, in their order
unfoldable pub inner_pairs : List Pair → List ℕ → List Pair
inner_pairs [] s = []
inner_pairs (p ∷ ps) s = cond (holds_pair s p) (p ∷ inner_pairs ps s) (inner_pairs ps s)

-- the list of the same modules with the pairs inside a group: a module outside it has no pair (the induced subgraph's edges)
unfoldable pub inner_list : Pairs → List ℕ → Pairs
inner_list g s = record { n = g.n; pairs = inner_pairs g.pairs s }
