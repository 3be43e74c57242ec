-- The test of the held records, one record at a time. Only the private functions of this crate cite these; `agrees` is what callers read.
--   may_follow    a record behind another
--   good_after    all of some records
-- Assumes nothing: these are definitions.
use Rattle.std.specs.Prelude.{Bool, true, ◌&&◌, List, [], ◌∷◌, ℕ, ltb}
use Rattle.theory.specs.Lists.{weight_in_range, stands_before}
use Rattle.records.specs.Records.{as_pair}
use Rattle.records.specs.declared.Pair.{Pair}

-- its modules are below N, the smaller number stands first, its count is 1 to 1,000, and it stands after the record before it
unfoldable pub may_follow : (n : ℕ) → (last : Pair) → Pair → Bool
may_follow n last p = ltb p.b n && (ltb p.a p.b && (weight_in_range (as_pair p) && stands_before (as_pair last) (as_pair p)))

-- each of some records may follow the one before it, and the first `last`
unfoldable pub good_after : (n : ℕ) → (last : Pair) → List Pair → Bool
good_after n last [] = true
good_after n last (p ∷ ps) = may_follow n last p && good_after n p ps
