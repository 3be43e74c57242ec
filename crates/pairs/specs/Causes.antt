-- Document 01, "Numbers from the input" and "from the state": when add and remove refuse, in their orders; document 02, item 2: 5 before 4; item 3:
-- place; item 4: 18 and 19.
--   is_module, module_unknown, self_paired    whether a number is a module's, as a list or a file numbers them; the conditions of 4 and 5
--   pair_causes     what add, remove, place and both readers refuse of two module numbers: 5, 4
--   count_outside, count_passes               the conditions of 18 and 19
--   count_causes    what add and the reader of pair files refuse of a stop count: 18
--   place_causes    13, 5, 4
--   add_causes      13, 5, 4, 18, 19, 11
--   remove_causes   13, 5, 4, 14
-- Assumes nothing: these are definitions.
use Rattle.std.specs.Prelude.{Bool, ◌&&◌, not, List, [], ◌∷◌, ◌++◌, ℕ, ◌+◌, leb, ltb, eqb}
use Rattle.theory.specs.Lists.{Pair, Pairs}
use Rattle.theory.specs.Refusals.{Cause, cause}
use Rattle.pairs.specs.Held.{is_held, weight_of, smaller_first_pair}

-- one of the n modules, the lowest of them numbered `lowest`: 0 in a list and in a pair file, 1 in a DIMACS file
unfoldable pub is_module : (lowest n a : ℕ) → Bool
is_module lowest n a = leb lowest a && ltb a (lowest + n)

-- 4: a module number is N or more; in a DIMACS file, 0 or above N
unfoldable pub module_unknown : (lowest n a b : ℕ) → Bool
module_unknown lowest n a b = not (is_module lowest n a && is_module lowest n b)

-- 5: a module is paired with itself
unfoldable pub self_paired : (a b : ℕ) → Bool
self_paired a b = eqb a b

-- of two module numbers 5, then 4 (document 02, item 2): the order that add, remove, place and both readers share
unfoldable pub pair_causes : (lowest n a b : ℕ) → List Cause
pair_causes lowest n a b = cause 5 (self_paired a b) ∷ cause 4 (module_unknown lowest n a b) ∷ []

-- PLACE of modules a and b in a list of n modules (document 02, item 3): as remove, except by 14. 13 where head and list disagree
abbrev pub place_causes : (disagree : Bool) → (n a b : ℕ) → List Cause
place_causes disagree n a b = cause 13 disagree ∷ pair_causes 0 n a b

-- 18: W outside 1 to 1,000
unfoldable pub count_outside : (w : ℕ) → Bool
count_outside w = not (leb 1 w && leb w 1000)

-- of a stop count 18 (document 02, item 4): what add and the reader of pair files share
unfoldable pub count_causes : (w : ℕ) → List Cause
count_causes w = cause 18 (count_outside w) ∷ []

-- 19: the raised count passes 1,000. A pair that is not held counts 0, so of a new pair only a W that meets 18 does
unfoldable pub count_passes : Pair → (w : ℕ) → List Pair → Bool
count_passes p w ps = ltb 1000 (weight_of p ps + w)

-- ADD of w stops of modules a and b to a list; 11 where the pair is new and no record is free
unfoldable pub add_causes : (disagree : Bool) → Pairs → (full : Bool) → (a b w : ℕ) → List Cause
add_causes disagree g full a b w =
    let p = smaller_first_pair a b in
    place_causes disagree g.n a b
    ++ (count_causes w ++ (cause 19 (count_passes p w g.pairs) ∷ cause 11 (not (is_held p g.pairs) && full) ∷ []))

-- REMOVE of modules a and b from a list
unfoldable pub remove_causes : (disagree : Bool) → Pairs → (a b : ℕ) → List Cause
remove_causes disagree g a b = place_causes disagree g.n a b ++ (cause 14 (not (is_held (smaller_first_pair a b) g.pairs)) ∷ [])
