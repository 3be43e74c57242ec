-- Document 01, "The list and its calls": whether a pair is held, its place, and the list with a pair more or a pair less; document 02, items 4
-- and 9: the list with some stops more of a pair, or some less.
--   same_ends                 whether two pairs have the same two numbers in the same order
--   is_held, weight_of        whether a list holds a pair, and how often it counts there
--   place_of                  where it stands or would go
--   insert_pair, remove_pair, with_pair, without_pair    the list with it, and without it
--   heavier, lighter          a pair with some stops more, and less
--   raise_pair, lower_pair    the list with some stops of a pair more, and less
--   smaller_first_pair        the pair 2,5 for the modules 5 and 2
--   stops_of                  some stops of that pair
-- Nothing here asks for the smaller module first, except the last two. Assumes nothing: these are definitions.
use Rattle.std.specs.Prelude.{Bool, false, ◌&&◌, ◌||◌, cond, List, [], ◌∷◌, ℕ, suc, ◌+◌, ◌-◌, min, max, leb, eqb}
use Rattle.theory.specs.Lists.{Pair, Pairs, pair, stands_before}

-- the same two numbers in the same order, whatever the weights
unfoldable pub same_ends : (p r : Pair) → Bool
same_ends p r = eqb p.a r.a && eqb p.b r.b

-- p is held in the list (membership)
unfoldable pub is_held : Pair → List Pair → Bool
is_held p [] = false
is_held p (r ∷ rs) = same_ends p r || is_held p rs

-- the weight with which p is held, and 0 where it is not
unfoldable pub weight_of : Pair → List Pair → ℕ
weight_of p [] = 0
weight_of p (r ∷ rs) = cond (same_ends p r) r.w (weight_of p rs)

-- how many at the front stand before p: the place where p is or would go, counted from 0 (the lower bound of p)
unfoldable pub place_of : Pair → List Pair → ℕ
place_of p [] = 0
place_of p (r ∷ rs) = cond (stands_before r p) (suc (place_of p rs)) 0

-- the list with p at its place
unfoldable pub insert_pair : Pair → List Pair → List Pair
insert_pair p [] = p ∷ []
insert_pair p (r ∷ rs) = cond (stands_before r p) (r ∷ insert_pair p rs) (p ∷ r ∷ rs)

-- the list without p
unfoldable pub remove_pair : Pair → List Pair → List Pair
remove_pair p [] = []
remove_pair p (r ∷ rs) = cond (same_ends p r) rs (r ∷ remove_pair p rs)

-- a list with p
unfoldable pub with_pair : Pair → Pairs → Pairs
with_pair p g = record { n = g.n; pairs = insert_pair p g.pairs }

-- and without it
unfoldable pub without_pair : Pair → Pairs → Pairs
without_pair p g = record { n = g.n; pairs = remove_pair p g.pairs }

-- a pair with w stops more
unfoldable pub heavier : (w : ℕ) → Pair → Pair
heavier w r = record { a = r.a; b = r.b; w = r.w + w }

-- and with w less
unfoldable pub lighter : (w : ℕ) → Pair → Pair
lighter w r = record { a = r.a; b = r.b; w = r.w - w }

-- the list with p's stops more: a held pair's count is raised, a new pair goes to its place
unfoldable pub raise_pair : Pair → List Pair → List Pair
raise_pair p [] = p ∷ []
raise_pair p (r ∷ rs) = cond (same_ends p r) (heavier p.w r ∷ rs) (cond (stands_before r p) (r ∷ raise_pair p rs) (p ∷ r ∷ rs))

-- the list with p's stops less: a pair whose count is p's or less is taken out
unfoldable pub lower_pair : Pair → List Pair → List Pair
lower_pair p [] = []
lower_pair p (r ∷ rs) = cond (same_ends p r) (cond (leb r.w p.w) rs (lighter p.w r ∷ rs)) (r ∷ lower_pair p rs)

-- 2,5 is the same pair as 5,2: the smaller module first
unfoldable pub smaller_first_pair : (a b : ℕ) → Pair
smaller_first_pair a b = pair (min a b) (max a b)

-- w stops of that pair (document 02, item 4)
unfoldable pub stops_of : (a b w : ℕ) → Pair
stops_of a b w = record { a = min a b; b = max a b; w = w }
