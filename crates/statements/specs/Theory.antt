-- Document 03's seven statements of specs/Promise.antt, letter for letter but for layout, comments and the modules named: of lists whose pairs
-- count once, over document 03's own definitions, which stand in theory's Plain. A statement is a type; proofs/Theory.antt has a theorem for each,
-- of the same name in small letters.
--   EqualBest                               the third demand: the two ratios are equal exactly when group and split are best
--   FoundThere, FoundAlone, SplitThere    the found group is there, one; and its split
--   CheckBest                               what check accepts is best
--   FoundInCore, CoreExact                the second demand: the found group's core; core numbers
-- Assumes nothing: these are definitions.
use Rattle.std.specs.Prelude.{◌≡◌, true, List, ℕ, ◌*◌, ◌≤◌, ◌<◌}
use Rattle.theory.specs.Groups.{is_in, size, within}
use Rattle.theory.specs.Plain.{Pairs, is_list, is_group, inside, at_most, Found, is_split, greatest_load}
use Rattle.theory.specs.Plain.{core, core_number, all_have, outside_good, rounded_up}

-- document 03's third demand: the two ratios are equal exactly when group and split are best
unfoldable pub EqualBest : Type 0
EqualBest =
    (g : Pairs) (s xs : List ℕ) (q : ℕ) → is_list g ≡ true → is_group g s ≡ true → is_split g q xs ≡ true →
    (inside g s * q ≡ greatest_load g q xs * size s →
    ((t : List ℕ) → is_group g t ≡ true → at_most g t s ≡ true)
    × ((r : ℕ) (ys : List ℕ) → is_split g r ys ≡ true → greatest_load g q xs * r ≤ greatest_load g r ys * q))
    × (((t : List ℕ) → is_group g t ≡ true → at_most g t s ≡ true) →
    ((r : ℕ) (ys : List ℕ) → is_split g r ys ≡ true → greatest_load g q xs * r ≤ greatest_load g r ys * q) →
    inside g s * q ≡ greatest_load g q xs * size s)

-- document 03's found group is there
unfoldable pub FoundThere : Type 0
FoundThere = (g : Pairs) → is_list g ≡ true → (s : List ℕ) × Found g s

-- and only one
unfoldable pub FoundAlone : Type 0
FoundAlone = (g : Pairs) (s t : List ℕ) → is_list g ≡ true → Found g s → Found g t → s ≡ t

-- a split at its size whose greatest load is its inside count, as solve hands it out
unfoldable pub SplitThere : Type 0
SplitThere =
    (g : Pairs) (s : List ℕ) → is_list g ≡ true → Found g s →
    (xs : List ℕ) × (is_split g (size s) xs ≡ true) × (greatest_load g (size s) xs ≡ inside g s)
    × (outside_good g (rounded_up (inside g s) (size s)) (size s) g.pairs xs ≡ true)

-- what check accepts is best, and its greatest load is the inside count
unfoldable pub CheckBest : Type 0
CheckBest =
    (g : Pairs) (s xs t : List ℕ) → is_list g ≡ true → is_group g s ≡ true → is_split g (size s) xs ≡ true →
    greatest_load g (size s) xs ≤ inside g s →
    (greatest_load g (size s) xs ≡ inside g s) × (is_group g t ≡ true → at_most g t s ≡ true)

-- document 03's second demand: the found group lies in the core of its ratio rounded up
unfoldable pub FoundInCore : Type 0
FoundInCore =
    (g : Pairs) (s : List ℕ) → is_list g ≡ true → Found g s → within s (core g (rounded_up (inside g s) (size s))) ≡ true

-- and a core number is the largest of a group's least degree
unfoldable pub CoreExact : Type 0
CoreExact =
    (g : Pairs) (m k : ℕ) (s : List ℕ) → is_list g ≡ true → m < g.n →
    ((is_group g s ≡ true → is_in s m ≡ true → all_have g.n 0 g k s ≡ true → k ≤ core_number g m)
    × (is_in (core g (core_number g m)) m ≡ true) × (all_have g.n 0 g (core_number g m) (core g (core_number g m)) ≡ true))
