-- Document 02, item 7: a kit is never made for fewer than k modules. Of the sets left over in the leaving order, the full set included, with at least k
-- modules, it is the one of greatest ratio; of equals, the larger. (Greedy peeling for the densest at-least-k-subgraph problem; source document
-- 001, FindLargeDenseSubgraph. A set left over is a remainder: who is left when the first of the leaving order have left.)
--   denser_of                   of two sets left over the one of higher ratio, of equals the larger
--   densest_upto                the densest of the first
--   densest_remainder           the densest of at least so many modules, by how many have left
--   kit                         that set, by its member bytes
--   bad_least                   k outside 1 to N
--   kit_causes, kit_number      why no kit is made, after 13 and 12: 20, 21; the number given
--   LeftOver, IsKit             the item's own words: the sets of which one is taken, and which one
--   WithinThree, WithinSize     how far P/Q is at most from the ratios of groups: three times, of those with at least k modules; and by a group's size
--   KitPromise                  what is said of a kit, and of the P and Q returned
-- The statements; proofs/Kits.antt has a theorem for each, of the same name in small letters:
--   KitExact                    `kit` is the item's set, and the item's words fit no other
--   KitGroup                    it is a group with at least k modules
--   KitWithinThree              three times its ratio is no less than the ratio of any group with at least k modules
--   KitWithinSize               and of any group, by its size: three times at k modules, less the more it has
--   KitPromised                 so all of KitPromise holds of it
-- Assumes nothing: these are definitions.
use Rattle.std.specs.Prelude.{◌≡◌, Bool, true, ◌&&◌, not, cond, List, [], ◌∷◌, ◌++◌, ◌↔◌, ℕ, zero, suc, ◌+◌, ◌*◌, ◌-◌, ◌≤◌, leb}
use Rattle.theory.specs.Lists.{Pairs, is_list}
use Rattle.theory.specs.Groups.{size, is_group, inside, at_most}
use Rattle.theory.specs.Leaving.{remainder}
use Rattle.theory.specs.Refusals.{Cause, cause, refusal}
use Rattle.theory.specs.Pairless.{group_causes}

-- ---- the kit, outright

-- of the remainders at i and at j the denser one, of equals that at i: by how many have left
unfoldable pub denser_of : Pairs → (i j : ℕ) → ℕ
denser_of g i j = cond (at_most g (remainder g j) (remainder g i)) i j

-- the densest of the remainders at 0, 1, .., i; of equals the larger, which is the earlier
unfoldable pub densest_upto : Pairs → (i : ℕ) → ℕ
densest_upto g zero = 0
densest_upto g (suc i) = denser_of g (densest_upto g i) (suc i)

-- THE DENSEST REMAINDER of at least `least` modules, by how many have left
unfoldable pub densest_remainder : Pairs → (least : ℕ) → ℕ
densest_remainder g least = densest_upto g (g.n - least)

-- THE KIT of at least k modules, k from 1 to N
unfoldable pub kit : Pairs → (k : ℕ) → List ℕ
kit g k = remainder g (densest_remainder g k)

-- ---- why no kit is made

-- 21: k is outside 1 to N
unfoldable pub bad_least : (n k : ℕ) → Bool
bad_least n k = not (leb 1 k && leb k n)

-- of a list of N modules and M pairs, after 13 and 12: 20 (no pair), 21
unfoldable pub kit_causes : (n m k : ℕ) → List Cause
kit_causes n m k = group_causes m ++ cause 21 (bad_least n k) ∷ []

-- the number given, or 0 where a kit is made
unfoldable pub kit_number : (n m k : ℕ) → ℕ
kit_number n m k = refusal (kit_causes n m k)

-- ---- the item's words

-- a set left over in the leaving order, the full set included, with at least k modules
pub record LeftOver (g : Pairs) (k : ℕ) (s : List ℕ) : Type 0 where
  -- how many have left: 0 for the full set
  pub left : ℕ
  pub most : left ≤ g.n
  pub rest : s ≡ remainder g left
  pub enough : k ≤ size s

-- of these the one of greatest ratio; of equals, the larger
pub record IsKit (g : Pairs) (k : ℕ) (s : List ℕ) : Type 0 where
  pub left_over : LeftOver g k s
  pub greatest : (t : List ℕ) → LeftOver g k t → at_most g t s ≡ true
  pub larger : (t : List ℕ) → LeftOver g k t → at_most g s t ≡ true → size t ≤ size s

-- three times p/q is no less than the ratio of any group with at least k modules, by cross products
abbrev pub WithinThree : Pairs → (k p q : ℕ) → Type 0
WithinThree g k p q = (t : List ℕ) → is_group g t ≡ true → k ≤ size t → inside g t * q ≤ 3 * p * size t

-- and of any group, with (2 · size + k) / size in the place of 3: more than 3 where it has fewer than k modules, 3 where it has k, nearer to 2 the more it has
abbrev pub WithinSize : Pairs → (k p q : ℕ) → Type 0
WithinSize g k p q = (t : List ℕ) → is_group g t ≡ true → inside g t * q ≤ p * (2 * size t + k)

-- what is said of a kit s of at least k modules, and of the P and Q returned
pub record KitPromise (g : Pairs) (k : ℕ) (s : List ℕ) (p q : ℕ) : Type 0 where
  -- P and Q are its inside count and size
  pub inside_count : p ≡ inside g s
  pub modules : q ≡ size s
  -- it is the set of the item's words
  pub is_kit : IsKit g k s
  -- it is a group with at least k modules
  pub group : is_group g s ≡ true
  pub enough : k ≤ q
  -- three times its ratio is no less than the ratio of any group with at least k modules
  pub within_three : WithinThree g k p q
  -- sharper for those with more than k
  pub within_size : WithinSize g k p q

-- ---- what is promised of it

-- FOR EACH k FROM 1 TO N THERE IS EXACTLY ONE SUCH SET, and `kit` gives it
unfoldable pub KitExact : Type 0
KitExact = (g : Pairs) (k : ℕ) (s : List ℕ) → 1 ≤ k → k ≤ g.n → IsKit g k s ↔ (s ≡ kit g k)

-- IT IS A GROUP WITH AT LEAST k MODULES
unfoldable pub KitGroup : Type 0
KitGroup = (g : Pairs) (k : ℕ) → 1 ≤ k → k ≤ g.n → (is_group g (kit g k) ≡ true) × (k ≤ size (kit g k))

-- THREE TIMES ITS RATIO IS NO LESS THAN THE RATIO OF ANY GROUP WITH AT LEAST k MODULES (a 1/3-approximation; source document 001, theorem 1)
unfoldable pub KitWithinThree : Type 0
KitWithinThree = (g : Pairs) (k : ℕ) → is_list g ≡ true → 1 ≤ k → k ≤ g.n → WithinThree g k (inside g (kit g k)) (size (kit g k))

-- AND BY A GROUP'S SIZE
unfoldable pub KitWithinSize : Type 0
KitWithinSize = (g : Pairs) (k : ℕ) → is_list g ≡ true → 1 ≤ k → k ≤ g.n → WithinSize g k (inside g (kit g k)) (size (kit g k))

-- so of the kit, its inside count and its size
unfoldable pub KitPromised : Type 0
KitPromised =
    (g : Pairs) (k : ℕ) → is_list g ≡ true → 1 ≤ k → k ≤ g.n → KitPromise g k (kit g k) (inside g (kit g k)) (size (kit g k))
