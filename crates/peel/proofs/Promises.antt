-- The statements of specs/Promise.antt, each proved.
--   place_before     places and `before`
--   peel_promised    what is promised of every call of `peel`
-- Assumes nothing.
use mathlib.Core.Path.{◌≡◌, refl, sym, ap, ◌∙◌}
use mathlib.Core.Bool.{Bool, true, false, cond}
use mathlib.Core.List.{List, [], ◌∷◌, ◌++◌}
use Prim.Native.Nat.{ℕ, suc, ◌-◌, ◌≤◌, ◌<◌}
use native.Mathlib.Omega.{arith}
use lib.Dec.{ltb, eqb, leb-suc-suc}
use lib.ListN.{get_or, drop, get_or-append}
use borrow.Author.Tests.{ltb-true, lt-ltb, le-ltb}
use Rattle.theory.specs.Basics.{table}
use Rattle.theory.specs.Leaving.{leaving, remainder, before}
use Rattle.theory.specs.Cores.{core_number, core_numbers}
use Rattle.theory.specs.Kits.{densest_remainder, kit, KitExact}
use Rattle.theory.specs.Promise.{CoreExact, OutsideFirst}
use Rattle.theory.proofs.Tests.{no}
use Rattle.theory.proofs.Tables.{length_table, table_at}
use Rattle.theory.proofs.Promises.{core_exact, outside_first}
use Rattle.theory.proofs.Remainders.{remainder_size, densest_le}
use Rattle.theory.proofs.Kits.{kit_exact}
use Rattle.peel.specs.Places.{index_of, places}
use Rattle.peel.specs.Promise.{PeelPromised, PlaceBefore}
use Rattle.peel.proofs.Leavers.{remainder_by_place}

-- ---- places

pub place_before : PlaceBefore
unfolding PlaceBefore before index_of
place_before [] a b = refl
place_before (x ∷ xs) a b = go (eqb x a) (eqb x b) (place_before xs a b)
  where
    go : (s t : Bool) → before xs a b ≡ ltb (index_of xs a) (index_of xs b) →
        cond t false (cond s true (before xs a b)) ≡ ltb (cond s 0 (suc (index_of xs a))) (cond t 0 (suc (index_of xs b)))
    go true true ih = refl
    go true false ih = sym (lt-ltb 0 (suc (index_of xs b)) (omega arith))
    go false true ih = sym (le-ltb (suc (index_of xs a)) 0 (omega arith))
    go false false ih = ih ∙ sym (leb-suc-suc (suc (index_of xs a)) (index_of xs b))

-- what stands past an order changes nothing in it
before_append : (xs ys : List ℕ) (a b : ℕ) → before xs a b ≡ true → before (xs ++ ys) a b ≡ true
unfolding before
before_append [] ys a b e = no e
before_append (x ∷ xs) ys a b e = go (eqb x a) (eqb x b) e (before_append xs ys a b)
  where
    go : (s t : Bool) → cond t false (cond s true (before xs a b)) ≡ true → (before xs a b ≡ true → before (xs ++ ys) a b ≡ true) →
        cond t false (cond s true (before (xs ++ ys) a b)) ≡ true
    go s true e ih = no e
    go true false e ih = refl
    go false false e ih = ih e

-- an entry of a buffer that begins with a table
front_at : (n : ℕ) (f : ℕ → ℕ) (xs rest : List ℕ) → xs ≡ table n f ++ rest → (i : ℕ) → i < n → get_or xs i 0 ≡ f i
front_at n f xs rest e i l =
    ap (λ (ys : List ℕ). get_or ys i 0) e
    ∙ get_or-append (table n f) rest 0 i (omega (arith, length_table n f))
    ∙ table_at n f i 0 l

pub peel_promised : PeelPromised
unfolding PeelPromised CoreExact OutsideFirst PlaceBefore core_numbers places densest_remainder kit KitExact
peel_promised g least order cores place order' cores' place' r h some few p =
    record {
      core_exact = λ m l. rw (core_at m l) (core_exact g m h l);
      outside_first = λ k a b la lb oa ib.
          let first : before (leaving g) a b ≡ true = outside_first g k a b h la lb oa ib in (
            rw p.order_is (before_append (leaving g) (drop g.n order) a b first),
            ltb-true (get_or place' a 0) (get_or place' b 0) (sym (by a b la lb) ∙ first),
          );
      by_place = by;
      member = λ i v l. rw (place_at v l) (remainder_by_place g i v l);
      rest = omega (arith, p.q_is, remainder_size g r.at (omega (arith, low)));
      enough = omega (arith, p.q_is, remainder_size g r.at (omega (arith, low)), low);
      is_kit = (kit_exact g least (remainder g r.at) some few).1 (ap (remainder g) p.at_is);
    }
  where
    core_at : (m : ℕ) → m < g.n → get_or cores' m 0 ≡ core_number g m
    core_at = front_at g.n (core_number g) cores' (drop g.n cores) p.cores_are

    place_at : (m : ℕ) → m < g.n → get_or place' m 0 ≡ index_of (leaving g) m
    place_at = front_at g.n (index_of (leaving g)) place' (drop g.n place) p.places_are

    low : r.at ≤ g.n - least
    low = omega (arith, p.at_is, densest_le g (g.n - least))

    by : (a b : ℕ) → a < g.n → b < g.n → before (leaving g) a b ≡ ltb (get_or place' a 0) (get_or place' b 0)
    by a b la lb = rw (place_at a la, place_at b lb) (place_before (leaving g) a b)
