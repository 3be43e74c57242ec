-- The test of the held records, one record at a time, is the test of the list.
--   good_next, good_fails, good_done    a record that is good, one that is not, and the end
--   searched_records    a search by the records' numbers answers the pair's place
--   number_before    two numbers as one compare as by first and then second
--   agrees_by        what the test says of a head and its records is `agrees`
--   agrees_short     where M records are not there, head and list disagree
--   agrees_count     where head and list agree, M records are there, and they are few
-- Assumes nothing.
use mathlib.Core.Path.{◌≡◌, refl, sym, ap, ◌∙◌}
use mathlib.Core.Bool.{true, false, ◌&&◌, ◌||◌}
use mathlib.Core.List.{List, [], ◌∷◌}
use Prim.Native.Nat.{ℕ, zero, suc, ◌+◌, ◌*◌, ◌≤◌, ◌<◌}
use native.Mathlib.Omega.{arith}
use native.Mathlib.Numerals.{add-one}
use lib.Dec.{leb, ltb, eqb}
use lib.ListN.{length, get_or, take, drop, length-map, drop_of_length-le}
use lib.Seq.{length-take-le, drop-cons}
use Rattle.std.specs.Prelude.{Result}
use Rattle.std.specs.Cmp.{both_ways}
use Rattle.std.proofs.lemmas.List.{get_or-map}
use Rattle.std.specs.List.Sorted.{IsBinarySearchResult, IsSearchInRange}
use Rattle.theory.specs.Basics.{all}
use Rattle.theory.specs.Lists as Lists
use Rattle.theory.specs.Lists.{pair, ends_in_range, smaller_first, weight_in_range, stands_before, before_first, rising, size_in_range, is_list}
use borrow.Author.Tests.{lt-ltb, lt-leb, leb-true, leb-false}
use Rattle.theory.proofs.Tests.{tests, or_left, by_test}
use Rattle.pairs.specs.Located.{place_in, located}
use Rattle.pairs.proofs.Order.{before_iff}
use Rattle.pairs.proofs.Finding.{compared, searched}
use Rattle.records.specs.Records.{as_pair, as_pairs, blank, held_list, agrees}
use Rattle.records.specs.Scan.{may_follow, good_after}
use Rattle.records.specs.declared.Pair.{Pair}
use Rattle.records.specs.declared.Head.{Head}

-- ---- one record after the other
module _ (n : ℕ) (last : Pair) (ps : List Pair) (i : ℕ) (l : i < length ps) where
  abbrev next : Pair
  next = get_or ps i blank

  -- a record is tested
  tested : good_after n last (drop i ps) ≡ (may_follow n last next && good_after n next (drop (i + 1) ps))
  unfolding good_after
  tested = rw (drop-cons ps i blank l, add-one)

  pub good_next : may_follow n last next ≡ true → good_after n next (drop (i + 1) ps) ≡ good_after n last (drop i ps)
  good_next e = rw e at (sym tested)

  pub good_fails : may_follow n last next ≡ false → good_after n last (drop i ps) ≡ false
  good_fails e = rw e at tested

pub good_done : (n : ℕ) (last : Pair) (ps : List Pair) (i : ℕ) → length ps ≤ i → good_after n last (drop i ps) ≡ true
unfolding good_after
good_done n last ps i l = rw (drop_of_length-le ps l)

-- ---- all of them

-- two numbers as one, the second below 65,536, compare as by first and then second
pub number_before : (p r : Lists.Pair) → p.b < 65536 → r.b < 65536 → ltb (65536 * p.a + p.b) (65536 * r.a + r.b) ≡ stands_before p r
number_before p r h l =
    both_ways _ _
    (λ e. let k = simp tests at e in simp before_iff (omega (arith, k, h, l), λ m. omega (arith, k, h, l)))
    (λ e.
    let k = simp before_iff at e in
    simp tests (by_test (leb r.a p.a) (λ t. omega (arith, k.0, k.1 (leb-true r.a p.a t))) (λ t. omega (arith, leb-false r.a p.a t, h))))

-- what is known of records that are good, and rise after `last`
record Good (n : ℕ) (last : Pair) (ps : List Pair) : Type 0 where
  ends : all (ends_in_range n) (as_pairs ps) ≡ true
  first : all smaller_first (as_pairs ps) ≡ true
  counted : all weight_in_range (as_pairs ps) ≡ true
  next : before_first (as_pair last) (as_pairs ps) ≡ true
  rises : rising (as_pairs ps) ≡ true

known_good : (n : ℕ) (last : Pair) (ps : List Pair) → good_after n last ps ≡ true → Good n last ps
unfolding good_after may_follow as_pairs as_pair all before_first rising ends_in_range smaller_first
known_good n last [] e = record { ends = refl; first = refl; counted = refl; next = refl; rises = refl }
known_good n last (p ∷ ps) e =
    let k = simp tests at e in
    let g = known_good n p ps k.1 in
    record {
      ends = simp tests ((omega (arith, k.0.0, k.0.1.0), k.0.0), g.ends);
      first = simp tests (k.0.1.0, g.first);
      counted = simp tests (k.0.1.1.0, g.counted);
      next = k.0.1.1.1;
      rises = simp tests (g.next, g.rises);
    }

good_known : (n : ℕ) (last : Pair) (ps : List Pair) → Good n last ps → good_after n last ps ≡ true
unfolding good_after may_follow as_pairs as_pair all before_first rising ends_in_range smaller_first
good_known n last [] g = refl
good_known n last (p ∷ ps) g =
    let e = simp tests at g.ends in
    let f = simp tests at g.first in
    let w = simp tests at g.counted in
    let r = simp tests at g.rises in
    simp tests (
      (e.0.1, (f.0, (w.0, g.next))),
      good_known n p ps (record { ends = e.1; first = f.1; counted = w.1; next = r.0; rises = r.1 }),
    )

-- 0,0,0 stands before every record whose smaller number is first
zero_before : (ps : List Pair) → all smaller_first (as_pairs ps) ≡ true → before_first (as_pair blank) (as_pairs ps) ≡ true
unfolding as_pairs as_pair all smaller_first before_first stands_before
zero_before [] e = refl
zero_before (p ∷ ps) e = let l : p.a < p.b = (simp tests at e).0 in go p.a p.b l
  where
    go : (a b : ℕ) → a < b → (ltb 0 a || (eqb 0 a && ltb 0 b)) ≡ true
    go zero b l = simp tests (refl, l)
    go (suc a) b l = or_left _ _ (lt-ltb 0 (suc a) (omega arith))

module _ (h : Head) (ps : List Pair) where
  abbrev held : List Pair
  held = take h.m ps

  -- the head's numbers and the records' test
  pub agrees_by : h.m ≤ length ps → (((leb 1 h.n && leb h.n 512) && leb h.m 4096) && good_after h.n blank held) ≡ agrees h ps
  unfolding agrees held_list is_list size_in_range as_pairs
  agrees_by there =
      let long : length (as_pairs held) ≡ h.m = length-map held as_pair ∙ length-take-le h.m ps there in
      both_ways _ _
      (λ e.
      let k = simp tests at e in
      let g = known_good h.n blank held k.1 in
      simp tests (there, ((k.0.0, omega (arith, k.0.1, long)), (g.ends, (g.first, (g.counted, g.rises))))))
      (λ e.
      let k = (simp tests at e).1 in
      let next = zero_before held k.1.1.0 in
      let good : Good h.n blank held = record { ends = k.1.0; first = k.1.1.0; counted = k.1.1.1.0; next = next; rises = k.1.1.1.1 } in
      simp tests ((k.0.0, omega (arith, k.0.1, long)), good_known h.n blank held good))

  pub agrees_short : length ps < h.m → agrees h ps ≡ false
  unfolding agrees
  agrees_short l = rw (lt-leb h.m (length ps) l)

  -- where head and list agree, M is at most the list's length and at most 4,096
  pub agrees_count : agrees h ps ≡ true → (h.m ≤ length ps) × (h.m ≤ 4096)
  unfolding agrees held_list is_list size_in_range as_pairs
  agrees_count e =
      let k = simp tests at e in
      (k.0, omega (arith, k.1.0.1, length-map held as_pair, length-take-le h.m ps k.0))

-- a search by the records' numbers answers the pair's place
pub searched_records : (p : Lists.Pair) (ps : List Pair) (r : Result ℕ ℕ) → rising (as_pairs ps) ≡ true → IsSearchInRange r (length ps) →
    IsBinarySearchResult (compared (λ q. q.a) (λ q. q.b) p) ps r → place_in r ≡ located p (as_pairs ps)
unfolding as_pair as_pairs
searched_records p ps r up =
    searched (λ q. q.a) (λ q. q.b) ps blank p (as_pairs ps) (sym (length-map ps as_pair))
    (λ i d l.
    let e = sym (get_or-map as_pair ps i d (pair 0 0) l) in
    (ap (λ (q : Lists.Pair). q.a) e, ap (λ (q : Lists.Pair). q.b) e)) up r
