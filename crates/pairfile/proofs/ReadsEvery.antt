-- Every file of different pairs is taken: the pairs of its lines, put one by one into an empty list, make the list that it names.
--   line_two, line_count  a line of two different modules, and one with a stop count
--   Gathered, gathered    the list of the pairs that some lines name, with their counts
--   gathered_read         the file of these lines is taken as that list
--   GatheredOnes, gathered_ones    the list of these pairs, each counting once, whatever the lines count
--   read_every            the whole file
-- Assumes nothing.
use mathlib.Core.Path.{◌≡◌, refl, sym, ◌∙◌}
use mathlib.Core.Bool.{true, false}
use mathlib.Core.List.{List, [], ◌∷◌}
use Prim.Native.Nat.{ℕ, ◌≤◌, ◌<◌}
use native.Mathlib.Omega.{arith}
use borrow.Author.Tests.{eq-eqb}
use lib.ListN.{length}
use Rattle.theory.specs.Basics.{all, mark}
use Rattle.theory.specs.Lists.{Pair, Pairs, ends_in_range, weight_in_range}
use Rattle.theory.proofs.Tests.{tests, no}
use Rattle.pairs.specs.Held.{is_held, weight_of, insert_pair, smaller_first_pair, stops_of}
use Rattle.pairs.proofs.Order.{same_refl}
use Rattle.pairs.proofs.Changes.{insert_length, insert_all}
use Rattle.pairs.proofs.Keeps.{counts_once}
use Rattle.lines.specs.Outcomes.{taken}
use Rattle.pairfile.specs.File.{read_file, file_of}
use Rattle.pairfile.specs.Promise.{times_named, Names, stops_named, NamesStops, names_two, names_stops, Different}
use Rattle.pairfile.proofs.Names.{Kept, kept_none, kept_insert, kept_list, stops_mark, stops_more, mark_same}
use Rattle.pairfile.proofs.Names.{Ones, ones, ones_length, ones_once, ones_two, ones_named}
use Rattle.pairfile.proofs.ReadsBack.{read_back}

-- a line of two different modules
pub line_two : (n : ℕ) (l : Pair) → names_two n l ≡ true → (l.a < n) × (l.b < n) × (l.a ≡ l.b → ⊥)
unfolding names_two ends_in_range
line_two n l e =
    let e' = simp tests at e in
    (omega (arith, e'.0), omega (arith, e'.0), λ d. no (rw (eq-eqb l.a l.b d) at e'.1))

-- and one with a stop count
pub line_count : (n : ℕ) (l : Pair) → names_stops n l ≡ true → (names_two n l ≡ true) × ((1 ≤ l.w) × (l.w ≤ 1000))
unfolding names_stops weight_in_range
line_count n l e = simp tests at e

-- the list of the pairs that some lines name, with their counts
pub record Gathered (n : ℕ) (ls : List Pair) : Type 0 where
  pub pairs : List Pair
  pub kept : Kept n pairs
  pub size : length pairs ≡ length ls
  pub named : NamesStops ls pairs
  -- each of them counts once where each line does
  pub once : all counts_once ls ≡ true → all counts_once pairs ≡ true

-- one line more
module _ (n : ℕ) (l : Pair) (ls : List Pair) (fit : names_stops n l ≡ true) (once : Different (l ∷ ls)) (rest : Gathered n ls) where
  -- its pair is new
  line_new : is_held (smaller_first_pair l.a l.b) rest.pairs ≡ false
  unfolding Different Names times_named mark
  line_new =
      let p = smaller_first_pair l.a l.b in
      mark_same (is_held p rest.pairs) false (omega (arith, rw same_refl at (once p), rest.named.pairs p))

  line_more : Gathered n (l ∷ ls)
  unfolding Names times_named stops_named all counts_once stops_of
  line_more =
      let p = stops_of l.a l.b l.w in
      let c = line_count n l fit in
      record {
        pairs = insert_pair p rest.pairs;
        kept = kept_insert n l.a l.b l.w rest.pairs (line_two n l c.0) c.1 line_new rest.kept;
        size = omega (arith, insert_length p rest.pairs, rest.size);
        named = record {
          pairs = λ r. omega (arith, rest.named.pairs r, stops_mark r l.a l.b l.w rest.pairs line_new);
          stops = λ r. omega (arith, rest.named.stops r, stops_more r l.a l.b l.w rest.pairs line_new rest.kept.rises);
        };
        once = λ o. let o' = simp tests at o in insert_all counts_once p rest.pairs (simp tests o'.0) (rest.once o'.1);
      }

-- of different pairs there is such a list
pub gathered : (n : ℕ) (ls : List Pair) → all (names_stops n) ls ≡ true → Different ls → Gathered n ls
unfolding all Different Names times_named stops_named is_held weight_of mark
gathered n [] e d =
    record { pairs = []; kept = kept_none n; size = refl; named = record { pairs = λ r. refl; stops = λ r. refl }; once = λ o. refl }
gathered n (l ∷ ls) e d =
    let e' = simp tests at e in
    line_more n l ls e'.0 d (gathered n ls e'.1 (λ r. omega (arith, d r)))

-- the file of such lines is taken as that list
pub gathered_read : (room n : ℕ) (lines : List Pair) (t : Gathered n lines) → 1 ≤ n → n ≤ 512 → length lines ≤ 4096 → length lines ≤ room →
    read_file room (file_of n lines) ≡ taken (record { n = n; pairs = t.pairs })
gathered_read room n ls t low high short fits =
    let list = kept_list n t.pairs low high (omega (arith, t.size)) t.kept in
    read_back room (record { n = n; pairs = t.pairs }) ls list (omega (arith, t.size)) t.named

-- the list of the pairs that some lines name, each counting once
pub record GatheredOnes (n : ℕ) (ls : List Pair) : Type 0 where
  pub pairs : List Pair
  pub kept : Ones n pairs
  pub size : length pairs ≡ length ls
  pub named : Names ls pairs

pub gathered_ones : (n : ℕ) (ls : List Pair) → all (names_two n) ls ≡ true → Different ls → GatheredOnes n ls
unfolding Different Names
gathered_ones n ls e d =
    let t = gathered n (ones ls) (ones_two n ls e) (λ r. rw (ones_named r ls) (d r)) in
    record {
      pairs = t.pairs;
      kept = record { kept = t.kept; once = t.once (ones_once ls) };
      size = t.size ∙ ones_length ls;
      named = λ r. sym (ones_named r ls) ∙ t.named.pairs r;
    }

-- every file of different pairs is taken, as the list of exactly these pairs with these counts
pub read_every : (room n : ℕ) (lines : List Pair) → 1 ≤ n → n ≤ 512 → length lines ≤ 4096 → length lines ≤ room →
    all (names_stops n) lines ≡ true → Different lines →
    (g : Pairs) × (read_file room (file_of n lines) ≡ taken g) × (g.n ≡ n) × (length g.pairs ≡ length lines) × NamesStops lines g.pairs
read_every room n ls low high short fits two once =
    let t = gathered n ls two once in
    (record { n = n; pairs = t.pairs }, gathered_read room n ls t low high short fits, refl, t.size, t.named)
