-- Lists in words fit records.
--   list_fits       those of a list do
--   freed_pair, freed_fits    and those of a list with the record that remove frees behind them
-- Assumes nothing.
use mathlib.Core.Path.{◌≡◌, refl, ap}
use mathlib.Core.Bool.{Bool, true, ◌&&◌}
use mathlib.Core.List.{List, [], ◌∷◌, ◌++◌}
use Prim.Native.Nat.{ℕ, zero, suc, ◌≤◌, ◌<◌}
use native.Mathlib.Omega.{arith}
use lib.Dec.{leb}
use lib.ListN.{length, get_or}
use Rattle.theory.specs.Basics.{all}
use Rattle.theory.specs.Lists.{Pair, Pairs, pair, ends_in_range, weight_in_range, is_list}
use Rattle.theory.specs.Words.{laid_pairs}
use Rattle.theory.proofs.Lists.{listed}
use Rattle.theory.proofs.Tests.{tests}
use Rattle.theory.proofs.Words.{length_laid, laid_at}
use Rattle.records.specs.Records.{FitsRecords}

-- the record freed, as it lies in words
abbrev pub freed_pair : Pair
freed_pair = record { a = 0; b = 0; w = 0 }

-- both modules below n, and a count of at most 1,000
unfoldable is_small : (n : ℕ) → Pair → Bool
is_small n p = ends_in_range n p && leb p.w 1000

-- so are all pairs of a list
list_small : (n : ℕ) (ps : List Pair) → all (ends_in_range n) ps ≡ true → all weight_in_range ps ≡ true → all (is_small n) ps ≡ true
unfolding all is_small weight_in_range
list_small n [] e f = refl
list_small n (p ∷ ps) e f =
    let e' = simp tests at e in
    let f' = simp tests at f in
    simp tests ((e'.0, f'.0.1), list_small n ps e'.1 f'.1)

-- and the record freed behind them
freed_small : (n : ℕ) (ps : List Pair) → 1 ≤ n → all (is_small n) ps ≡ true → all (is_small n) (ps ++ (freed_pair ∷ [])) ≡ true
unfolding all is_small ends_in_range
freed_small n [] h e = simp tests (((h, h), omega arith), refl)
freed_small n (p ∷ ps) h e = let e' = simp tests at e in simp tests (e'.0, freed_small n ps h e'.1)

small_fits : (n : ℕ) (ps : List Pair) (i : ℕ) → n ≤ 512 → all (is_small n) ps ≡ true → i < length ps →
    ((get_or ps i (pair 0 0)).a < 65536) × ((get_or ps i (pair 0 0)).b < 65536) × ((get_or ps i (pair 0 0)).w < 65536)
unfolding all is_small ends_in_range
small_fits n [] i few e l = absurd (omega arith)
small_fits n (p ∷ ps) zero few e l = let e' = simp tests at e in (omega (arith, e'.0.0.0), omega (arith, e'.0.0.1), omega (arith, e'.0.1))
small_fits n (p ∷ ps) (suc i) few e l = let e' = simp tests at e in small_fits n ps i few e'.1 (omega arith)

-- in words they fit records
words_fit : (n m : ℕ) (words : List ℕ) → n ≤ 512 → all (is_small n) (laid_pairs m words) ≡ true → FitsRecords m words
unfolding FitsRecords
words_fit n m words few e i h =
    let f = small_fits n (laid_pairs m words) i few e (omega (arith, length_laid m words)) in
    let p = laid_at m words i (pair 0 0) h in (
      omega (arith, f.0, ap (λ (q : Pair). q.a) p),
      omega (arith, f.1, ap (λ (q : Pair). q.b) p),
      omega (arith, f.2, ap (λ (q : Pair). q.w) p),
    )

-- so a list in words does
pub list_fits : (g : Pairs) (m : ℕ) (words : List ℕ) → is_list g ≡ true → laid_pairs m words ≡ g.pairs → FitsRecords m words
list_fits g m words e same =
    let l = listed g e in
    words_fit g.n m words l.few (rw same (list_small g.n g.pairs l.ends l.weights))

-- and with the record freed
pub freed_fits : (g : Pairs) (m : ℕ) (words : List ℕ) → is_list g ≡ true → laid_pairs m words ≡ g.pairs ++ (freed_pair ∷ []) → FitsRecords m words
freed_fits g m words e same =
    let l = listed g e in
    words_fit g.n m words l.few (rw same (freed_small g.n g.pairs l.some (list_small g.n g.pairs l.ends l.weights)))
