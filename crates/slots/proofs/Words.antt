-- A held list as it lies in words, as slots want it.
--   few_modules, few_pairs    up to 512 modules and 4,096 pairs
--   GoodPair, good_pair      each pair: ends below n, smaller first, weight up to 1,000
--   list_weights, held_ends   its weights and its ends
--   inside_total              an inside count as a sum over the words
-- Assumes nothing.
use mathlib.Core.Path.{◌≡◌, refl}
use mathlib.Core.Bool.{Bool, true, cond}
use mathlib.Core.List.{List}
use Prim.Native.Nat.{ℕ, zero, suc, ◌+◌, ◌*◌, ◌≤◌, ◌<◌}
use native.Mathlib.Omega.{arith}
use lib.ListN.{length, get_or}
use Rattle.theory.specs.Basics.{table, all}
use Rattle.theory.specs.Lists.{Pair, ends_in_range, smaller_first, weight_in_range, is_list}
use Rattle.theory.specs.Groups.{holds_pair, inside_of, inside}
use Rattle.theory.specs.Words.{word_pair, pairs_in, list_in, HeldWords}
use Rattle.theory.proofs.Tests.{tests}
use Rattle.theory.proofs.Tables.{length_table}
use Rattle.theory.proofs.Lists.{Listed, listed}
use Rattle.slots.specs.Slots.{total, Ends}
use Rattle.slots.specs.Split.{Weights}
use Rattle.slots.proofs.Totals.{total_first}
use Rattle.slots.proofs.Mates.{by_pair}

-- a test of all entries of a table holds of each
all_at : {A : Type 0} (k : ℕ) (f : ℕ → A) (test : A → Bool) (j : ℕ) → all test (table k f) ≡ true → j < k → test (f j) ≡ true
unfolding all table
all_at zero f test j e h = absurd (omega arith)
all_at (suc k) f test zero e h = (simp tests at e).0
all_at (suc k) f test (suc j) e h = all_at k (λ i. f (suc i)) test j (simp tests at e).1 (omega arith)

-- what the rules say of pair j
pub record GoodPair (n : ℕ) (ends weights : List ℕ) (j : ℕ) : Type 0 where
  pub below : get_or ends (2 * j + 1) 0 < n
  pub first : get_or ends (2 * j) 0 < get_or ends (2 * j + 1) 0
  pub light : get_or weights j 0 ≤ 1000

module _ (n m : ℕ) (ends weights : List ℕ) (l : is_list (list_in n m ends weights) ≡ true) where
  rules : Listed (list_in n m ends weights)
  rules = listed (list_in n m ends weights) l

  pub few_modules : n ≤ 512
  unfolding list_in
  few_modules = rules.few

  pub few_pairs : m ≤ 4096
  unfolding list_in pairs_in
  few_pairs = omega (arith, rules.short, length_table m (word_pair ends weights))

  pub good_pair : (j : ℕ) → j < m → GoodPair n ends weights j
  unfolding list_in pairs_in word_pair ends_in_range smaller_first weight_in_range
  good_pair j h =
      let e = simp tests at (all_at m (word_pair ends weights) (ends_in_range n) j rules.ends h) in
      let f = simp tests at (all_at m (word_pair ends weights) smaller_first j rules.first h) in
      let w = simp tests at (all_at m (word_pair ends weights) weight_in_range j rules.weights h) in
      record { below = e.1; first = f; light = w.1 }

  pub list_weights : m ≤ length weights → Weights m weights
  list_weights long = record { long = long; small = λ j h. (good_pair j h).light }

-- the same of a held list
pub held_few : {n m : ℕ} {ends weights : List ℕ} → HeldWords n m ends weights → (n ≤ 512) × (m ≤ 4096)
held_few {n} {m} {ends} {weights} h = (few_modules n m ends weights h.listed, few_pairs n m ends weights h.listed)

pub held_ends : {n m : ℕ} {ends weights : List ℕ} → HeldWords n m ends weights → Ends n m ends
held_ends {n} {m} {ends} {weights} h =
    let pair : (j : ℕ) → j < m → GoodPair n ends weights j = good_pair n m ends weights h.listed in
    record {
      few = few_pairs n m ends weights h.listed;
      long = h.ends_long;
      below = by_pair m (λ s o. get_or ends s 0 < n) (λ j l. let w = pair j l in (omega arith, omega arith));
      apart = by_pair m (λ s o. get_or ends s 0 ≡ get_or ends o 0 → ⊥) (λ j l. let w = pair j l in ((λ e. omega arith), λ e. omega arith));
    }

inside_table : (m : ℕ) (h : ℕ → Pair) (t : List ℕ) → inside_of (table m h) t ≡ total m (λ j. cond (holds_pair t (h j)) (h j).w 0)
unfolding inside_of table total
inside_table zero h t = refl
inside_table (suc m) h t =
    omega (arith, inside_table m (λ j. h (suc j)) t, total_first m (λ j. cond (holds_pair t (h j)) (h j).w 0))

-- an inside count as a sum over the words
pub inside_total : (n m : ℕ) (ends weights t : List ℕ) →
    inside (list_in n m ends weights) t ≡ total m (λ j. cond (holds_pair t (word_pair ends weights j)) (get_or weights j 0) 0)
unfolding inside list_in pairs_in word_pair
inside_total n m ends weights t = inside_table m (word_pair ends weights) t
