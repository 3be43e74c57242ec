-- A list without pairs is turned down by 20, and no other is.
--   pairless, paired                  whether it holds no pair, by its M
--   pairless_then, paired_then        20, or the causes behind decide
--   by_pairs                          by whether M is 0
--   none_turned, some_served          the number given, where M is 0 and where it is not
--   served_some, turned_none          and back
--   zero_or_twenty                    no other number is given
--   judged_turned, judged_served      check's number: 20, or that of group and shares
-- Assumes nothing.
use mathlib.Core.Path.{◌≡◌}
use mathlib.Core.Bool.{true, false}
use mathlib.Core.List.{List, [], ◌++◌}
use Prim.Native.Nat.{ℕ, ◌≤◌}
use native.Mathlib.Omega.{arith}
use lib.Dec.{eqb}
use lib.ListN.{length}
use borrow.Author.Tests.{eqb-true, eqb-false, ne_eqb}
use Rattle.theory.specs.Refusals.{Cause, cause, refusal}
use Rattle.theory.specs.Lists.{Pairs}
use Rattle.theory.specs.Check.{check_causes, check_number}
use Rattle.theory.specs.Pairless.{no_pair, group_causes, group_number, judged_causes, judged_number}
use Rattle.theory.proofs.Tests.{by_test}

module _ (m : ℕ) where
  pub pairless : m ≡ 0 → no_pair m ≡ true
  unfolding no_pair
  pairless e = rw e

  pub paired : 1 ≤ m → no_pair m ≡ false
  unfolding no_pair
  paired l = ne_eqb m 0 (λ e. omega (arith, e, l))

  pub pairless_then : (rest : List Cause) → no_pair m ≡ true → refusal (group_causes m ++ rest) ≡ 20
  unfolding group_causes cause refusal
  pairless_then rest e = rw e

  pub paired_then : (rest : List Cause) → no_pair m ≡ false → refusal (group_causes m ++ rest) ≡ refusal rest
  unfolding group_causes cause refusal
  paired_then rest e = rw e

  pub none_turned : m ≡ 0 → group_number m ≡ 20
  unfolding group_number group_causes
  none_turned e = pairless_then [] (pairless e)

  pub some_served : 1 ≤ m → group_number m ≡ 0
  unfolding group_number group_causes refusal
  some_served l = paired_then [] (paired l)

  -- M is 0 or not
  pub by_pairs : {A : Type 0} → (m ≡ 0 → A) → (1 ≤ m → A) → A
  by_pairs none some = by_test (eqb m 0) (λ t. none (eqb-true m 0 t)) (λ t. some (omega (arith, eqb-false m 0 t)))

  pub served_some : group_number m ≡ 0 → 1 ≤ m
  served_some e = by_pairs (λ z. absurd (omega (arith, e, none_turned z))) (λ l. l)

  pub turned_none : group_number m ≡ 20 → m ≡ 0
  turned_none e = by_pairs (λ z. z) (λ l. absurd (omega (arith, e, some_served l)))

  pub zero_or_twenty : {k : ℕ} → group_number m ≡ k → (k ≡ 0 → ⊥) → k ≡ 20
  zero_or_twenty e n = by_pairs (λ z. omega (arith, e, none_turned z)) (λ l. absurd (n (omega (arith, e, some_served l))))

module _ (g : Pairs) (s xs : List ℕ) where
  pub judged_turned : no_pair (length g.pairs) ≡ true → judged_number g s xs ≡ 20
  unfolding judged_number judged_causes
  judged_turned e = pairless_then (length g.pairs) (check_causes g s xs) e

  pub judged_served : no_pair (length g.pairs) ≡ false → judged_number g s xs ≡ check_number g s xs
  unfolding judged_number judged_causes check_number
  judged_served e = paired_then (length g.pairs) (check_causes g s xs) e
