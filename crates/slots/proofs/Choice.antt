-- Numbers compared: one case or the other.
--   eq_or_ne, lt_or_le     equal or not; below or not (cases_eq and cases_lt of std)
--   cond_eq, cond_ne       a part that counts where two numbers are equal
--   stored_more            a list that is stored entry by entry
-- Assumes nothing.
use mathlib.Core.Path.{◌≡◌}
use mathlib.Core.Bool.{cond}
use mathlib.Core.List.{List}
use mathlib.Core.Logic.{◌⊎◌, ⊎_elim}
use Prim.Native.Nat.{ℕ, ◌+◌, ◌≤◌, ◌<◌}
use native.Mathlib.Omega.{arith}
use lib.Dec.{eqb}
use lib.ListN.{length, get_or, set}
use lib.Seq.{get_or-set_same, get_or-set_other}
use Rattle.std.proofs.lemmas.Bool.{cases_eq, cases_lt}
use borrow.Author.Tests.{eq-eqb, ne_eqb}

-- std's cases, as other crates cite them
pub eq_or_ne : (a b : ℕ) → (a ≡ b) ⊎ (a ≡ b → ⊥)
eq_or_ne = cases_eq

pub lt_or_le : (a b : ℕ) → (a < b) ⊎ (b ≤ a)
lt_or_le = cases_lt

pub cond_eq : (a b x : ℕ) → a ≡ b → cond (eqb a b) x 0 ≡ x
cond_eq a b x e = rw (eq-eqb a b e)

pub cond_ne : (a b x : ℕ) → (a ≡ b → ⊥) → cond (eqb a b) x 0 ≡ 0
cond_ne a b x e = rw (ne_eqb a b e)

-- what holds of each entry below i, and of the one stored at i, holds of each below i + 1
pub stored_more : (P : ℕ → ℕ → Type 0) (xs : List ℕ) (i x : ℕ) → i < length xs → ((k : ℕ) → k < i → P k (get_or xs k 0)) → P i x →
    (k : ℕ) → k < i + 1 → P k (get_or (set xs i x) k 0)
stored_more P xs i x l h p k b =
    ⊎_elim
    (λ (e : k ≡ i). rw e (rw (get_or-set_same xs i x 0 l) p))
    (λ ne. rw (get_or-set_other xs i k x 0 ne) (h k (omega arith)))
    (cases_eq k i)
