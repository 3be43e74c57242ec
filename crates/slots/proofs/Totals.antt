-- Sums of f 0, .., f (k − 1).
--   total_ext, total_le, total_lt     two sums, part by part
--   total_next, total_first           the last part, or the first, by itself
--   total_one                         two sums that differ at one place
--   total_part, total_some            a part is at most the sum; a sum above 0 has a part above 0
--   total_const, total_upto           at most k times the greatest part; a longer sum is no less
--   total_scale, total_pairs          a sum of products; two parts at a time
-- Assumes nothing.
use mathlib.Core.Path.{◌≡◌, refl, sym, ap}
use mathlib.Core.Logic.{⊎_elim}
use Prim.Native.Nat.{ℕ, zero, suc, ◌+◌, ◌*◌, ◌≤◌, ◌<◌}
use native.Mathlib.Omega.{arith}
use native.Mathlib.Numerals.{add-one}
use Rattle.std.proofs.lemmas.Bool.{cases_eq, cases_lt}
use Rattle.slots.specs.Slots.{total}

pub total_ext : (k : ℕ) (f h : ℕ → ℕ) → ((j : ℕ) → j < k → f j ≡ h j) → total k f ≡ total k h
unfolding total
total_ext zero f h e = refl
total_ext (suc k) f h e = omega (arith, e k (omega arith), total_ext k f h (λ j l. e j (omega arith)))

pub total_le : (k : ℕ) (f h : ℕ → ℕ) → ((j : ℕ) → j < k → f j ≤ h j) → total k f ≤ total k h
unfolding total
total_le zero f h e = omega arith
total_le (suc k) f h e = omega (arith, e k (omega arith), total_le k f h (λ j l. e j (omega arith)))

pub total_lt : (k i : ℕ) (f h : ℕ → ℕ) → ((j : ℕ) → j < k → f j ≤ h j) → i < k → f i < h i → total k f < total k h
unfolding total
total_lt zero i f h e l g = absurd (omega arith)
total_lt (suc k) i f h e l g =
    ⊎_elim
    (λ (z : i ≡ k). omega (arith, total_le k f h (λ j b. e j (omega arith)), ap f z, ap h z))
    (λ ne. omega (arith, e k (omega arith), total_lt k i f h (λ j b. e j (omega arith)) (omega arith) g))
    (cases_eq i k)

-- one part more
pub total_next : (k : ℕ) (f : ℕ → ℕ) → total (k + 1) f ≡ f k + total k f
unfolding total
total_next k f = rw add-one

-- the first part by itself
pub total_first : (k : ℕ) (f : ℕ → ℕ) → total (suc k) f ≡ f 0 + total k (λ j. f (suc j))
unfolding total
total_first zero f = refl
total_first (suc k) f = omega (arith, total_first k f)

-- two sums that differ at one place
pub total_one : (k i : ℕ) (f h : ℕ → ℕ) → i < k → ((j : ℕ) → j < k → (j ≡ i → ⊥) → f j ≡ h j) → total k f + h i ≡ total k h + f i
unfolding total
total_one zero i f h l e = absurd (omega arith)
total_one (suc k) i f h l e =
    ⊎_elim
    (λ (z : i ≡ k). rw z (omega (arith, total_ext k f h (λ j b. e j (omega arith) (λ n. omega arith)))))
    (λ ne. omega (arith, e k (omega arith) (λ n. ne (sym n)), total_one k i f h (omega arith) (λ j b n. e j (omega arith) n)))
    (cases_eq i k)

pub total_part : (k i : ℕ) (f : ℕ → ℕ) → i < k → f i ≤ total k f
unfolding total
total_part zero i f l = absurd (omega arith)
total_part (suc k) i f l =
    ⊎_elim (λ (z : i ≡ k). rw z (omega arith)) (λ ne. omega (arith, total_part k i f (omega arith))) (cases_eq i k)

-- a sum above 0 has a part above 0
pub total_some : (k : ℕ) (f : ℕ → ℕ) → 0 < total k f → (i : ℕ) × (i < k) × (0 < f i)
unfolding total
total_some zero f h = absurd (omega arith)
total_some (suc k) f h =
    ⊎_elim (λ l. (k, omega arith, l)) (λ l. let r = total_some k f (omega arith) in (r.0, omega arith, r.2)) (cases_lt 0 (f k))

pub total_const : (k c : ℕ) (f : ℕ → ℕ) → ((j : ℕ) → j < k → f j ≤ c) → total k f ≤ k * c
unfolding total
total_const zero c f e = omega arith
total_const (suc k) c f e = omega (arith, e k (omega arith), total_const k c f (λ j l. e j (omega arith)))

pub total_upto : (k m : ℕ) (f : ℕ → ℕ) → k ≤ m → total k f ≤ total m f
unfolding total
total_upto k zero f l = let z : k ≡ 0 = omega arith in rw z (omega arith)
total_upto k (suc m) f l =
    ⊎_elim (λ (z : k ≡ suc m). rw z (omega arith)) (λ ne. omega (arith, total_upto k m f (omega arith))) (cases_eq k (suc m))

pub total_scale : (k q : ℕ) (f : ℕ → ℕ) → total k (λ j. f j * q) ≡ total k f * q
unfolding total
total_scale zero q f = omega arith
total_scale (suc k) q f = omega (arith, total_scale k q f)

-- two parts at a time
pub total_pairs : (k : ℕ) (f : ℕ → ℕ) → total (2 * k) f ≡ total k (λ j. f (2 * j) + f (2 * j + 1))
unfolding total
total_pairs zero f = refl
total_pairs (suc k) f =
    let e : 2 * suc k ≡ suc (suc (2 * k)) = omega arith in
    let d : suc (2 * k) ≡ 2 * k + 1 = omega arith in
    rw e (omega (arith, total_pairs k f, ap f d))
