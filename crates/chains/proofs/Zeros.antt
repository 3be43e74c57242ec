-- How many numbers are 0.
--   is_zero, zero_not, zero_most    1 where a number is 0, else 0
--   zeros_all, zeros_most, zeros_upto    all of them; at most all; more numbers have no fewer
--   zeros_up, zeros_down            one is 0 no more; one becomes 0
--   zeros_next                      one place more
--   zeros_low                       fewer than all, where one is not 0
-- Assumes nothing.
use Rattle.std.proofs.Common.{◌≡◌, ℕ, zero, suc, ◌+◌, ◌<◌, ◌≤◌, cond, eqb, List, length, get_or, set, refl, ap, add-one, arith, get_or-set_other, get_or-set_same}
use Rattle.std.proofs.lemmas.Bool.Decides.{nat_tests}
use Rattle.slots.specs.Slots.{total}
use Rattle.slots.proofs.Totals.{total_ext, total_one, total_upto}
use Rattle.chains.specs.Search.{zeros}

-- 1 where x is 0
abbrev pub is_zero : ℕ → ℕ
is_zero x = cond (eqb x 0) 1 0

pub zero_not : (x : ℕ) → 0 < x → is_zero x ≡ 0
zero_not x h = grind (arith, nat_tests)

pub zero_most : (x : ℕ) → is_zero x ≤ 1
zero_most x = grind (arith, nat_tests)

pub zeros_all : (n : ℕ) (xs : List ℕ) → ((v : ℕ) → v < n → get_or xs v 0 ≡ 0) → zeros n xs ≡ n
unfolding zeros total
zeros_all zero xs h = refl
zeros_all (suc n) xs h = omega (arith, zeros_all n xs (λ v l. h v (omega arith)), ap is_zero (h n (omega arith)))

pub zeros_most : (n : ℕ) (xs : List ℕ) → zeros n xs ≤ n
unfolding zeros total
zeros_most zero xs = omega arith
zeros_most (suc n) xs = omega (arith, zeros_most n xs, zero_most (get_or xs n 0))

-- more numbers have no fewer
pub zeros_upto : (k n : ℕ) (xs : List ℕ) → k ≤ n → zeros k xs ≤ zeros n xs
unfolding zeros
zeros_upto k n xs h = total_upto k n (λ v. is_zero (get_or xs v 0)) h

-- one number is stored
zeros_set : (n v x : ℕ) (xs : List ℕ) → v < n → v < length xs → zeros n (set xs v x) + is_zero (get_or xs v 0) ≡ zeros n xs + is_zero x
unfolding zeros
zeros_set n v x xs l h =
    omega (
      arith,
      total_one n v (λ u. is_zero (get_or (set xs v x) u 0)) (λ u. is_zero (get_or xs u 0)) l (λ j b ne. ap is_zero (get_or-set_other xs v j x 0 ne)),
      ap is_zero (get_or-set_same xs v x 0 h),
    )

pub zeros_up : (n v x : ℕ) (xs : List ℕ) → v < n → v < length xs → get_or xs v 0 ≡ 0 → 0 < x → zeros n (set xs v x) + 1 ≡ zeros n xs
zeros_up n v x xs l h z p = omega (arith, zeros_set n v x xs l h, ap is_zero z, zero_not x p)

pub zeros_down : (n v : ℕ) (xs : List ℕ) → v < n → v < length xs → 0 < get_or xs v 0 → zeros n (set xs v 0) ≡ zeros n xs + 1
zeros_down n v xs l h p = omega (arith, zeros_set n v 0 xs l h, zero_not (get_or xs v 0) p)

-- some, where one is 0
pub zeros_some : (n v : ℕ) (xs : List ℕ) → v < n → v < length xs → get_or xs v 0 ≡ 0 → 0 < zeros n xs
zeros_some n v xs l h z = omega (arith, zeros_up n v 1 xs l h z (omega arith))

-- fewer than all, where one is not 0
pub zeros_low : (n v : ℕ) (xs : List ℕ) → v < n → v < length xs → 0 < get_or xs v 0 → zeros n xs < n
zeros_low n v xs l h p = omega (arith, zeros_down n v xs l h p, zeros_most n (set xs v 0))

-- the first v numbers, and one stored after them
pub zeros_next : (v x : ℕ) (xs : List ℕ) → v < length xs → zeros (v + 1) (set xs v x) ≡ is_zero x + zeros v xs
unfolding zeros total
zeros_next v x xs h =
    rw (add-one, get_or-set_same xs v x 0 h)
    (ap (λ (z : ℕ). is_zero x + z)
    (total_ext v (λ u. is_zero (get_or (set xs v x) u 0)) (λ u. is_zero (get_or xs u 0))
    (λ j b. ap is_zero (get_or-set_other xs v j x 0 (λ e. omega arith)))))
