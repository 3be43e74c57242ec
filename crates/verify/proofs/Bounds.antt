-- How large the numbers of a held list can be: at most 512 modules and 4,096 pairs, each of weight 1 to 1,000.
--   product_small            a size times an inside count
--   few                      its modules
--   ends_rise, units_small   a pair's ends, and its units
--   share_within             a share that is good is at most those
--   load_next, loads_few     the loads of the first pairs
-- Assumes nothing.
use mathlib.Core.Path.{◌≡◌}
use mathlib.Core.Bool.{Bool, true, false, cond}
use mathlib.Core.List.{List, [], ◌∷◌}
use Prim.Native.Nat.{ℕ, zero, suc, ◌+◌, ◌*◌, ◌-◌, ◌≤◌, ◌<◌}
use native.Mathlib.Nat.{mul-le-mul_right}
use native.Mathlib.Omega.{arith}
use lib.Dec.{eqb}
use lib.ListN.{length, get_or, take}
use Rattle.theory.specs.Basics.{table}
use Rattle.theory.specs.Lists.{Pair}
use Rattle.theory.specs.Splits.{units, received, shares_good, load_of}
use Rattle.theory.specs.Words.{word_pair, pairs_in, list_in, HeldWords}
use Rattle.theory.proofs.Tests.{tests, no}
use Rattle.slots.specs.Rows.{first_end, second_end}
use Rattle.slots.proofs.Words.{few_modules, few_pairs, good_pair}

-- each good share of a table of pairs is at most the pair's units
within_units : (q m : ℕ) (f : ℕ → Pair) (xs : List ℕ) (j : ℕ) → shares_good q (table m f) xs ≡ true → j < m → get_or xs j 0 ≤ units q (f j)
unfolding shares_good table
within_units q zero f xs j e h = absurd (omega arith)
within_units q (suc m) f [] j e h = no e
within_units q (suc m) f (x ∷ xs) zero e h = (simp tests at e).0
within_units q (suc m) f (x ∷ xs) (suc j) e h = within_units q m (λ i. f (suc i)) xs j (simp tests at e).1 (omega arith)

-- one pair more adds what the module receives of it
pub load_next : (q v j : ℕ) (f : ℕ → Pair) (xs : List ℕ) → j < length xs →
    load_of q v (table (suc j) f) (take (suc j) xs) ≡ load_of q v (table j f) (take j xs) + received q v (f j) (get_or xs j 0)
unfolding load_of table
load_next q v j f [] h = absurd (omega arith)
load_next q v zero f (x ∷ xs) h = omega arith
load_next q v (suc j) f (x ∷ xs) h = omega (arith, load_next q v j (λ i. f (suc i)) xs (omega arith))

-- a size times an inside count
pub product_small : (q p : ℕ) → q ≤ 512 → p ≤ 4096000 → q * p ≤ 2097152000
product_small q p h k = omega (arith, mul-le-mul_right p h)

module _ (n m : ℕ) (es ws : List ℕ) (held : HeldWords n m es ws) where
  -- its modules
  pub few : n ≤ 512
  few = few_modules n m es ws held.listed

  -- the ends of a pair
  pub ends_rise : (j : ℕ) → j < m → first_end es j < second_end es j
  unfolding first_end second_end
  ends_rise j h = (good_pair n m es ws held.listed j h).first

  -- a pair's units are at most 1,000 times 512
  pub units_small : (q j : ℕ) → q ≤ 512 → j < m → get_or ws j 0 * q ≤ 512000
  units_small q j small h = omega (arith, mul-le-mul_right q (good_pair n m es ws held.listed j h).light)

  module _ (q : ℕ) (xs : List ℕ) (good : shares_good q (list_in n m es ws).pairs xs ≡ true) where
    -- a good share is at most its pair's units
    pub share_within : (j : ℕ) → j < m → get_or xs j 0 ≤ get_or ws j 0 * q
    unfolding list_in pairs_in units word_pair
    share_within j h = within_units q m (word_pair es ws) xs j good h

    -- pair j gives a module at most its units
    adds_few : (j v : ℕ) → q ≤ 512 → j < m → received q v (word_pair es ws j) (get_or xs j 0) ≤ 512000
    unfolding received units word_pair
    adds_few j v small h =
        go (eqb (get_or es (2 * j) 0) v) (eqb (get_or es (2 * j + 1) 0) v) (share_within j h) (units_small q j small h)
      where
        go : (a b : Bool) → get_or xs j 0 ≤ get_or ws j 0 * q → get_or ws j 0 * q ≤ 512000 →
            cond a (get_or xs j 0) (cond b (get_or ws j 0 * q - get_or xs j 0) 0) ≤ 512000
        go true b s u = omega arith
        go false true s u = omega arith
        go false false s u = omega arith

    -- and so all of the first j pairs give it at most j times as many
    loads_upto : (j v : ℕ) → q ≤ 512 → length xs ≡ m → j ≤ m → load_of q v (pairs_in j es ws) (take j xs) ≤ 512000 * j
    unfolding load_of pairs_in table
    loads_upto zero v small all h = omega arith
    loads_upto (suc j) v small all h =
        omega (
          arith,
          load_next q v j (word_pair es ws) xs (omega arith),
          adds_few j v small (omega arith),
          loads_upto j v small all (omega arith),
        )

    -- no load is above 4,096 times 1,000 times 512
    pub loads_few : (j v : ℕ) → q ≤ 512 → length xs ≡ m → j ≤ m → load_of q v (pairs_in j es ws) (take j xs) ≤ 2097152000
    loads_few j v small all h = omega (arith, loads_upto j v small all h, few_pairs n m es ws held.listed)
