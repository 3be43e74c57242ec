-- The loop that adds up loads.
--   Loading                                          a buffer has the loads of the first j pairs
--   loading_starts, loading_goes_on, loading_ends    at the start, in a turn, in the end
--   second_kept, loads                               and what else the loop cites
-- Assumes nothing.
use mathlib.Core.Path.{◌≡◌, refl}
use mathlib.Core.Bool.{cond}
use mathlib.Core.List.{List, [], ◌∷◌}
use Prim.Native.Nat.{ℕ, zero, suc, ◌+◌, ◌*◌, ◌-◌, ◌<◌}
use native.Mathlib.Numerals.{add-one}
use native.Mathlib.Omega.{arith}
use lib.Dec.{eqb, eqb-zero-suc, eqb-suc-zero, eqb-suc-suc}
use lib.ListN.{length, get_or, set, take, replicate, length-set, length-replicate}
use lib.Seq.{get_or-set_other}
use Rattle.std.proofs.lemmas.List.{take_all}
use Rattle.theory.specs.Basics.{table}
use Rattle.theory.specs.Splits.{units, received, load_of, load}
use Rattle.theory.specs.Words.{word_pair, pairs_in, list_in, HeldWords}
use Rattle.theory.proofs.Duality.{received_ends}
use Rattle.slots.specs.Rows.{first_end, second_end}
use Rattle.slots.proofs.Held.{zero_at}
use Rattle.slots.proofs.Words.{good_pair}
use Rattle.verify.proofs.Bounds.{load_next, ends_rise, few, units_small, share_within, loads_few}

-- adding x at a place adds x there and nothing elsewhere
set_adds : (ls : List ℕ) (a x v : ℕ) → a < length ls → get_or (set ls a (get_or ls a 0 + x)) v 0 ≡ get_or ls v 0 + cond (eqb a v) x 0
set_adds [] a x v h = absurd (omega arith)
set_adds (y ∷ ys) zero x zero h = refl
set_adds (y ∷ ys) zero x (suc v) h = simp eqb-zero-suc (omega arith)
set_adds (y ∷ ys) (suc a) x zero h = simp eqb-suc-zero (omega arith)
set_adds (y ∷ ys) (suc a) x (suc v) h = simp eqb-suc-suc (set_adds ys a x v (omega arith))

-- the buffer has the loads of the first j pairs
pub record Loading (es ws xs ls : List ℕ) (q j : ℕ) : Type 0 where
  pub long : length ls ≡ 512
  pub same : (v : ℕ) → get_or ls v 0 ≡ load_of q v (pairs_in j es ws) (take j xs)

pub loading_starts : (es ws xs : List ℕ) (q : ℕ) → Loading es ws xs (replicate 512 0) q 0
unfolding load_of pairs_in table
loading_starts es ws xs q = record { long = length-replicate {A = ℕ} 512 0; same = λ v. zero_at 512 v }

-- its second end is another place than its first
pub second_kept : (n m : ℕ) (es ws ls : List ℕ) (j a b x : ℕ) → HeldWords n m es ws → j < m → a ≡ first_end es j → b ≡ second_end es j →
    get_or (set ls a x) b 0 ≡ get_or ls b 0
second_kept n m es ws ls j a b x held h ea eb = get_or-set_other ls a b x 0 (let r = ends_rise n m es ws held j h in λ e. omega arith)

-- pair j gives its first end a the share, and its second end b the rest
pub loading_goes_on : (n m : ℕ) (es ws xs ls : List ℕ) (q j a b : ℕ) → HeldWords n m es ws → length xs ≡ m → j < m →
    a ≡ first_end es j → b ≡ second_end es j → Loading es ws xs ls q j →
    Loading es ws xs (set (set ls a (get_or ls a 0 + get_or xs j 0)) b
    (get_or (set ls a (get_or ls a 0 + get_or xs j 0)) b 0 + (get_or ws j 0 * q - get_or xs j 0))) q (j + 1)
unfolding pairs_in received units word_pair first_end second_end
loading_goes_on n m es ws xs ls q j a b held all h ea eb k =
    let ks = set ls a (get_or ls a 0 + get_or xs j 0) in
    let r = good_pair n m es ws held.listed j h in
    let modules = few n m es ws held in
    record {
      long = simp length-set k.long;
      same = λ v.
          rw add-one (omega (
            arith,
            rw (← ea, ← eb) at (load_next q v j (word_pair es ws) xs (omega arith)),
            k.same v,
            set_adds ls a (get_or xs j 0) v (omega (arith, k.long)),
            set_adds ks b (get_or ws j 0 * q - get_or xs j 0) v (simp length-set (omega (arith, k.long))),
            received_ends a b v (get_or xs j 0) (get_or ws j 0 * q - get_or xs j 0) (omega arith),
          ));
    }

pub loading_ends : (n m : ℕ) (es ws xs ls : List ℕ) (q : ℕ) → length xs ≡ m → Loading es ws xs ls q m →
    (v : ℕ) → get_or ls v 0 ≡ load (list_in n m es ws) q xs v
unfolding load list_in
loading_ends n m es ws xs ls q all k v = rw (take_all m xs (omega arith)) at (k.same v)

-- what the loop cites
pub ruleset loads = (few, units_small, share_within, loads_few, second_kept, loading_ends)
