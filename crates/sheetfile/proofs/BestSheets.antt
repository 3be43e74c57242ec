-- The best sheets of a file's list can be written: their numbers have at most seven digits.
--   best_writable    P and a core number are at most 4,096,000, Q at most 512, a share at most 512,000, K at most 4,096,511
-- Assumes nothing.
use mathlib.Core.Path.{◌≡◌, refl, ap}
use mathlib.Core.Bool.{true}
use mathlib.Core.List.{List, [], ◌∷◌}
use Prim.Native.Nat.{ℕ, zero, suc, ◌+◌, ◌-◌, ◌≤◌}
use native.Mathlib.Omega.{arith}
use native.Mathlib.Nat.{div-le_self, mul-le-mul_right}
use lib.ListN.{length}
use Rattle.theory.specs.Basics.{all, table}
use Rattle.theory.specs.Lists.{Pair, Pairs, weight_in_range}
use Rattle.theory.specs.Groups.{size}
use Rattle.theory.specs.Cores.{core, core_number, core_numbers}
use Rattle.theory.specs.Splits.{units, shares_good, is_split, rounded_up}
use Rattle.theory.specs.Promise.{Optimal}
use Rattle.theory.proofs.Tests.{tests, no}
use Rattle.theory.proofs.Lists.{listed}
use Rattle.theory.proofs.Bounds.{total_bound, inside_bound, size_bound, size_le_length, core_number_le}
use Rattle.theory.proofs.Cores.{core_bits}
use Rattle.lines.specs.Outcomes.{taken}
use Rattle.pairfile.specs.File.{group_list}
use Rattle.pairfile.proofs.Grouped.{group_listed}
use Rattle.sheetfile.specs.Sheet.{Sheet}
use Rattle.sheetfile.specs.Writer.{seven_digits, Writable}

-- a share is at most 1,000 times Q
shares_digits : (q : ℕ) (ps : List Pair) (xs : List ℕ) → q ≤ 512 → all weight_in_range ps ≡ true → shares_good q ps xs ≡ true →
    (length xs ≡ length ps) × seven_digits xs
unfolding weight_in_range all shares_good units seven_digits
shares_digits q [] [] l o e = (refl, refl)
shares_digits q [] (x ∷ xs) l o e = no e
shares_digits q (p ∷ ps) [] l o e = no e
shares_digits q (p ∷ ps) (x ∷ xs) l o e =
    let a = simp tests at o in
    let b = simp tests at e in
    let rest = shares_digits q ps xs l a.1 b.1 in
    (ap suc rest.0, simp tests (omega (arith, b.0, mul-le-mul_right q a.0.1), rest.1))

table_digits : (n : ℕ) (f : ℕ → ℕ) → ((i : ℕ) → f i ≤ 9999999) → seven_digits (table n f)
unfolding seven_digits table all
table_digits zero f h = refl
table_digits (suc n) f h = simp tests (h 0, table_digits n (λ i. f (suc i)) (λ i. h (suc i)))

pub best_writable : (file : List ℕ) (g : Pairs) (s : Sheet) → group_list file ≡ taken g →
    Optimal g s.members s.shares s.p s.q → s.k ≡ rounded_up s.p s.q → s.coresize ≡ size (core g s.k) → Writable g s
unfolding is_split core_numbers rounded_up
best_writable file g s e o ek ec =
    let list = group_listed file g e in
    let l = listed g list in
    let p_few : s.p ≤ 4096000 = omega (arith, o.inside_count, inside_bound g s.members list) in
    let q_few : s.q ≤ 512 = omega (arith, o.modules, size_bound g s.members list o.is_a_group) in
    let split = simp tests at o.is_a_split in
    let shares = shares_digits s.q g.pairs s.shares q_few l.weights split.1 in
    let core_few : size (core g s.k) ≤ 512 =
    omega (arith, size_le_length (core g s.k) (core_bits g s.k).1, (core_bits g s.k).0, l.few) in
    record {
      group = o.is_a_group;
      members_size = o.modules;
      each_pair = shares.0;
      head_digits = (omega arith, omega (arith, ek, div-le_self (s.p + s.q - 1) s.q), omega (arith, ec));
      numbers_digits = table_digits g.n (core_number g) (λ v. omega (arith, core_number_le g v, total_bound g.pairs l.weights, l.short));
      shares_digits = shares.1;
    }
