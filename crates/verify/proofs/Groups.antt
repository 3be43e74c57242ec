-- A group counted: its size, then its inside count too, or refusal 7.
--   bad_bytes, no_member, sized    what the size comes to
--   is_size, no_size               what it says of the group
--   counted                        what the ratio comes to
--   is_ratio, no_ratio             what it says of the group
--   size_small, ratio_small        how large the numbers can be
--   sizes                          what the function that gives the size cites
-- Assumes nothing.
use mathlib.Core.Path.{◌≡◌, refl}
use mathlib.Core.Bool.{Bool, true, false, cond, and-false}
use mathlib.Core.List.{List}
use Prim.Native.Nat.{ℕ, ◌≤◌}
use native.Mathlib.Omega.{arith}
use lib.ListN.{length}
use Rattle.std.proofs.Common.{Result, Ok, Err}
use Rattle.theory.specs.Lists.{Pairs, is_list}
use Rattle.theory.specs.Groups.{is_group, inside, size, bytes_good}
use Rattle.theory.specs.Words.{list_in}
use Rattle.theory.proofs.Tests.{tests}
use Rattle.theory.proofs.Bounds.{inside_bound, size_bound}
use Rattle.refusals.specs.declared.Refusal.{Refusal}
use Rattle.refusals.specs.declared.Refusal.TheVariants.{BadMembers}
use Rattle.numbers.specs.declared.Ratio.{Ratio}
use Rattle.verify.specs.Counts.{size_of, ratio_of, IsSmall}

-- what a test lets through, or refusal 7: which of the two it is
is_ok : {A : Type 0} {w : A} (v : A) (b : Bool) → cond b (Ok v) (Err BadMembers) ≡ Ok w → (b ≡ true) × (w ≡ v)
is_ok v true e = (refl, cc)
is_ok v false e = cc

is_err : {A : Type 0} {x : Refusal} (v : A) (b : Bool) → cond {A = Result A Refusal} b (Ok v) (Err BadMembers) ≡ Err x → (b ≡ false) × (x ≡ BadMembers)
is_err v true e = cc
is_err v false e = (refl, cc)

module _ (g : Pairs) (s : List ℕ) where
  -- no group has no size
  no_group : is_group g s ≡ false → size_of g s ≡ Err BadMembers
  unfolding size_of
  no_group e = rw e

  -- a byte is above 1
  pub bad_bytes : bytes_good s ≡ false → size_of g s ≡ Err BadMembers
  bad_bytes e = no_group (unfold is_group in rw (e, and-false))

  -- all bytes are 0
  pub no_member : size s ≡ 0 → size_of g s ≡ Err BadMembers
  no_member e = no_group (unfold is_group in rw (e, and-false, and-false))

  -- where there is a size, it is that of a group
  pub is_size : (q : ℕ) → size_of g s ≡ Ok q → (is_group g s ≡ true) × (q ≡ size s)
  unfolding size_of
  is_size q e = is_ok (size s) (is_group g s) e

  -- where there is none, the bytes make no group
  pub no_size : (x : Refusal) → size_of g s ≡ Err x → (is_group g s ≡ false) × (x ≡ BadMembers)
  unfolding size_of
  no_size x e = is_err (size s) (is_group g s) e

  -- the inside count beside the size is the ratio
  pub counted : (p q : ℕ) → size_of g s ≡ Ok q → p ≡ inside g s → Ok (record { p = p; q = q }) ≡ ratio_of g s
  unfolding ratio_of
  counted p q e ep = let k = is_size q e in rw (k.0, ep, k.1)

  -- so with the ratio
  pub is_ratio : (r : Ratio) → ratio_of g s ≡ Ok r → (is_group g s ≡ true) × (r ≡ record { p = inside g s; q = size s })
  unfolding ratio_of
  is_ratio r e = is_ok (record { p = inside g s; q = size s }) (is_group g s) e

  pub no_ratio : (x : Refusal) → ratio_of g s ≡ Err x → (is_group g s ≡ false) × (x ≡ BadMembers)
  unfolding ratio_of
  no_ratio x e = is_err (record { p = inside g s; q = size s }) (is_group g s) e

  -- both numbers of a held list's group are small
  pub size_small : (q : ℕ) → is_list g ≡ true → size_of g s ≡ Ok q → q ≤ 512
  size_small q l e = let k = is_size q e in rw k.1 (size_bound g s l k.0)

  pub ratio_small : (r : Ratio) → is_list g ≡ true → ratio_of g s ≡ Ok r → IsSmall r
  ratio_small r l e = let k = is_ratio r e in rw k.1 (record { inside = inside_bound g s l; modules = size_bound g s l k.0 })

-- bytes of a list in words that are good, and not all 0, have a size
pub sized : (n m : ℕ) (es ws s : List ℕ) (q : ℕ) → length s ≡ n → bytes_good s ≡ true → (size s ≡ 0 → ⊥) → q ≡ size s →
    Ok q ≡ size_of (list_in n m es ws) s
unfolding size_of
sized n m es ws s q l b h eq =
    let e : is_group (list_in n m es ws) s ≡ true = unfold is_group list_in in simp tests (l, (b, omega (arith, h))) in
    rw (e, eq)

-- what the size of a group cites
pub ruleset sizes = (bad_bytes, no_member, sized)
