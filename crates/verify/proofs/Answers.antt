-- From what the steps found to what check and surplus answer.
--   refused_7, refused_8, refused_9, accepted    check's ways out
--   bad_first, bad_second, valued                surplus's
--   check_refuses, surplus_refuses               those that refuse, as sets
-- Assumes nothing.
use mathlib.Core.Path.{◌≡◌, sym}
use mathlib.Core.Bool.{true, false, and-false}
use mathlib.Core.List.{List}
use Prim.Native.Nat.{ℕ, suc, ◌*◌, ◌≤◌, ◌<◌}
use native.Mathlib.Omega.{arith}
use lib.Dec.{eqb-suc-zero}
use lib.IntN.{ℤ, pos, ◌-ℤ◌}
use borrow.Author.Tests.{le-leb, lt-leb}
use Rattle.std.proofs.Common.{Ok, Err}
use Rattle.theory.specs.Lists.{Pairs, is_list}
use Rattle.theory.specs.Splits.{shares_good, greatest_load}
use Rattle.theory.specs.Refusals.{cause, refusal, if_taken}
use Rattle.theory.specs.Check.{loads_good, check_causes, check_number}
use Rattle.theory.specs.Surplus.{surplus, surplus_causes, surplus_number}
use Rattle.theory.specs.Promise.{AcceptedOptimal, SurplusSigned}
use Rattle.theory.proofs.Duality.{accepted_optimal}
use Rattle.theory.proofs.Surplus.{surplus_signed}
use Rattle.refusals.specs.declared.Refusal.{Refusal}
use Rattle.refusals.specs.declared.Refusal.TheVariants.{BadMembers, ShareTooLarge, LoadTooLarge}
use Rattle.numbers.specs.declared.Ratio.{Ratio}
use Rattle.verify.specs.Counts.{size_of, ratio_of}
use Rattle.verify.specs.Answers.{refused_by, verdict_of, difference_of, CheckSays, SurplusSays}
use Rattle.verify.proofs.Groups.{is_size, no_size, is_ratio, size_small, ratio_small}

-- ---- check

module _ (g : Pairs) (s xs : List ℕ) where
  -- a refusal yields its number and no other value
  refused : (k : ℕ) → check_number g s xs ≡ suc k → CheckSays g s xs (refused_by (suc k))
  unfolding if_taken
  refused k e = record { number = sym e; p = rw (e, eqb-suc-zero); q = rw (e, eqb-suc-zero); optimal = λ z. absurd (omega arith) }

  -- the bytes make no group
  pub refused_7 : (x : Refusal) → size_of g s ≡ Err x → CheckSays g s xs (verdict_of (Err x))
  unfolding check_number check_causes refusal cause
  refused_7 x e = let k = no_size g s x e in rw k.1 (refused 6 (rw k.0))

  -- a share is above its pair's units
  pub refused_8 : (q : ℕ) → size_of g s ≡ Ok q → shares_good q g.pairs xs ≡ false → CheckSays g s xs (verdict_of (Err ShareTooLarge))
  unfolding check_number check_causes refusal cause
  refused_8 q e h = let k = is_size g s q e in refused 7 (rw (k.0, rw k.1 at h))

  module _ (r : Ratio) (e : ratio_of g s ≡ Ok r) where
    -- a load is above P
    pub refused_9 : shares_good r.q g.pairs xs ≡ true → r.p < greatest_load g r.q xs → CheckSays g s xs (verdict_of (Err LoadTooLarge))
    unfolding check_number check_causes refusal cause loads_good
    refused_9 h l = let k = is_ratio g s r e in refused 8 (rw (k.0, rw k.1 at h, lt-leb _ _ (rw k.1 at l)))

    -- none is: so group and split are best, demand 3
    pub accepted : is_list g ≡ true → shares_good r.q g.pairs xs ≡ true → greatest_load g r.q xs ≤ r.p → CheckSays g s xs (verdict_of (Ok r))
    unfolding check_number check_causes refusal cause loads_good if_taken AcceptedOptimal
    accepted held h l =
        let k = is_ratio g s r e in
        let z : check_number g s xs ≡ 0 = rw (k.0, rw k.1 at h, le-leb _ _ (rw k.1 at l)) in
        record { number = sym z; p = rw (z, k.1); q = rw (z, k.1); optimal = λ _. rw k.1 (accepted_optimal g s xs held z) }

-- ---- surplus

module _ (g : Pairs) (t s : List ℕ) where
  -- either set is no group
  bad : surplus_number g t s ≡ 7 → SurplusSays g t s (difference_of (Err BadMembers))
  unfolding if_taken
  bad e = record { number = sym e; value = rw e; signs = λ z. absurd (omega arith) }

  pub bad_first : (x : Refusal) → size_of g t ≡ Err x → SurplusSays g t s (difference_of (Err x))
  unfolding surplus_number surplus_causes refusal cause
  bad_first x e = let k = no_size g t x e in rw k.1 (bad (rw k.0))

  pub bad_second : (x : Refusal) → size_of g s ≡ Err x → SurplusSays g t s (difference_of (Err x))
  unfolding surplus_number surplus_causes refusal cause
  bad_second x e = let k = no_size g s x e in rw k.1 (bad (rw (k.0, and-false)))

  -- both are groups: the difference, and what its sign says
  pub valued : (a b : Ratio) → ratio_of g t ≡ Ok a → ratio_of g s ≡ Ok b →
      (v : ℤ) → v ≡ pos (b.q * a.p) -ℤ pos (b.p * a.q) → SurplusSays g t s (difference_of (Ok v))
  unfolding surplus_number surplus_causes refusal cause if_taken surplus SurplusSigned
  valued a b ea eb v ev =
      let i = is_ratio g t a ea in
      let j = is_ratio g s b eb in
      let z : surplus_number g t s ≡ 0 = rw (i.0, j.0) in
      let d : v ≡ surplus g t s = rw (i.1, j.1) at ev in
      record { number = sym z; value = rw z d; signs = λ _. rw d (surplus_signed g t s) }

-- what check and surplus cite where they refuse
pub ruleset check_refuses = (refused_7, refused_8, refused_9, size_small)

pub ruleset surplus_refuses = (bad_first, bad_second, ratio_small)
