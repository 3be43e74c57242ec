-- Kit of the list in the words, by the number that is given: 20, 21, or none where it is made.
--   no_kit                  beside a refusal: P and Q are 0, the member bytes as before
--   kit_refused, kit_done    the promise on words, where it is refused and where the kit is made
--   kit_keeps                what is promised of it then
--   in_range                 k where a kit is made
--   left_kit                 the work buffer after it
-- Assumes nothing.
use mathlib.Core.Path.{◌≡◌, sym, ap, ◌∙◌}
use mathlib.Core.Bool.{true}
use mathlib.Core.List.{List, ◌++◌}
use Prim.Native.Nat.{ℕ, ◌≤◌}
use native.Mathlib.Omega.{arith}
use lib.ListN.{length, take, drop}
use lib.Seq.{take_at}
use Rattle.std.proofs.Common.{Ok, Err}
use Rattle.theory.specs.Lists.{Pairs, is_list}
use Rattle.theory.specs.Refusals.{if_taken}
use Rattle.theory.specs.Kits.{kit, kit_number, KitPromise, KitPromised}
use Rattle.theory.specs.Words.{laid_list}
use Rattle.theory.proofs.Refusals.{if_taken_new, if_taken_old}
use Rattle.theory.proofs.Kits.{kit_promised, kit_length, good_least, by_number}
use Rattle.numbers.specs.declared.Ratio.{Ratio}
use Rattle.refusals.specs.declared.Refusal.{Refusal}
use Rattle.refusals.specs.Numbers.{number_of}
use Rattle.lines.proofs.Found.{numbered}
use Rattle.verify.specs.declared.Verdict.{Verdict}
use Rattle.verify.specs.Answers.{verdict_of}
use Rattle.kits.specs.Kits.{Kits}
use Rattle.records.specs.declared.Head.{Head}
use Rattle.on_words.specs.Buffers.{in_front, cleared, work_left}
use Rattle.on_words.specs.Kitting.{KitSays, KitOn}
use Rattle.on_words.proofs.Filling.{work_zeros}

-- beside a refusal
pub no_kit : (g : Pairs) (k : ℕ) (members : List ℕ) (e : Refusal) → KitSays g k members (verdict_of (Err e)) members
no_kit g k members e =
    let n = numbered e in
    record {
      p = sym (if_taken_old (number_of e) _ 0 n);
      q = sym (if_taken_old (number_of e) _ 0 n);
      members_are = sym (if_taken_old (number_of e) _ members n);
    }

-- where it is made
kit_says : (g : Pairs) (k : ℕ) {members members' : List ℕ} {r : Ratio} → Kits g k members members' r → KitSays g k members (verdict_of (Ok r)) members'
unfolding in_front if_taken
kit_says g k {members} p = record {
  p = p.p_is;
  q = p.q_is;
  members_are = p.members_are ∙ ap (λ (i : ℕ). kit g k ++ drop i members) (sym (kit_length g k));
}

module _ (h : Head) (k : ℕ) (members : List ℕ) {work work' : List ℕ} (left : work' ≡ cleared work) where
  pub kit_refused : (e : Refusal) → number_of e ≡ kit_number h.n h.m k → KitOn h k members work (verdict_of (Err e)) members work'
  kit_refused e n = record { number = n; says = no_kit _ k members e; left = left }

  pub kit_done : 0 ≡ kit_number h.n h.m k → {members' : List ℕ} {r : Ratio} → Kits (laid_list h.n h.m work) k members members' r →
      KitOn h k members work (verdict_of (Ok r)) members' work'
  kit_done n p = record { number = n; says = kit_says _ k p; left = left }

-- where a kit is made, k is from 1 to N
pub in_range : (n m k : ℕ) → kit_number n m k ≡ 0 → (1 ≤ k) × (k ≤ n)
in_range n m k z =
    by_number n m k (λ _ i. absurd (omega (arith, z, i))) (λ _ _ i. absurd (omega (arith, z, i))) (λ _ good _. good_least n m k good)

-- none of its numbers is 12 or 13
pub left_kit : (n m k : ℕ) {j : ℕ} (w : List ℕ) → j ≡ kit_number n m k → work_left j w ≡ cleared w
left_kit n m k {j} w e =
    by_number n m k (λ _ i. work_zeros j w (λ x. omega (arith, e, i, x)) (λ x. omega (arith, e, i, x)))
    (λ _ _ i. work_zeros j w (λ x. omega (arith, e, i, x)) (λ x. omega (arith, e, i, x)))
    (λ _ _ i. work_zeros j w (λ x. omega (arith, e, i, x)) (λ x. omega (arith, e, i, x)))

-- the kit's bytes are read back from the front, so of them holds what is promised of the kit
pub kit_keeps : (g : Pairs) (k : ℕ) → is_list g ≡ true → 1 ≤ k → k ≤ g.n → {members members' : List ℕ} {v : Verdict} →
    KitSays g k members v members' → v.number ≡ 0 → KitPromise g k (take g.n members') v.p v.q
unfolding KitPromised in_front
kit_keeps g k held some few {members} says z =
    let front = take_at (kit g k) (drop (length (kit g k)) members) g.n (kit_length g k) in
    let bytes = ap (take g.n) (says.members_are ∙ if_taken_new _ _ members z) ∙ front in
    rw (bytes, says.p ∙ if_taken_new _ _ 0 z, says.q ∙ if_taken_new _ _ 0 z) (kit_promised g k held some few)
