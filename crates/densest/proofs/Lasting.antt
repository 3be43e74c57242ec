-- Groups that leave last, as cores do.
--   first_start, first_next    a loop that looks for the place from which on members leave
--   last_pair                  whoever leaves from that place on is a member: so a pair is inside exactly if its first leaver is
-- Assumes nothing.
use Rattle.std.proofs.Common.{◌≡◌, ℕ, suc, ◌+◌, ◌<◌, ◌≤◌, Bool, true, false, ◌&&◌, cond, leb, min, max, List, length, get_or, sym, refl, ap, ⊎_elim, arith}
use borrow.Author.Tests.{leb-true, leb-false, le-leb, lt-leb}
use Rattle.std.proofs.lemmas.Bool.{cases_eq}
use Rattle.theory.specs.Lists.{Pair}
use Rattle.theory.specs.Groups.{is_in, holds_pair}
use Rattle.theory.proofs.Tests.{no}
use Rattle.densest.specs.Gather.{LastLeavers, FirstPlace}

-- ---- the place from which on members leave

pub first_start : (group place : List ℕ) → FirstPlace 0 group place 1024
first_start group place = record { most = omega arith; low = λ v b. absurd (omega arith); greatest = λ i small below. small }

-- module n counts with its place, or with 1,024 or more where it is no member
pub first_next : {n k : ℕ} {group place : List ℕ} (x : ℕ) → FirstPlace n group place k → x ≡ cond (is_in group n) 0 1024 →
    FirstPlace (n + 1) group place (min k (max (get_or place n 0) x))
first_next {n} {k} {group} {place} x f e = record {
  most = omega (arith, f.most);
  low = λ v b m. ⊎_elim
      (λ (z : v ≡ n). omega (arith, e, chosen (is_in group n) (rw (← z) m), ap {B = ℕ} (λ (u : ℕ). get_or place u 0) z))
      (λ ne. omega (arith, f.low v (omega arith) m))
      (cases_eq v n);
  greatest = λ i small below.
      omega (arith, f.greatest i small (λ v b. below v (omega arith)), e, greatest_next i small (is_in group n) (below n (omega arith)));
}
  where
    chosen : (b : Bool) → b ≡ true → ◌≡◌ {A = ℕ} (cond b 0 1024) 0
    chosen true m = refl
    chosen false m = no m

    greatest_next : (i : ℕ) → i ≤ 1024 → (b : Bool) → (b ≡ true → i ≤ get_or place n 0) → i ≤ max (get_or place n 0) (cond b 0 1024)
    greatest_next i small true h = omega (arith, h refl)
    greatest_next i small false h = omega (arith, small)

-- ---- members by places

-- both tests are the test of the lesser number
leb_both : (k x y : ℕ) → (leb k x && leb k y) ≡ leb k (min x y)
leb_both k x y = go (leb k x) (leb k y) refl refl
  where
    go : (s t : Bool) → leb k x ≡ s → leb k y ≡ t → (s && t) ≡ leb k (min x y)
    go true true a b = sym (le-leb k (min x y) (omega (arith, leb-true k x a, leb-true k y b)))
    go true false a b = sym (lt-leb k (min x y) (omega (arith, leb-false k y b)))
    go false t a b = sym (lt-leb k (min x y) (omega (arith, leb-false k x a)))

module _ {group place : List ℕ} {k : ℕ} (l : LastLeavers group place) (f : FirstPlace (length group) group place k) where
  last_member : (v : ℕ) → v < length group → is_in group v ≡ leb k (get_or place v 0)
  last_member v b = go (is_in group v) refl
    where
      go : (t : Bool) → is_in group v ≡ t → t ≡ leb k (get_or place v 0)
      go true e = sym (le-leb k (get_or place v 0) (f.low v b e))
      go false e =
          sym (lt-leb k (get_or place v 0) (omega (arith, f.greatest (suc (get_or place v 0)) (omega (arith, l.small v b)) (λ u c m. l.last v u b c e m))))

  pub last_pair : (p : Pair) → p.a < length group → p.b < length group → holds_pair group p ≡ leb k (min (get_or place p.a 0) (get_or place p.b 0))
  unfolding holds_pair
  last_pair p a b = rw (last_member p.a a, last_member p.b b) (leb_both k (get_or place p.a 0) (get_or place p.b 0))
