-- The set search's end and its measure.
--   none_above        some group reaches p over q, and no load is above p inside the core of that: the found group has no more
--   drained_found     and it is what does not drain
--   ratio_rises       ratios of groups that rise, rise by a whole number at n · n
-- Assumes nothing.
use Rattle.std.proofs.Common.{◌≡◌, ℕ, suc, ◌*◌, ◌/◌, ◌<◌, ◌≤◌, true, List, length, get_or, subst, mul-le-mul_right, mul-le-mul_left, le-div_iff_mul-le, div-mul-le_self, le_of_mul-le-mul_right, arith}
use Rattle.theory.specs.Lists.{Pairs, is_list}
use Rattle.theory.specs.Groups.{size, is_group, inside, at_most, within, Found, found_of}
use Rattle.theory.specs.Cores.{core}
use Rattle.theory.specs.Splits.{rounded_up}
use Rattle.theory.specs.Words.{list_in}
use Rattle.theory.specs.Promise.{FoundOutright}
use Rattle.theory.proofs.Tests.{tests}
use Rattle.theory.proofs.Groups.{size_pos, group_bits, bits_group, within_both, within_size}
use Rattle.theory.proofs.Best.{found_outright}
use Rattle.slots.specs.Slots.{slot_load, own_of}
use Rattle.slots.specs.Split.{Split}
use Rattle.flow.specs.Flow.{Largest}
use Rattle.rounds.proofs.Units.{own_none}
use Rattle.rounds.proofs.Answers.{none_denser, largest_set}
use Rattle.rounds.proofs.Scopes.{found_reaches, found_in_core}

-- s is a group of ratio p over q or more; no module has an own load
module _ (n m p q : ℕ) (own ends weights hold s : List ℕ) (l : is_list (list_in n m ends weights) ≡ true) (gs : is_group (list_in n m ends weights) s ≡ true)
    (reached : p * size s ≤ inside (list_in n m ends weights) s * q) (pq : 1 ≤ q) (none : (v : ℕ) → v < n → get_or own v 0 ≡ 0)
    (sp : Split m q ends weights (core (list_in n m ends weights) (rounded_up p q)) hold) (most : (v : ℕ) → v < n → slot_load m own ends hold v ≤ p) where
  abbrev g : Pairs
  g = list_in n m ends weights

  zero : (x : List ℕ) → length x ≡ n → own_of own x ≡ 0
  zero x e = own_none own x (λ v h. none v (omega arith))

  -- no found group has more than p over q
  pub none_above : (f : List ℕ) → Found g f → inside g f * q ≤ p * size f
  unfolding list_in
  none_above f ff =
      let lf : length f ≡ n = (group_bits g f ff.group).0 in
      omega (
        arith,
        none_denser n m p q own ends weights (core g (rounded_up p q)) hold sp most f lf (found_in_core g p q s l pq gs reached f ff),
        zero f lf,
      )

  -- the largest set that has as much is the found group
  pub drained_found : (t : List ℕ) → Largest n m p own (core g (rounded_up p q)) ends hold t → Found g t
  unfolding at_most list_in FoundOutright
  drained_found t d =
      let f = found_of g in
      let ff = found_outright g l in
      let lar = largest_set n m p q own ends weights (core g (rounded_up p q)) hold sp t d in
      let ge : p * size f ≤ inside g f * q = found_reaches g p q s l pq gs reached f ff in
      let ft : within f t ≡ true = lar.all f ff.group (found_in_core g p q s l pq gs reached f ff) (omega arith) in
      let gt : is_group g t ≡ true = bits_group g t (lar.long, lar.bytes) (omega (arith, within_size f t ft, size_pos g f ff.group)) in
      let le : inside g f * q ≤ p * size f = none_above f ff in
      let en : p * size t ≤ inside g t * q = omega (arith, lar.enough, zero t lar.long) in
      let tf : within t f ≡ true =
      ff.largest t gt (simp tests (le_of_mul-le-mul_right (omega (arith, mul-le-mul_right (size t) le, mul-le-mul_right (size f) en)) pq)) in
      subst (λ (x : List ℕ). Found g x) (within_both f t ft tf) ff

-- ratios of groups of at most n modules that rise, rise by a whole number at n · n
pub ratio_rises : (p q p' q' n : ℕ) → 0 < q → 0 < q' → q ≤ n → q' ≤ n → p * q' < p' * q → p * (n * n) / q < p' * (n * n) / q'
ratio_rises p q p' q' n a b c d h =
    let f = p * (n * n) / q in
    let fq : f * q ≤ p * (n * n) = div-mul-le_self (p * (n * n)) q in
    let qq : q * q' ≤ n * n = omega (arith, mul-le-mul_right q' c, mul-le-mul_left n d) in
    let up : suc (p * q') * (n * n) ≤ p' * q * (n * n) = mul-le-mul_right (n * n) h in
    let le : suc f * q' * q ≤ p' * (n * n) * q = omega (arith, mul-le-mul_right q' fq, qq, up) in
    (le-div_iff_mul-le {k = q'} {x = suc f} {y = p' * (n * n)} b).1 (le_of_mul-le-mul_right le a)
