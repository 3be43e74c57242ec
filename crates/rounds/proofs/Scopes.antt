-- The scope of a round: the core of p over q rounded up.
--   marked_core                   bytes by core numbers are a core
--   found_reaches, found_in_core  some group's ratio is p over q or more: so is the found group's, and it lies in the core of that rounded up
--   reached_candidate             so p over q is a candidate, if p and q are small
--   found_ratio, dense_in_core    the found group's ratio is a candidate or more, and it lies in the core of it rounded up
-- Assumes nothing.
use Rattle.std.proofs.Common.{◌≡◌, ℕ, zero, suc, ◌*◌, ◌<◌, ◌≤◌, true, eqb, leb, List, length, get_or, sym, refl, ap, ◌∙◌, mul-le-mul_right, le_of_mul-le-mul_right, arith, ext_get_or}
use Rattle.theory.specs.Basics.{mark}
use Rattle.theory.specs.Lists.{Pairs, is_list}
use Rattle.theory.specs.Groups.{is_in, size, is_group, inside, at_most, Found, found_of}
use Rattle.theory.specs.Leaving.{degree}
use Rattle.theory.specs.Cores.{core}
use Rattle.theory.specs.Splits.{rounded_up}
use Rattle.theory.specs.Promise.{CoreMembers, FoundOutright}
use Rattle.theory.proofs.Tests.{tests}
use Rattle.theory.proofs.Groups.{Sub, group_bits, size_pos}
use Rattle.theory.proofs.Sums.{byte_le}
use Rattle.theory.proofs.Best.{found_outright}
use Rattle.theory.proofs.Cores.{good_in_core, core_bits, core_members, found_degree, round_le}
use Rattle.rounds.specs.Known.{Candidate, Cored}

-- a byte of at most 1 is the test that it is 1
byte_mark : (x : ℕ) → x ≤ 1 → x ≡ mark (eqb x 1)
unfolding mark
byte_mark zero h = refl
byte_mark (suc zero) h = refl
byte_mark (suc (suc x)) h = absurd (omega arith)

-- bytes by core numbers are a core
pub marked_core : (g : Pairs) (k : ℕ) (cores bytes : List ℕ) → is_list g ≡ true → Cored g cores → length bytes ≡ g.n →
    ((v : ℕ) → v < g.n → get_or bytes v 0 ≡ mark (leb k (get_or cores v 0))) → bytes ≡ core g k
unfolding is_in CoreMembers
marked_core g k cores bytes l cored long marked =
    let members = core g k in
    ext_get_or 0 bytes members (long ∙ sym (core_bits g k).0) (λ v b.
    let low : v < g.n = omega arith in
    marked v low
    ∙ ap (λ (x : ℕ). mark (leb k x)) (cored.numbers v low)
    ∙ ap mark (sym (core_members g k v l low))
    ∙ sym (byte_mark (get_or members v 0) (byte_le members v (core_bits g k).1)))

module _ (g : Pairs) (p q : ℕ) (t : List ℕ) (l : is_list g ≡ true) (pos : 0 < q) (group : is_group g t ≡ true) (dense : p * size t ≤ inside g t * q) where
  -- the found group's ratio is p over q or more
  pub found_reaches : (f : List ℕ) → Found g f → p * size f ≤ inside g f * q
  unfolding at_most
  found_reaches f ff =
      let best : inside g t * size f ≤ inside g f * size t = simp tests at (ff.greatest t group) in
      le_of_mul-le-mul_right (omega (arith, mul-le-mul_right q best, mul-le-mul_right (size f) dense)) (size_pos g t group)

  -- so it lies in the core of p over q rounded up
  pub found_in_core : (f : List ℕ) → Found g f → Sub f (core g (rounded_up p q))
  found_in_core f ff =
      good_in_core g (rounded_up p q) f (group_bits g f ff.group).0
      (λ v i.
      round_le p q (degree g f v) pos
      (le_of_mul-le-mul_right (omega (arith, found_reaches f ff, mul-le-mul_right q (found_degree g f v l ff i))) (size_pos g f ff.group)))

-- a ratio that some group reaches is one that the found group reaches
pub reached_candidate : (g : Pairs) (p q : ℕ) (t : List ℕ) → is_list g ≡ true → is_group g t ≡ true → p * size t ≤ inside g t * q → p ≤ 4096000 →
    1 ≤ q → q ≤ g.n → Candidate g p q
unfolding FoundOutright
reached_candidate g p q t l group dense few some small = record {
  reached = found_reaches g p q t l some group dense (found_of g) (found_outright g l);
  few = few;
  some = some;
  small = small;
}

module _ (g : Pairs) (p q : ℕ) (l : is_list g ≡ true) (c : Candidate g p q) where
  -- the found group's ratio is a candidate or more
  pub found_ratio : (f : List ℕ) → Found g f → p * size f ≤ inside g f * q
  unfolding FoundOutright
  found_ratio = found_reaches g p q (found_of g) l c.some (found_outright g l).group c.reached

  -- it lies in the core of that rounded up
  pub dense_in_core : (f : List ℕ) → Found g f → Sub f (core g (rounded_up p q))
  unfolding FoundOutright
  dense_in_core = found_in_core g p q (found_of g) l c.some (found_outright g l).group c.reached
