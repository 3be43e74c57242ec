-- The kit: what it is, and that three times its ratio reaches every group with at least k modules.
--   inside_sub                a set within another has no more stops inside
--   degrees_twice             the degrees of a set's members add up to twice its inside count (the handshake lemma)
--   leaver_half               so the leaver carries at most twice the ratio of the modules present
--   falls_light               down to k modules, no leaver carries more than twice the kit's ratio
--   left_light                so a group loses at most that with each of its members, as the leaving order takes them
--   kit_promised, kit_exact, kit_group, kit_within_three, kit_within_size    the statements
--   kit_length                a byte for each module
--   least_good, good_least, least_bad    k from 1 to N, or not
--   kit_pairless, kit_turned, kit_made, by_number    the number that is given: 20, 21, or none
-- Of the leaver it is used only that it is present and has the fewest: no tie rule matters.
-- Assumes nothing.
use mathlib.Core.Path.{◌≡◌, refl, sym, ap, ◌∙◌}
use mathlib.Core.Bool.{Bool, true, false, ◌&&◌, ◌||◌, cond}
use mathlib.Core.List.{List, [], ◌∷◌}
use Prim.Native.Nat.{ℕ, zero, suc, ◌+◌, ◌*◌, ◌-◌, ◌≤◌, ◌<◌}
use native.Mathlib.Omega.{arith}
use native.Mathlib.Nat.{mul-le-mul_left, mul-le-mul_right, le_of_mul-le-mul_right}
use mathlib.Core.Option.{some}
use lib.Dec.{eqb, leb}
use lib.ListN.{length, get_or, set}
use lib.Seq.{set-get_or}
use borrow.Author.Tests.{eqb-true, le-leb, not-false}
use Rattle.theory.specs.Lists.{Pairs, Pair, is_list}
use Rattle.theory.specs.Groups.{is_in, size, bytes_good, is_group, holds_pair, inside_of, inside, at_most}
use Rattle.theory.specs.Leaving.{joins, degree_of, degree, leaver, leaving, left_behind, remainder, leaving_degree}
use Rattle.theory.specs.Kits.{densest_upto, densest_remainder, kit, LeftOver, IsKit, KitExact, KitGroup, KitWithinThree, KitWithinSize, KitPromised}
use Rattle.theory.specs.Kits.{bad_least, kit_causes, kit_number}
use Rattle.theory.specs.Refusals.{cause, refusal}
use Rattle.theory.specs.Promise.{LeaverFewest}
use Rattle.theory.proofs.Tests.{tests, no, fails, by_test, cond_le}
use Rattle.theory.proofs.Sums.{over, over_ext, over_add, over_at, over_zero, byte_le, bit}
use Rattle.theory.proofs.Lists.{Proper, proper}
use Rattle.theory.proofs.Groups.{Bits, Sub, in_lt, group_bits, size_pos, in_leave, size_leave, good_leave}
use Rattle.theory.proofs.Cores.{degree_sub, sub_everyone, inside_leave}
use Rattle.theory.proofs.Leaving.{leaver_fewest}
use Rattle.theory.proofs.Remainders.{leaver_at, remainder_full, remainder_bytes, remainder_size, remainder_group, densest_le, densest_best, densest_larger}
use Rattle.theory.proofs.Pairless.{pairless, paired, pairless_then, paired_then, by_pairs}

-- ---- degrees and inside counts

-- a set within another has no more stops inside
inside_sub : (ps : List Pair) (s t : List ℕ) → Sub s t → inside_of ps s ≤ inside_of ps t
unfolding inside_of holds_pair
inside_sub [] s t h = omega arith
inside_sub (p ∷ ps) s t h =
    omega (
      arith,
      cond_le (is_in s p.a && is_in s p.b) (is_in t p.a && is_in t p.b) p.w
          (λ e. let e' = simp tests at e in simp tests (h p.a e'.0, h p.b e'.1)),
      inside_sub ps s t h,
    )

-- one pair, by whether m is its ends (ea, eb) and its ends are in the set (ua, ub): it counts at each end whose other end is there
joins_ends : (ea eb ua ub : Bool) (w : ℕ) → (ea ≡ true → eb ≡ true → ⊥) →
    cond ((ea && ub) || (eb && ua)) w 0 ≡ cond ea (cond ub w 0) 0 + cond eb (cond ua w 0) 0
joins_ends true true ua ub w n = absurd (n refl refl)
joins_ends true false ua true w n = omega arith
joins_ends true false ua false w n = omega arith
joins_ends false true ua ub w n = omega arith
joins_ends false false ua ub w n = omega arith

both_ends : (ua ub : Bool) (w : ℕ) → cond ua (cond ub w 0) 0 + cond ub (cond ua w 0) 0 ≡ 2 * cond (ua && ub) w 0
both_ends true true w = omega arith
both_ends true false w = omega arith
both_ends false true w = omega arith
both_ends false false w = omega arith

-- a pair inside a set counts at two members, any other at none
over_joins : (s : List ℕ) (p : Pair) → bytes_good s ≡ true → p.a < p.b →
    over s (λ m. cond (joins s m p) p.w 0) ≡ 2 * cond (holds_pair s p) p.w 0
unfolding joins holds_pair
over_joins s p b h =
    let first : ℕ = cond (is_in s p.b) p.w 0 in
    let second : ℕ = cond (is_in s p.a) p.w 0 in
    over_ext s _ _
    (λ m.
    joins_ends (eqb p.a m) (eqb p.b m) (is_in s p.a) (is_in s p.b) p.w
    (λ x y. omega (arith, eqb-true p.a m x, eqb-true p.b m y)))
    ∙ omega (
      arith,
      over_add s (λ m. cond (eqb p.a m) first 0) (λ m. cond (eqb p.b m) second 0),
      over_at s p.a first,
      over_at s p.b second,
      bit s p.a first b,
      bit s p.b second b,
      both_ends (is_in s p.a) (is_in s p.b) p.w,
    )

-- the degrees of a set's members add up to twice its inside count (the handshake lemma)
degrees_twice : (n : ℕ) (ps : List Pair) (s : List ℕ) → bytes_good s ≡ true → Proper n ps → over s (degree_of ps s) ≡ 2 * inside_of ps s
unfolding degree_of inside_of
degrees_twice n [] s b pr = over_zero s
degrees_twice n (p ∷ ps) s b pr =
    omega (
      arith,
      over_add s (λ m. cond (joins s m p) p.w 0) (degree_of ps s),
      over_joins s p b (pr.0.0),
      degrees_twice n ps s b (pr.1),
    )

-- what no member is below, as often as there are members
over_least : (s : List ℕ) (f : ℕ → ℕ) (c : ℕ) → bytes_good s ≡ true → ((m : ℕ) → is_in s m ≡ true → c ≤ f m) → size s * c ≤ over s f
unfolding over size bytes_good is_in
over_least [] f c b h = omega arith
over_least (zero ∷ xs) f c b h = omega (arith, over_least xs (λ m. f (suc m)) c (simp tests at b).1 (λ m. h (suc m)))
over_least (suc zero ∷ xs) f c b h =
    omega (arith, h 0 refl, over_least xs (λ m. f (suc m)) c (simp tests at b).1 (λ m. h (suc m)))
over_least (suc (suc x) ∷ xs) f c b h = absurd (omega (arith, (simp tests at b).0))

-- the leaver carries at most twice the ratio of the modules present
leaver_half : (g : Pairs) (s : List ℕ) (v : ℕ) → is_list g ≡ true → Bits g.n s → leaver g s ≡ some v →
    size s * degree g s v ≤ 2 * inside g s
unfolding LeaverFewest inside degree
leaver_half g s v l b f =
    omega (
      arith,
      over_least s (degree_of g.pairs s) (degree_of g.pairs s v) b.1
          (λ m i. (leaver_fewest g s v f).2 m (omega (arith, in_lt s m i, b.0)) i),
      degrees_twice g.n g.pairs s b.1 (proper g l),
    )

-- ---- a group, as the leaving order takes its members

left_good : (g : Pairs) (t : List ℕ) (i : ℕ) → bytes_good t ≡ true → bytes_good (left_behind (leaving g) t i) ≡ true
unfolding left_behind
left_good g t zero b = b
left_good g t (suc i) b = good_leave (left_behind (leaving g) t i) (get_or (leaving g) i 0) (left_good g t i b)

-- it is still present
left_sub : (g : Pairs) (t : List ℕ) (i : ℕ) → length t ≡ g.n → Sub (left_behind (leaving g) t i) (remainder g i)
unfolding left_behind remainder
left_sub g t zero l m e = sub_everyone g t l m e
left_sub g t (suc i) l m e =
    let v : ℕ = get_or (leaving g) i 0 in
    let e' = simp tests at (sym (in_leave (left_behind (leaving g) t i) v m) ∙ e) in
    in_leave (remainder g i) v m ∙ simp tests (left_sub g t i l m e'.0, e'.1)

-- who is no member leaves nothing behind
out_same : (s : List ℕ) (v : ℕ) → bytes_good s ≡ true → is_in s v ≡ false → set s v 0 ≡ s
unfolding is_in
out_same s v b e = go (get_or s v 0) refl (byte_le s v b)
  where
    go : (x : ℕ) → get_or s v 0 ≡ x → x ≤ 1 → set s v 0 ≡ s
    go zero d h = ap (λ (y : ℕ). set s v y) (sym d) ∙ set-get_or s v 0
    go (suc zero) d h = no (sym (rw d at e))
    go (suc (suc x)) d h = absurd (omega arith)

-- v leaves r, and s in it: where what v carries, c times, is at most d, s loses at most d, over c, with a member
leave_light : (g : Pairs) (s r : List ℕ) (v c d : ℕ) → is_list g ≡ true → bytes_good s ≡ true → Sub s r → c * degree g r v ≤ d →
    c * inside g s + d * size (set s v 0) ≤ c * inside g (set s v 0) + d * size s
unfolding inside
leave_light g s r v c d l b sub light = go (is_in s v) refl
  where
    go : (t : Bool) → is_in s v ≡ t → c * inside g s + d * size (set s v 0) ≤ c * inside g (set s v 0) + d * size s
    go true e =
        let falls : inside g (set s v 0) + degree g s v ≡ inside g s =
        unfold degree in inside_leave g.n g.pairs s v (proper g l) e in
        omega (
          arith,
          ap (λ (z : ℕ). c * z) falls,
          ap (λ (z : ℕ). d * z) (size_leave s v e),
          mul-le-mul_left c (degree_sub g s r v sub),
        )
    go false e = rw (out_same s v b e) (omega arith)

-- ---- the kit

module _ (g : Pairs) (k : ℕ) (pos : 1 ≤ k) (few : k ≤ g.n) where
  kit_at : densest_remainder g k ≤ g.n - k
  unfolding densest_remainder
  kit_at = densest_le g (g.n - k)

  kit_size : size (kit g k) + densest_remainder g k ≡ g.n
  unfolding kit
  kit_size = remainder_size g (densest_remainder g k) (omega (arith, kit_at))

  group : is_group g (kit g k) ≡ true
  unfolding kit
  group = remainder_group g (densest_remainder g k) (omega (arith, kit_at))

  kit_best : (i : ℕ) → i + k ≤ g.n → inside g (remainder g i) * size (kit g k) ≤ inside g (kit g k) * size (remainder g i)
  unfolding kit densest_remainder at_most
  kit_best i l = simp tests at (densest_best g (g.n - k) (omega arith) i (omega arith))

  module _ (h : is_list g ≡ true) where
    -- down to k modules no leaver carries more than twice the kit's ratio
    falls_light : (i : ℕ) → i + k ≤ g.n → size (kit g k) * leaving_degree g i ≤ 2 * inside g (kit g k)
    unfolding leaving_degree
    falls_light i l =
        let r : List ℕ = remainder g i in
        let d : ℕ = degree g r (get_or (leaving g) i 0) in
        let half : size r * d ≤ 2 * inside g r =
        leaver_half g r (get_or (leaving g) i 0) h (remainder_full g i (omega arith), remainder_bytes g i) (leaver_at g i (omega arith)) in
        le_of_mul-le-mul_right
        (omega (arith, mul-le-mul_right (size (kit g k)) half, kit_best i l))
        (size_pos g r (remainder_group g i (omega arith)))

    -- so a group loses at most that with each member
    left_light : (t : List ℕ) → Bits g.n t → (i : ℕ) → i + k ≤ g.n →
        size (kit g k) * inside g t + 2 * inside g (kit g k) * size (left_behind (leaving g) t i)
        ≤ size (kit g k) * inside g (left_behind (leaving g) t i) + 2 * inside g (kit g k) * size t
    unfolding left_behind
    left_light t b zero l = omega arith
    left_light t b (suc i) l =
        omega (
          arith,
          left_light t b i (omega arith),
          leave_light g (left_behind (leaving g) t i) (remainder g i) (get_or (leaving g) i 0) (size (kit g k)) (2 * inside g (kit g k)) h
              (left_good g t i b.1) (left_sub g t i b.0) (unfold leaving_degree in falls_light i (omega arith)),
        )

    -- what is left of it at k modules is inside those
    bounded : (t : List ℕ) → Bits g.n t → inside g t * size (kit g k) ≤ inside g (kit g k) * (2 * size t + k)
    unfolding inside
    bounded t b =
        let i : ℕ = g.n - k in
        let last : size (remainder g i) ≡ k = omega (arith, remainder_size g i (omega arith)) in
        omega (
          arith,
          left_light t b i (omega arith),
          mul-le-mul_left (size (kit g k)) (inside_sub g.pairs (left_behind (leaving g) t i) (remainder g i) (left_sub g t i b.0)),
          kit_best i (omega arith),
          ap (λ (z : ℕ). inside g (kit g k) * z) last,
        )

  enough : k ≤ size (kit g k)
  enough = omega (arith, kit_size, kit_at)

  -- ---- the item's words

  -- a set left over with at least k modules: so many have left at the most
  left_enough : (t : List ℕ) (o : LeftOver g k t) → o.left + k ≤ g.n
  left_enough t o =
      let same : size t ≡ size (remainder g o.left) = ap size o.rest in
      omega (arith, o.enough, remainder_size g o.left o.most)

  is_left_over : LeftOver g k (kit g k)
  unfolding kit
  is_left_over =
      record {
        left = densest_remainder g k;
        most = omega (arith, kit_at);
        rest = refl;
        enough = unfold kit in omega (arith, kit_at, kit_size);
      }

  is_kit : IsKit g k (kit g k)
  unfolding kit densest_remainder
  is_kit =
      record {
        left_over = is_left_over;
        greatest = λ t o. rw o.rest (densest_best g (g.n - k) (omega arith) o.left (omega (arith, left_enough t o)));
        larger = λ t o e.
            let at : densest_upto g (g.n - k) ≤ o.left =
            densest_larger g (g.n - k) (omega arith) o.left (omega (arith, left_enough t o)) (rw o.rest at e) in
            rw o.rest
            (omega (arith, remainder_size g o.left o.most, remainder_size g (densest_upto g (g.n - k)) (omega (arith, left_enough t o))));
      }

  only_kit : (s : List ℕ) → IsKit g k s → s ≡ kit g k
  unfolding kit
  only_kit s c =
      let o = c.left_over in
      let no_larger : size (kit g k) ≤ size s = c.larger (kit g k) is_left_over (is_kit.greatest s o) in
      let no_smaller : size s ≤ size (kit g k) = is_kit.larger s o (c.greatest (kit g k) is_left_over) in
      let same : size s ≡ size (remainder g o.left) = ap size o.rest in
      let at : o.left ≡ densest_remainder g k = omega (arith, kit_size, remainder_size g o.left o.most) in
      o.rest ∙ ap (remainder g) at

pub kit_exact : KitExact
unfolding KitExact
kit_exact g k s pos few = (only_kit g k pos few s, λ e. rw e (is_kit g k pos few))

pub kit_group : KitGroup
unfolding KitGroup
kit_group g k pos few = (group g k pos few, enough g k pos few)

pub kit_within_size : KitWithinSize
unfolding KitWithinSize
kit_within_size g k l pos few t h = bounded g k pos few l t (group_bits g t h)

pub kit_within_three : KitWithinThree
unfolding KitWithinThree
kit_within_three g k l pos few t h many =
    omega (arith, bounded g k pos few l t (group_bits g t h), mul-le-mul_left (inside g (kit g k)) many)

pub kit_promised : KitPromised
unfolding KitPromised KitWithinThree KitWithinSize
kit_promised g k l pos few =
    record {
      inside_count = refl;
      modules = refl;
      is_kit = is_kit g k pos few;
      group = group g k pos few;
      enough = enough g k pos few;
      within_three = kit_within_three g k l pos few;
      within_size = kit_within_size g k l pos few;
    }

-- a byte for each module
pub kit_length : (g : Pairs) (k : ℕ) → length (kit g k) ≡ g.n
unfolding kit densest_remainder
kit_length g k = remainder_full g (densest_upto g (g.n - k)) (omega (arith, densest_le g (g.n - k)))

-- ---- the number that is given

module _ (n m k : ℕ) where
  -- k from 1 to N
  pub least_good : 1 ≤ k → k ≤ n → bad_least n k ≡ false
  unfolding bad_least
  least_good pos few = rw (le-leb 1 k pos, le-leb k n few)

  pub good_least : bad_least n k ≡ false → (1 ≤ k) × (k ≤ n)
  unfolding bad_least
  good_least e = simp tests at (not-false _ e)

  -- or not
  pub least_bad : (1 ≤ k → k ≤ n → ⊥) → bad_least n k ≡ true
  unfolding bad_least
  least_bad out = rw (fails (leb 1 k && leb k n) (λ e. let h = simp tests at e in out h.0 h.1)) refl

  -- no pair: 20, whatever k is
  pub kit_pairless : m ≡ 0 → kit_number n m k ≡ 20
  unfolding kit_number kit_causes
  kit_pairless z = pairless_then m _ (pairless m z)

  -- a pair, and k outside 1 to N: 21
  pub kit_turned : 1 ≤ m → bad_least n k ≡ true → kit_number n m k ≡ 21
  unfolding kit_number kit_causes cause refusal
  kit_turned l e = paired_then m _ (paired m l) ∙ rw e refl

  -- else none
  pub kit_made : 1 ≤ m → bad_least n k ≡ false → kit_number n m k ≡ 0
  unfolding kit_number kit_causes cause refusal
  kit_made l e = paired_then m _ (paired m l) ∙ rw e refl

  -- there is no fourth case
  pub by_number : {A : Type 0} → (m ≡ 0 → kit_number n m k ≡ 20 → A) → (1 ≤ m → bad_least n k ≡ true → kit_number n m k ≡ 21 → A) →
      (1 ≤ m → bad_least n k ≡ false → kit_number n m k ≡ 0 → A) → A
  by_number none bad good =
      by_pairs m (λ z. none z (kit_pairless z))
      (λ l. by_test (bad_least n k) (λ e. bad l e (kit_turned l e)) (λ e. good l e (kit_made l e)))
