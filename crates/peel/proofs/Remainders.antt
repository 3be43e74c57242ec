-- The densest remainder by the final degrees is that of the list.
--   remaining_total                     what is left inside, and the final degrees of those that have left
--   best_next                           the densest so far
--   inside_finals, finals_inside, remaining_inside    what is left inside is the remainder's inside count
--   all_light                           it is at most 4,096,000
--   denser_by_is, densest_by_is         the densest by the final degrees is the densest remainder
-- Assumes nothing.
use mathlib.Core.Path.{◌≡◌, refl}
use mathlib.Core.Bool.{Bool, true, false, cond}
use mathlib.Core.List.{List}
use Prim.Native.Nat.{ℕ, zero, suc, ◌+◌, ◌*◌, ◌-◌, ◌≤◌, ◌<◌}
use native.Mathlib.Omega.{arith}
use native.Mathlib.Numerals.{add-one}
use lib.Dec.{leb}
use lib.ListN.{length, get_or}
use Rattle.std.specs.List.{sum}
use Rattle.std.proofs.Math.Seq.{drop-length}
use Rattle.std.proofs.lemmas.List.Sums.{sum_by-drop_more}
use Rattle.theory.specs.Lists.{Pairs, is_list}
use Rattle.theory.specs.Groups.{size, everyone, holds_pair, inside, at_most}
use Rattle.theory.specs.Leaving.{degree, leaving, left_behind, remainder, leaving_degree}
use Rattle.theory.specs.Kits.{denser_of, densest_upto}
use Rattle.theory.specs.Words.{word_pair, list_in}
use Rattle.theory.proofs.Lists.{proper}
use Rattle.theory.proofs.Groups.{inside_none}
use Rattle.theory.proofs.Cores.{inside_leave}
use Rattle.theory.proofs.Remainders.{leaver_in, remainder_size, densest_le}
use Rattle.slots.specs.Slots.{total}
use Rattle.slots.proofs.Totals.{total_ext, total_const}
use Rattle.slots.proofs.Held.{cond_most}
use Rattle.slots.proofs.Words.{few_pairs, good_pair, inside_total}
use Rattle.peel.specs.declared.Remainder.{Remainder}
use Rattle.slots.specs.Buffers.{entry}
use Rattle.peel.specs.Steps.{remaining, denser_by, densest_by, RemainderAt, denser}

-- ---- by the final degrees

module _ (finals : List ℕ) where
  -- those up to i, and those from then on
  pub remaining_total : (i : ℕ) → i ≤ length finals → remaining finals i + total i (entry finals) ≡ sum finals
  unfolding total entry
  remaining_total zero l = omega arith
  remaining_total (suc i) l = omega (arith, remaining_total i (omega arith), rw add-one at (sum_by-drop_more (λ x. x) finals i 0 (omega arith)))

  either : (t : Bool) (i j : ℕ) (a b : Remainder) → RemainderAt finals i a → RemainderAt finals j b → RemainderAt finals (cond t i j) (cond t a b)
  either true i j a b l k = l
  either false i j a b l k = k

  best_of_two : (i j : ℕ) (a b : Remainder) → RemainderAt finals i a → RemainderAt finals j b →
      RemainderAt finals (denser_by (length finals) (remaining finals) i j) (denser a b)
  unfolding denser_by denser
  best_of_two i j a b l k =
      let same :
      leb (b.ratio.p * a.ratio.q) (a.ratio.p * b.ratio.q)
      ≡ leb (remaining finals j * (length finals - i)) (remaining finals i * (length finals - j)) =
      cc (l.p_is, l.q_is, k.p_is, k.q_is) in
      rw (← same) (either (leb (b.ratio.p * a.ratio.q) (a.ratio.p * b.ratio.q)) i j a b l k)

  -- the next one, or still the densest so far
  pub best_next : (i : ℕ) (a b : Remainder) → RemainderAt finals (densest_by (length finals) (remaining finals) i) a → RemainderAt finals (i + 1) b →
      RemainderAt finals (densest_by (length finals) (remaining finals) (i + 1)) (denser a b)
  unfolding densest_by
  best_next i a b l k = rw add-one (best_of_two (densest_by (length finals) (remaining finals) i) (suc i) a b l (rw add-one at k))

-- ---- by the list

module _ (n m : ℕ) (ends weights : List ℕ) (h : is_list (list_in n m ends weights) ≡ true) where
  -- no inside count is above 1,000 for each pair
  pub all_light : (s : List ℕ) → inside (list_in n m ends weights) s ≤ 4096000
  all_light s =
      omega (
        arith,
        inside_total n m ends weights s,
        few_pairs n m ends weights h,
        total_const m 1000 (λ j. cond (holds_pair s (word_pair ends weights j)) (get_or weights j 0) 0)
            (λ j l. omega (arith, cond_most (holds_pair s (word_pair ends weights j)) (get_or weights j 0), (good_pair n m ends weights h j l).light)),
      )

-- each leaver takes its degree out
module _ (g : Pairs) (h : is_list g ≡ true) where
  pub inside_finals : (i : ℕ) → i ≤ g.n → inside g (remainder g i) + total i (leaving_degree g) ≡ inside g (everyone g)
  unfolding remainder left_behind total inside leaving_degree degree
  inside_finals zero l = omega arith
  inside_finals (suc i) l =
      omega (
        arith,
        inside_finals i (omega arith),
        inside_leave g.n g.pairs (remainder g i) (get_or (leaving g) i 0) (proper g h) (leaver_in g i l),
      )

  inside_end : inside g (remainder g g.n) ≡ 0
  unfolding inside
  inside_end = inside_none g.pairs (remainder g g.n) (omega (arith, remainder_size g g.n (omega arith)))

  module _ (finals : List ℕ) (all : length finals ≡ g.n) (f : (i : ℕ) → i < g.n → get_or finals i 0 ≡ leaving_degree g i) where
    finals_first : (i : ℕ) → i ≤ g.n → total i (entry finals) ≡ total i (leaving_degree g)
    unfolding entry
    finals_first i l = total_ext i (entry finals) (leaving_degree g) (λ j k. f j (omega arith))

    none_left : remaining finals g.n ≡ 0
    none_left = rw (← all) (rw drop-length refl)

    pub finals_inside : sum finals ≡ inside g (everyone g)
    finals_inside =
        omega (
          arith,
          remaining_total finals g.n (omega (arith, all)),
          none_left,
          finals_first g.n (omega arith),
          inside_finals g.n (omega arith),
          inside_end,
        )

    pub remaining_inside : (i : ℕ) → i ≤ g.n → remaining finals i ≡ inside g (remainder g i)
    remaining_inside i l = omega (arith, finals_inside, remaining_total finals i (omega (arith, all)), finals_first i l, inside_finals i l)

    pub denser_by_is : (i j : ℕ) → i ≤ g.n → j ≤ g.n → denser_by g.n (remaining finals) i j ≡ denser_of g i j
    unfolding denser_by denser_of at_most
    denser_by_is i j l k =
        let si : g.n - i ≡ size (remainder g i) = omega (arith, remainder_size g i l) in
        let sj : g.n - j ≡ size (remainder g j) = omega (arith, remainder_size g j k) in
        rw (remaining_inside i l, remaining_inside j k, si, sj)

    pub densest_by_is : (i : ℕ) → i ≤ g.n → densest_by g.n (remaining finals) i ≡ densest_upto g i
    unfolding densest_by densest_upto
    densest_by_is zero l = refl
    densest_by_is (suc i) l =
        rw (densest_by_is i (omega arith)) (denser_by_is (densest_upto g i) (suc i) (omega (arith, densest_le g i)) l)
