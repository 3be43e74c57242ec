-- What the functions leave is what `peel` answers.
--   fronts                      the length of a buffer's front
--   answer_numberable           the order is one of different modules
--   answer_comparable           the final degrees are small enough
--   answer_cores, answer_places core numbers and places
--   answer                      all that `peel` answers
-- Assumes nothing.
use mathlib.Core.Path.{◌≡◌, sym, ap, ◌∙◌}
use mathlib.Core.Bool.{true}
use mathlib.Core.List.{List}
use Prim.Native.Nat.{ℕ, suc, ◌-◌, ◌≤◌, ◌<◌}
use native.Mathlib.Omega.{arith}
use lib.ListN.{length, get_or, take}
use Rattle.std.proofs.lemmas.List.{get_or-take, length-take-le}
use Rattle.theory.specs.Lists.{Pairs, is_list}
use Rattle.theory.specs.Groups.{inside, everyone}
use Rattle.theory.specs.Leaving.{leaving, leaving_degree}
use Rattle.theory.specs.Cores.{core_number, core_numbers}
use Rattle.theory.specs.Promise.{LeavingEveryone, LeaverCore}
use Rattle.theory.proofs.Tables.{greatest_ext}
use Rattle.theory.proofs.Lists.{listed}
use Rattle.theory.proofs.Leaving.{leaving_everyone}
use Rattle.theory.specs.Kits.{densest_upto, densest_remainder}
use Rattle.theory.proofs.Peeling.{leaver_core}
use Rattle.theory.proofs.Remainders.{remainder_size, densest_le}
use Rattle.peel.specs.declared.Remainder.{Remainder}
use Rattle.peel.specs.Places.{index_of, places}
use Rattle.peel.specs.Peel.{Peels}
use Rattle.slots.specs.Buffers.{entry, WrittenFront}
use Rattle.peel.specs.Steps.{remaining, densest_by, LeaversWritten, Numberable, Numbered, Comparable, RemainderAt}
use Rattle.slots.proofs.Buffers.{written_all}
use Rattle.peel.proofs.Leavers.{leaver_below, leavers_apart, leaving_entries, place_of_leaver}
use Rattle.peel.proofs.Remainders.{finals_inside, remaining_inside, densest_by_is}

-- the first entries of a buffer are as many as are asked for
pub ruleset fronts = (length-take-le)

module _ (g : Pairs) (h : is_list g ≡ true) (order finals order' finals' : List ℕ) (t : LeaversWritten g g.n order finals order' finals')
    (order_long : g.n ≤ length order) (finals_long : g.n ≤ length finals) where
  -- the first n entries of both
  order_all : length (take g.n order') ≡ g.n
  order_all = length-take-le g.n order' (omega (arith, t.order_is.long))

  finals_all : length (take g.n finals') ≡ g.n
  finals_all = length-take-le g.n finals' (omega (arith, t.finals_are.long))

  order_at : (i : ℕ) → i < g.n → get_or (take g.n order') i 0 ≡ get_or (leaving g) i 0
  unfolding entry
  order_at i l = get_or-take g.n order' i 0 l ∙ t.order_is.front i l

  final_at : (i : ℕ) → i < g.n → get_or (take g.n finals') i 0 ≡ leaving_degree g i
  final_at i l = get_or-take g.n finals' i 0 l ∙ t.finals_are.front i l

  pub answer_numberable : (cores place : List ℕ) → g.n ≤ length cores → g.n ≤ length place →
      Numberable (take g.n order') (take g.n finals') cores place
  answer_numberable cores place c d =
      record {
        few = omega (arith, (listed g h).few, order_all);
        finals_long = omega (arith, order_all, finals_all);
        cores_long = omega (arith, order_all);
        place_long = omega (arith, order_all);
        below = λ i l. let k : i < g.n = omega (arith, order_all) in omega (arith, order_all, order_at i k, leaver_below g i k);
        apart = λ i j l k e.
            let a : i < g.n = omega (arith, order_all) in
            let b : j < g.n = omega (arith, order_all) in
            leavers_apart g i j a b (sym (order_at i a) ∙ e ∙ order_at j b);
      }

  pub answer_comparable : (least : ℕ) → 1 ≤ least → least ≤ g.n → inside g (everyone g) ≤ 4096000 → Comparable least (take g.n finals')
  answer_comparable least a b c =
      record {
        few = omega (arith, (listed g h).few, finals_all);
        some = a;
        most = omega (arith, finals_all);
        light = omega (arith, finals_inside g h (take g.n finals') finals_all final_at);
      }

  module _ (cores place cores' place' : List ℕ)
      (d : Numbered (length (take g.n order')) (take g.n order') (take g.n finals') cores place cores' place') where
    -- the greatest final degree so far is the leaver's core number
    number_at : (i : ℕ) → i < g.n → get_or cores' (get_or (leaving g) i 0) 0 ≡ core_number g (get_or (leaving g) i 0)
    unfolding entry LeaverCore
    number_at i l =
        (rw (order_at i l) at (d.cores_are i (omega (arith, order_all))))
        ∙ greatest_ext (suc i) (entry (take g.n finals')) (leaving_degree g) (λ j k. final_at j (omega arith))
        ∙ sym (leaver_core g i h l)

    place_at : (i : ℕ) → i < g.n → get_or place' (get_or (leaving g) i 0) 0 ≡ index_of (leaving g) (get_or (leaving g) i 0)
    place_at i l = (rw (order_at i l) at (d.places_are i (omega (arith, order_all)))) ∙ sym (place_of_leaver g i l)

    -- each module leaves at some place
    of_all : (xs : List ℕ) (f : ℕ → ℕ) → ((i : ℕ) → i < g.n → get_or xs (get_or (leaving g) i 0) 0 ≡ f (get_or (leaving g) i 0)) →
        (v : ℕ) → v < g.n → get_or xs v 0 ≡ f v
    unfolding LeavingEveryone
    of_all xs f all v l = let e = leaving_everyone g v l in rw e.2 at (all e.0 e.1)

    pub answer_cores : WrittenFront g.n (core_number g) cores cores'
    answer_cores = record { long = d.cores_long; front = of_all cores' (core_number g) number_at; rest = λ u l. d.cores_rest u (omega (arith, order_all)) }

    pub answer_places : WrittenFront g.n (index_of (leaving g)) place place'
    answer_places = record {
      long = d.place_long;
      front = of_all place' (index_of (leaving g)) place_at;
      rest = λ u l. d.places_rest u (omega (arith, order_all));
    }

    pub answer : (least : ℕ) (r : Remainder) → g.n ≤ length cores → g.n ≤ length place →
        RemainderAt (take g.n finals')
        (densest_by (length (take g.n finals')) (remaining (take g.n finals')) (length (take g.n finals') - least)) r →
        Peels g least order cores place order' cores' place' r
    unfolding core_numbers places densest_remainder
    answer least r b c l =
        let at_is : r.at ≡ densest_by g.n (remaining (take g.n finals')) (g.n - least) = rw finals_all at l.at_is in
        let at : r.at ≡ densest_upto g (g.n - least) =
        at_is ∙ densest_by_is g h (take g.n finals') finals_all final_at (g.n - least) (omega arith) in
        let le : r.at ≤ g.n = omega (arith, densest_le g (g.n - least)) in
        record {
          order_is = rw leaving_entries at (written_all g.n (entry (leaving g)) order order' order_long t.order_is);
          cores_are = written_all g.n (core_number g) cores cores' b answer_cores;
          places_are = written_all g.n (index_of (leaving g)) place place' c answer_places;
          at_is = at;
          p_is = l.p_is ∙ ap (remaining (take g.n finals')) (sym l.at_is) ∙ remaining_inside g h (take g.n finals') finals_all final_at r.at le;
          q_is = omega (arith, l.q_is, l.at_is, finals_all, remainder_size g r.at le);
        }
