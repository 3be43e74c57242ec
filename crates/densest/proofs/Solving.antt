-- From the leaving order to the answer.
--   peeled_cored, peeled_candidate, peeled_by_place    what `peel` gives the search
--   peeled_last                                        cores leave last
--   peelable_zeros, room_zeros                         buffers of zeros are long enough
--   gathering_candidate, gathering_unpacks             what is found among the pairs gathered, and the pairs packed
--   gathering_small                                    what their slots hold
--   solution_written, solves_of                        the answer, and where it stands in the buffers
-- Assumes nothing.
use Rattle.std.proofs.Common.{◌≡◌, ℕ, suc, ◌*◌, ◌<◌, ◌≤◌, Bool, true, false, cond, ltb, eqb, List, [], ◌∷◌, ◌++◌, length, get_or, take, drop, replicate, sym, refl, ap, ◌∙◌, arith, length-take-le, take_at, drop_at}
use lib.ListN.{length-replicate, get_or-append}
use lib.Seq.{length_front}
use Rattle.theory.specs.Lists.{Pairs, is_list}
use Rattle.theory.specs.Groups.{size, inside, holds_pair}
use Rattle.theory.specs.Leaving.{leaving, remainder, before}
use Rattle.theory.specs.Cores.{core, core_number, core_numbers}
use Rattle.theory.specs.Splits.{rounded_up}
use Rattle.theory.specs.Basics.{table}
use Rattle.theory.specs.Promise.{LeavingSteps}
use Rattle.theory.specs.Words.{word_pair, list_in, laid_list, HeldWords}
use Rattle.theory.proofs.Tests.{tests}
use Rattle.theory.proofs.Tables.{length_table, table_at}
use Rattle.theory.proofs.Lists.{listed}
use Rattle.theory.proofs.Leaving.{leaving_steps}
use Rattle.theory.proofs.Cores.{length_core}
use Rattle.theory.proofs.Words.{length_laid}
use Rattle.theory.proofs.Remainders.{remainder_group}
use Rattle.lists.specs.declared.list.List as L
use Rattle.lists.specs.Listed.{listed as in_list}
use Rattle.slots.specs.Slots.{mate, Room}
use Rattle.slots.proofs.Held.{zero_at}
use Rattle.slots.proofs.Words.{good_pair}
use Rattle.peel.specs.Peel.{Peelable, Peels}
use Rattle.peel.specs.Places.{index_of, places}
use Rattle.peel.specs.Promise.{PeelPromised}
use Rattle.peel.specs.declared.Remainder.{Remainder}
use Rattle.peel.proofs.Promises.{peel_promised}
use Rattle.rounds.specs.Known.{Candidate, Cored}
use Rattle.rounds.specs.Search.{Round, GroupFound}
use Rattle.rounds.proofs.Rounds.{group_candidate, group_found_candidate}
use Rattle.densest.specs.declared.Solution.{Solution}
use Rattle.densest.specs.Gather.{unpacked, Unpacks, SmallUnits, LastLeavers, sheet_share, Written}
use Rattle.densest.specs.Solve.{IsSolution, Solves}
use Rattle.densest.proofs.Gathering.{inner_before_ext}
use Rattle.densest.proofs.Scattering.{put_back, put_back_is}
use Rattle.densest.proofs.InnerSearch.{IsCore, GatheringFound}
use Rattle.densest.proofs.Sheets.{Sheet, written_shares, sheet_optimal, sheet_outside}

-- ---- the leaving order

-- the place of a number that stands nowhere is the order's length
index_low : (xs : List ℕ) (m : ℕ) → index_of xs m ≤ length xs
unfolding index_of
index_low [] m = omega arith
index_low (x ∷ xs) m = go (eqb x m) (index_low xs m)
  where
    go : (b : Bool) → index_of xs m ≤ length xs → cond b 0 (suc (index_of xs m)) ≤ suc (length xs)
    go true h = omega arith
    go false h = omega (arith, h)

module _ {g : Pairs} {order cores place order' cores' place' : List ℕ} {r : Remainder} (l : is_list g ≡ true)
    (h : Peels g 1 order cores place order' cores' place' r) where
  pub peeled_cored : Cored g (take g.n cores')
  unfolding core_numbers
  peeled_cored =
      let long = length_table g.n (core_number g) in
      let e : take g.n cores' ≡ core_numbers g = rw h.cores_are (take_at (core_numbers g) (drop g.n cores) g.n long) in
      rw e (record { long = omega (arith, long); numbers = λ v b. table_at g.n (core_number g) v 0 b })

  pub peeled_candidate : Candidate g r.ratio.p r.ratio.q
  unfolding PeelPromised
  peeled_candidate =
      let k = peel_promised g 1 order cores place order' cores' place' r l (omega arith) (listed g l).some h in
      group_candidate g (remainder g r.at) r.ratio.p r.ratio.q l (remainder_group g r.at (omega (arith, k.rest, k.enough))) h.p_is h.q_is

  pub peeled_by_place : (a b : ℕ) → a < g.n → b < g.n → before (leaving g) a b ≡ ltb (get_or place' a 0) (get_or place' b 0)
  unfolding PeelPromised
  peeled_by_place = (peel_promised g 1 order cores place order' cores' place' r l (omega arith) (listed g l).some h).by_place

  place_is : (v : ℕ) → v < g.n → get_or place' v 0 ≡ index_of (leaving g) v
  unfolding places
  place_is v b =
      ap (λ (ys : List ℕ). get_or ys v 0) h.places_are
      ∙ get_or-append (table g.n (index_of (leaving g))) (drop g.n place) 0 v (omega (arith, length_table g.n (index_of (leaving g))))
      ∙ table_at g.n (index_of (leaving g)) v 0 b

  pub peeled_last : {s : List ℕ} → IsCore g s → LastLeavers s place'
  unfolding PeelPromised LeavingSteps
  peeled_last {s} c =
      let long : length s ≡ g.n = rw c.1 (length_core g c.0) in
      let promise = peel_promised g 1 order cores place order' cores' place' r l (omega arith) (listed g l).some h in
      record {
        small = λ v b. omega (arith, place_is v (omega arith), index_low (leaving g) v, (leaving_steps g).0, (listed g l).few);
        last = rw c.1 (λ a b la lb oa ib. (promise.outside_first c.0 a b (omega (arith, length_core g c.0)) (omega (arith, length_core g c.0)) oa ib).1);
      }

pub peelable_zeros : (list : L.List) (cores : List ℕ) → list.n ≤ length cores → Peelable list.n 1 (replicate {A = ℕ} 512 0) cores (replicate {A = ℕ} 512 0)
unfolding list_in
peelable_zeros list cores c =
    let l = listed (in_list list) list.held.listed in
    record { some = omega arith; few = l.some; order_long = l.few; cores_long = c; place_long = l.few }

pub room_zeros : (m k : ℕ) → 2 * m ≤ k → Room m (replicate {A = ℕ} k 0)
room_zeros m k h = record { long = omega (arith, length-replicate {A = ℕ} k 0); small = λ s l. omega (arith, zero_at k s, zero_at k (mate s)) }

-- ---- the answer

module _ (n m : ℕ) (ends weights : List ℕ) (h : HeldWords n m ends weights) (scope hold t : List ℕ) (p q : ℕ)
    (f : GroupFound n m ends weights scope hold t p q) where
  solution_of : (place shares : List ℕ) (x : Solution) →
      ((a b : ℕ) → a < n → b < n → before (leaving (list_in n m ends weights)) a b ≡ ltb (get_or place a 0) (get_or place b 0)) →
      length shares ≡ m → ((j : ℕ) → j < m → get_or shares j 0 ≡ sheet_share q scope place (word_pair ends weights j) (get_or hold (2 * j) 0)) →
      x.ratio.p ≡ p → x.ratio.q ≡ q → x.k ≡ rounded_up p q → x.core ≡ size scope → IsSolution (list_in n m ends weights) t shares x
  solution_of place shares x by long written xp xq xk xc =
      let g = list_in n m ends weights in
      let d : Round n m p q ends weights scope hold t true = f.last in
      let ep : p ≡ inside g t = f.inside_count in
      let eq : q ≡ size t = f.modules in
      let ek : rounded_up p q ≡ rounded_up (inside g t) (size t) = rw (ep, eq) in
      let sheet : Sheet n m ends weights scope place hold t shares = record {
        held = h;
        found = f.found;
        scope_is = d.scope_is ∙ ap (core g) ek;
        split = rw eq at d.split;
        most = λ v b. omega (arith, d.good refl v b);
        by_place = by;
        long = long;
        written = rw eq at written;
      } in
      record {
        found = f.found;
        optimal = rw (xp, xq, ep, eq) (sheet_optimal n m ends weights scope place hold t shares sheet);
        outside = rw (xq, eq) (sheet_outside n m ends weights scope place hold t shares sheet);
        order = xk ∙ ek;
        core_size = xc ∙ ap size (d.scope_is ∙ ap (core g) (sym xk));
      }

-- found among the pairs gathered
module _ {n m : ℕ} {ends weights core scope units packed t : List ℕ} {p q : ℕ} (f : GatheringFound n m ends weights core scope units packed t p q) where
  -- the units of all pairs
  abbrev hold : List ℕ
  hold = put_back m (word_pair ends weights) core units

  all_found : GroupFound n m ends weights scope hold t p q
  all_found = f.found hold (put_back_is m (word_pair ends weights) core units)

  pub gathering_candidate : Candidate (list_in n m ends weights) p q
  gathering_candidate = group_found_candidate f.held.listed all_found

  -- the pairs packed have ends below n
  pub gathering_unpacks : Unpacks n m packed
  unfolding word_pair
  gathering_unpacks = record {
    first = λ j l. rw (f.packed.pairs j l) (omega (arith, good_pair n m ends weights f.held.listed j l));
    second = λ j l. rw (f.packed.pairs j l) (good_pair n m ends weights f.held.listed j l).below;
  }

  pub gathering_small : SmallUnits m core scope units packed
  unfolding holds_pair
  gathering_small = record {
    small = λ j l y.
        let at = word_pair ends weights in
        let inside : holds_pair scope (at j) ≡ true = rw (← f.packed.pairs j l) y in
        let y' = simp tests at inside in
        let z : holds_pair core (at j) ≡ true = simp tests (f.sub _ y'.0, f.sub _ y'.1) in
        let number = inner_before_ext at core (λ i. unpacked (get_or packed i 0)) j (λ i b. f.packed.pairs i (omega arith)) in
        let back = ((put_back_is m at core units).slots j l).0 in
        let fits = all_found.last.room.small (2 * j) (omega arith) in
        rw number (omega (arith, fits, rw z at back));
  }

  pub solution_written : {place shares : List ℕ} {x : Solution} →
      ((a b : ℕ) → a < n → b < n → before (leaving (list_in n m ends weights)) a b ≡ ltb (get_or place a 0) (get_or place b 0)) →
      length shares ≡ m → Written m q core scope place units packed shares →
      x.ratio.p ≡ p → x.ratio.q ≡ q → x.k ≡ rounded_up p q → x.core ≡ size scope → IsSolution (list_in n m ends weights) t shares x
  solution_written {place} {shares} {x} by long written =
      solution_of n m ends weights f.held scope hold t p q all_found place shares x by long
      (written_shares m q ends weights core scope place units hold packed shares f.packed f.sub
      (put_back_is m (word_pair ends weights) core units) written)

-- the answer, in buffers that may be longer
pub solves_of : (n m : ℕ) (words members cores shares s cores' xs : List ℕ) (x : Solution) → n ≤ length members → m ≤ length shares →
    length s ≡ n → length xs ≡ m → cores' ≡ core_numbers (laid_list n m words) ++ drop n cores → IsSolution (laid_list n m words) s xs x →
    Solves (laid_list n m words) members cores shares (s ++ drop n members) cores' (xs ++ drop m shares) x
unfolding laid_list
solves_of n m words members cores shares s cores' xs x ln lm ls lx ec d =
    let count = length_laid m words in
    record {
      members_long = length_front members s n (ls ∙ sym (length-take-le n members ln));
      shares_long = length_front shares xs m (lx ∙ sym (length-take-le m shares lm));
      members_rest = drop_at s (drop n members) n ls;
      cores_are = ec;
      shares_rest = rw count (drop_at xs (drop m shares) m lx);
      solved = rw (count, take_at s (drop n members) n ls, take_at xs (drop m shares) m lx) d;
    }
