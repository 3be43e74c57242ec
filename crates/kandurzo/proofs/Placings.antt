-- Where a pair stands: what place answers.
--   held_rises, place_rises   where head and list agree the held pairs rise, as lookup asks it
--   open_agrees               they do where place refuses nothing
--   place_disagrees, place_unfit, place_done    place's promise, where 13 refuses, where 5 or 4 does, and where none does
--   place_few                 a place is a small number
--   lent_placed               what place answers of a list that is lent
-- Assumes nothing.
use mathlib.Core.Path.{◌≡◌, refl, sym, ap, ◌∙◌}
use mathlib.Core.Bool.{true, not}
use mathlib.Core.List.{List, [], ◌∷◌}
use Rattle.std.proofs.Common.{Err}
use Prim.Native.Nat.{ℕ, ◌≤◌, ◌<◌, min, max}
use native.Mathlib.Omega.{arith}
use lib.ListN.{get_or, take}
use borrow.Author.Tests.{not-false}
use Rattle.theory.specs.Basics.{mark}
use Rattle.theory.specs.Lists as Lists
use Rattle.theory.specs.Lists.{Pairs, pair, stands_before, rising}
use Rattle.theory.specs.Refusals.{cause, refusal, if_taken}
use Rattle.refusals.specs.declared.Refusal.{Refusal}
use Rattle.refusals.specs.Numbers.{number_of}
use Rattle.lines.proofs.Found.{numbered}
use Rattle.theory.proofs.Lists.{listed}
use Rattle.theory.proofs.Tests.{by_test}
use Rattle.theory.proofs.Refusals.{refusal_met, refusal_passed, if_taken_old}
use Rattle.pairs.specs.Held.{same_ends, is_held, place_of, smaller_first_pair}
use Rattle.pairs.specs.Located.{Place, located}
use Rattle.pairs.specs.Causes.{pair_causes}
use Rattle.pairs.proofs.Order.{same_sym}
use Rattle.pairs.proofs.Rising.{place_le, place_before, place_from, held_at, held_place}
use Rattle.records.specs.declared.Pair.{Pair}
use Rattle.records.specs.declared.Head.{Head}
use Rattle.records.specs.Records.{as_pair, as_pairs, held_list, agrees, blank}
use Rattle.records.proofs.Scans.{agrees_count}
use Rattle.on_words.specs.declared.Placed.{Placed}
use Rattle.on_words.specs.Placing.{placed_of}
use Rattle.kandurzo.specs.Placing.{place_number, StandsAt, PlaceSays}
use Rattle.kandurzo.specs.Promise.{Lent}
use Rattle.on_words.proofs.Orders.{first_none}
use Rattle.kandurzo.proofs.Gates.{disagrees}
use Rattle.kandurzo.proofs.Taken.{held_is_list, length_held, record_there}
use Rattle.kandurzo.proofs.Demands.{n_is, lent_list, lent_agrees}

-- ---- the place

module _ (h : Head) (ps : List Pair) (agreed : agrees h ps ≡ true) where
  pub held_rises : rising (held_list h ps).pairs ≡ true
  held_rises = (listed (held_list h ps) (held_is_list h ps agreed)).rises

  -- the record at the place is p's exactly where p is held
  module _ (p : Lists.Pair) where
    abbrev at : ℕ
    at = place_of p (held_list h ps).pairs

    at_most : at ≤ h.m
    at_most = omega (arith, place_le p (held_list h ps).pairs, length_held h ps agreed)

    held_there : at < h.m → is_held p (held_list h ps).pairs ≡ same_ends p (as_pair (get_or ps at blank))
    held_there l =
        held_at p (held_list h ps).pairs (as_pair blank) held_rises (omega (arith, length_held h ps agreed)) ∙ ap (same_ends p) (record_there h ps at l)

    its_record : is_held p (held_list h ps).pairs ≡ true → (at < h.m) × (same_ends (as_pair (get_or ps at blank)) p ≡ true)
    its_record t =
        let l : at < h.m = omega (arith, held_place p (held_list h ps).pairs t, length_held h ps agreed) in
        (l, same_sym p (as_pair (get_or ps at blank)) (sym (held_there l) ∙ t))

    record_held : (at < h.m) × (same_ends (as_pair (get_or ps at blank)) p ≡ true) → is_held p (held_list h ps).pairs ≡ true
    record_held x = held_there x.0 ∙ same_sym (as_pair (get_or ps at blank)) p x.1

    stands_at : StandsAt h ps p (mark (is_held p (held_list h ps).pairs)) at
    unfolding mark
    stands_at = record {
      among = at_most;
      smaller = λ i l.
          ap (λ (r : Lists.Pair). stands_before r p) (sym (record_there h ps i (omega (arith, at_most, l))))
          ∙ place_before p (held_list h ps).pairs i (as_pair blank) l;
      none_smaller = λ i l k.
          ap (λ (r : Lists.Pair). stands_before r p) (sym (record_there h ps i k))
          ∙ place_from p (held_list h ps).pairs i (as_pair blank) held_rises l (omega (arith, k, length_held h ps agreed));
      exactly = (
        λ e. by_test (is_held p (held_list h ps).pairs) its_record (λ t. absurd (omega (arith, rw t at e))),
        λ x. rw (record_held x),
      );
      one_or_zero = by_test (is_held p (held_list h ps).pairs) (λ t. rw t (omega arith)) (λ t. rw t (omega arith));
    }

-- ---- the call

-- the pairs of the held records rise
pub place_rises : (h : Head) (ps : List Pair) → agrees h ps ≡ true → rising (as_pairs (take h.m ps)) ≡ true
place_rises h ps agreed = unfold held_list in (held_rises h ps agreed)

module _ (h : Head) (ps : List Pair) (a b : ℕ) where
  abbrev p : Lists.Pair
  p = smaller_first_pair a b

  abbrev k : ℕ
  k = place_number h ps a b

  -- where place refuses nothing head and list agree
  pub open_agrees : k ≡ 0 → agrees h ps ≡ true
  unfolding place_number
  open_agrees z = not-false _ (first_none _ h.n a b z).0

  place_left : (e : Refusal) → number_of e ≡ k → PlaceSays h ps a b (placed_of (Err e))
  place_left e f =
      record {
        number = f;
        held = sym (if_taken_old (number_of e) _ 0 (numbered e));
        at = sym (if_taken_old (number_of e) _ 0 (numbered e));
        stands = λ z. absurd (numbered e z);
      }

  -- 13
  pub place_disagrees : (e : Refusal) → number_of e ≡ refusal (cause 13 (not (agrees h ps)) ∷ []) → PlaceSays h ps a b (placed_of (Err e))
  unfolding place_number
  place_disagrees e f =
      let d = disagrees (agrees h ps) f (numbered e) in
      place_left e (d.1 ∙ sym (refusal_met 13 (not (agrees h ps)) (pair_causes 0 h.n a b) (rw d.0)))

  module _ (agreed : agrees h ps ≡ true) where
    number_then : k ≡ refusal (pair_causes 0 h.n a b)
    unfolding place_number
    number_then = refusal_passed 13 (not (agrees h ps)) (pair_causes 0 h.n a b) (rw agreed)

    -- 5, 4
    pub place_unfit : (e : Refusal) → number_of e ≡ refusal (pair_causes 0 h.n a b) → PlaceSays h ps a b (placed_of (Err e))
    place_unfit e f = place_left e (f ∙ sym number_then)

    -- as lookup is asked: the smaller module first, among the held records
    module _ (fit : 0 ≡ refusal (pair_causes 0 h.n a b)) {low high : ℕ} (low_is : low ≡ min a b) (high_is : high ≡ max a b) {held : List Pair}
        (held_is : held ≡ take h.m ps) {x : Place} (found : x ≡ located (pair low high) (as_pairs held)) where
      is_found : x ≡ located p (held_list h ps).pairs
      unfolding held_list smaller_first_pair
      is_found = found ∙ rw (low_is, high_is, held_is)

      pub place_few : x.at ≤ 4096
      unfolding located
      place_few =
          omega (arith, ap (λ (y : Place). y.at) is_found, place_le p (held_list h ps).pairs, length_held h ps agreed, (agrees_count h ps agreed).1)

      -- none
      pub place_done : PlaceSays h ps a b (record { number = 0; held = mark x.held; at = x.at })
      unfolding located if_taken
      place_done =
          rw is_found (record { number = fit ∙ sym number_then; held = refl; at = refl; stands = λ _. stands_at h ps agreed p })

-- ---- every list

-- what place answers of a list that is lent
pub lent_placed : {g : Pairs} {h : Head} {ps : List Pair} (a b : ℕ) {r : Placed} → Lent g h ps → PlaceSays h ps a b r →
    let p = smaller_first_pair a b in
    let k = refusal (pair_causes 0 g.n a b) in
    (r.number ≡ k) × (r.held ≡ if_taken k (mark (is_held p g.pairs)) 0) × (r.at ≡ if_taken k (place_of p g.pairs) 0)
unfolding place_number
lent_placed {g} {h} {ps} a b {r} lent says =
    let p = smaller_first_pair a b in
    let g_is : held_list h ps ≡ g = lent_list lent in
    let k : r.number ≡ refusal (pair_causes 0 g.n a b) =
    says.number ∙ refusal_passed 13 (not (agrees h ps)) (pair_causes 0 h.n a b) (rw (lent_agrees lent)) ∙ rw (n_is lent) in
    (k, says.held ∙ rw (k, g_is), says.at ∙ rw (k, g_is))
