-- The records that `neighbours` shows next to a pair are the nearest on either side.
--   nearest_at                               a record is the nearest on its side
--   predecessor_nearest, successor_nearest   those that are shown are
--   pair_turned, list_turned                 the text of two numbers, and of two arguments, in the other order
--   neighbours_nearest, neighbours_placed, neighbours_round    the promises of specs/Neighbours.antt
-- Assumes nothing.
use mathlib.Core.Path.{◌≡◌, refl, sym, ap, ◌∙◌}
use mathlib.Core.Bool.{Bool, true, false, ◌&&◌}
use mathlib.Core.List.{List, ◌++◌}
use Prim.Native.Nat.{ℕ, zero, suc, ◌+◌, ◌<◌}
use native.Mathlib.Omega.{arith}
use borrow.Author.Tests.{ltb-true, ltb-false, lt-ltb, le-ltb}
use lib.Dec.{ltb}
use lib.ListN.{length, get_or}
use Rattle.std.specs.Prelude.{Option, Some, None}
use Rattle.std.specs.List.{slice_get}
use Rattle.theory.specs.Basics.{mark}
use Rattle.theory.specs.Lists.{Pair, Pairs, stands_before, rising}
use Rattle.theory.specs.Refusals.{refusal, if_taken}
use Rattle.theory.proofs.Lists.{listed}
use Rattle.theory.proofs.Tests.{tests, no, fails, by_test}
use Rattle.pairs.specs.Held.{is_held, place_of, smaller_first_pair}
use Rattle.pairs.specs.Located.{located}
use Rattle.pairs.proofs.Causes.{pair_round, causes_round}
use Rattle.pairs.proofs.Order.{before_not_after, order_cases}
use Rattle.pairs.proofs.Rising.{place_le, place_before, place_from, held_at, held_place, place_at, entry_held, held_before, entry_before}
use Rattle.pairs.specs.Causes.{pair_causes}
use Rattle.lines.specs.Outcomes.{Outcome, refused, taken}
use Rattle.kandurzo.proofs.Placings.{lent_placed}
use Rattle.pairfile.specs.File.{read_file}
use Rattle.pairfile.specs.Promise.{ReadsLists}
use Rattle.pairfile.proofs.Promises.{reads_lists}
use Rattle.texts.specs.Converted.{converted}
use Rattle.texts.specs.Texts.{printed}
use Rattle.texts.specs.Arguments.{argument_number}
use Rattle.texts.specs.Neighbours.{
  record_before,
  predecessor,
  successor,
  before_form,
  after_form,
  record_line,
  place_text,
  pair_placed,
  list_printed,
  stands_after,
  Nearest,
  NeighboursNearest,
  NeighboursPlaced,
  NeighboursRound,
}
use Rattle.texts.proofs.Places.{entry_some, entry_none, pair_refused, pair_shown, neighbours_as, first_none, second_none, both_named}

-- ---- the records next to a pair

module _ (ps : List Pair) (up : rising ps ≡ true) (p : Pair) where
  -- a record is the nearest on its side where no held record stands between
  nearest_at : (side : Pair → Pair → Bool) (j : ℕ) → j < length ps → side (get_or ps j p) p ≡ true →
      ((r : Pair) → is_held r ps ≡ true → side (get_or ps j p) r ≡ true → side r p ≡ true → ⊥) → Nearest side p ps (slice_get ps j)
  unfolding Nearest
  nearest_at side j h s n =
      rw (entry_some ps j p h)
      (entry_held ps up j p h, s, λ r k. fails (side (get_or ps j p) r && side r p) (λ t. let t' = simp tests at t in n r k t'.0 t'.1))

  pub predecessor_nearest : Nearest stands_before p ps (predecessor (located p ps) ps)
  unfolding Nearest predecessor record_before located
  predecessor_nearest = go (place_of p ps) refl
    where
      go : (k : ℕ) → place_of p ps ≡ k → Nearest stands_before p ps (record_before k ps)
      go zero e = λ r h. held_before ps up r p h ∙ le-ltb (place_of r ps) (place_of p ps) (omega (arith, e))
      go (suc j) e =
          let h : j < length ps = omega (arith, e, place_le p ps) in
          let q = get_or ps j p in
          nearest_at stands_before j h (entry_before ps up p j h ∙ lt-ltb j (place_of p ps) (omega (arith, e)))
          (λ r k s t. omega (
            arith,
            e,
            place_at ps up j p h,
            ltb-true (place_of q ps) (place_of r ps) (sym (held_before ps up q r (entry_held ps up j p h)) ∙ s),
            ltb-true (place_of r ps) (place_of p ps) (sym (held_before ps up r p k) ∙ t),
          ))

  -- how many records stand before p or are p
  abbrev upto : ℕ
  upto = place_of p ps + mark (is_held p ps)

  -- p stands before none of these
  not_upto : (r : Pair) → is_held r ps ≡ true → place_of r ps < upto → stands_before p r ≡ false
  unfolding mark
  not_upto r h l =
      by_test (is_held p ps)
      (λ t. let l' = rw t at l in held_before ps up p r t ∙ le-ltb (place_of p ps) (place_of r ps) (omega arith))
      (λ t. let l' = rw t at l in before_not_after r p (held_before ps up r p h ∙ lt-ltb (place_of r ps) (place_of p ps) (omega arith)))

  -- and before the next
  before_next : upto < length ps → stands_before p (get_or ps upto p) ≡ true
  unfolding mark
  before_next h =
      let q = get_or ps upto p in
      by_test (is_held p ps)
      (λ t. held_before ps up p q t ∙ lt-ltb (place_of p ps) (place_of q ps) (rw (place_at ps up upto p h, t) (omega arith)))
      (λ t.
      let own : upto ≡ place_of p ps = rw t (omega arith) in
      order_cases p q (λ l g s. l)
      (λ l g s. no (sym t ∙ held_at p ps p up (omega (arith, own)) ∙ rw own at s))
      (λ l g s. no (sym (entry_before ps up p upto h ∙ le-ltb upto (place_of p ps) (omega (arith, own))) ∙ g)))

  pub successor_nearest : Nearest stands_after p ps (successor (located p ps) ps)
  unfolding Nearest successor located stands_after
  successor_nearest =
      by_test (ltb upto (length ps))
      (λ t.
      let h = ltb-true upto (length ps) t in
      let q = get_or ps upto p in
      nearest_at stands_after upto h (before_next h)
      (λ r k s u.
      let l = ltb-true (place_of r ps) (place_of q ps) (sym (held_before ps up r q k) ∙ s) in
      no (sym (not_upto r k (omega (arith, place_at ps up upto p h, l))) ∙ u)))
      (λ t. rw (entry_none ps upto (ltb-false upto (length ps) t))
      (λ r h. not_upto r h (omega (arith, held_place r ps h, ltb-false upto (length ps) t))))

-- ---- the promises

pub neighbours_nearest : NeighboursNearest
unfolding NeighboursNearest converted place_text located ReadsLists
neighbours_nearest file first second g a b e f s z =
    let p = smaller_first_pair a b in
    let up : rising g.pairs ≡ true = (listed g (reads_lists 4096 file g e).list).rises in
    record {
      place = place_of p g.pairs;
      before = predecessor (located p g.pairs) g.pairs;
      after = successor (located p g.pairs) g.pairs;
      is = neighbours_as file first second ∙ rw e (both_named first second g f s ∙ pair_shown g a b z);
      among = place_le p g.pairs;
      smaller = λ i l. place_before p g.pairs i p l;
      none_smaller = λ i l h. place_from p g.pairs i p up l h;
      before_nearest = predecessor_nearest g.pairs up p;
      after_nearest = successor_nearest g.pairs up p;
    }

pub neighbours_placed : NeighboursPlaced
unfolding NeighboursPlaced converted place_text located if_taken
neighbours_placed file first second g a b h ps r e f s lent says =
    let is = lent_placed a b lent says in
    let l = located (smaller_first_pair a b) g.pairs in
    let k : r.number ≡ refusal (pair_causes 0 g.n a b) = is.0 in (
      λ some. neighbours_as file first second ∙ rw e (both_named first second g f s ∙ pair_refused g a b k some),
      λ z.
          let taken : refusal (pair_causes 0 g.n a b) ≡ 0 = sym k ∙ z in
          let held : r.held ≡ mark l.held = rw taken at is.1 in
          let at : r.at ≡ l.at = rw taken at is.2 in (
            record_line before_form (predecessor l g.pairs) ++ record_line after_form (successor l g.pairs),
            neighbours_as file first second ∙ rw (e, held, at) (both_named first second g f s ∙ pair_shown g a b taken),
          ),
    )

-- the two numbers in the other order
pair_turned : (g : Pairs) (a b : ℕ) → pair_placed g a b ≡ pair_placed g b a
unfolding pair_placed
pair_turned g a b = rw (causes_round a b 0 g.n, pair_round a b)

-- and the two arguments
list_turned : (first second : List ℕ) (g : Pairs) → list_printed first second g ≡ list_printed second first g
list_turned first second g = go (argument_number first) refl (argument_number second) refl
  where
    go : (o : Option ℕ) → argument_number first ≡ o → (u : Option ℕ) → argument_number second ≡ u → list_printed first second g ≡ list_printed second first g
    go None e None d = first_none first second g e ∙ sym (first_none second first g d)
    go None e (Some b) d = first_none first second g e ∙ sym (second_none second first g d e)
    go (Some a) e None d = second_none first second g e d ∙ sym (first_none second first g d)
    go (Some a) e (Some b) d = both_named first second g e d ∙ ap printed (pair_turned g a b) ∙ sym (both_named second first g d e)

pub neighbours_round : NeighboursRound
unfolding NeighboursRound converted
neighbours_round file first second = neighbours_as file first second ∙ go (read_file 4096 file) ∙ sym (neighbours_as file second first)
  where
    go : (o : Outcome Pairs) → converted (list_printed first second) o ≡ converted (list_printed second first) o
    go (refused k) = refl
    go (taken g) = list_turned first second g
