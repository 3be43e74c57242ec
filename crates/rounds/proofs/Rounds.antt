-- What a round learns, and what all rounds do.
--   Bounded, candidate_bounded                           p and q of a ratio that some group reaches are small
--   known_few, known_small, known_weights                of a list and a ratio that are known: bounds, and the list's weights
--   core_marked                                          a scope by core numbers is the core of the ratio rounded up
--   group_candidate, group_found_candidate               a group's own ratio is one that some group reaches
--   found_bounded                                        the found group's inside count and size are small
--   opened_kept, opened_long, opened_few, opened_loads   what a round begins with stays so; as units
--   opened_room, opened_covers                           room for the units, and each load is what the module holds
--   marked_denser                                        modules marked by a number of theirs, counted, if they are denser
--   round_of                                             a round, from what `flow` answers
--   round_stuck, stuck_made                              a round, from a group that is denser; from one that is counted
--   Going, next_candidate, going_on                      what holds from round to round
--   at_found, rises, steps, steps_fall                   how many rounds are left at most: ratios rise, up to the found group's
--   stays, Searching, next_round, next_fewer             the same of the rounds of `find`
-- Assumes nothing.
use Rattle.std.proofs.Common.{◌≡◌, ℕ, suc, ◌-◌, ◌*◌, ◌/◌, ◌<◌, ◌≤◌, Bool, true, false, cond, ◌&&◌, eqb, leb, ltb, Option, Some, IfSome, ⊎_elim, List, length, get_or, sym, refl, ap, ◌∙◌, mul-le-mul_right, div-le_self, arith}
use borrow.Author.Tests.{ne_eqb}
use Rattle.std.proofs.lemmas.Bool.{cases_eq}
use Rattle.std.specs.Option.{option_eq}
use Rattle.std.specs.Bool.{then_some}
use Rattle.theory.specs.Basics.{mark}
use Rattle.theory.specs.Lists.{Pairs, is_list}
use Rattle.theory.specs.Groups.{size, is_group, inside, at_most, Found, found_of}
use Rattle.theory.specs.Cores.{core}
use Rattle.theory.specs.Splits.{rounded_up}
use Rattle.theory.specs.Words.{list_in, HeldWords}
use Rattle.theory.specs.Promise.{FoundAlone, FoundOutright}
use Rattle.theory.proofs.Tests.{tests, no, fails, mark_le}
use Rattle.theory.proofs.Lists as theory
use Rattle.theory.proofs.Groups.{size_pos, group_bits, bits_group, inside_none}
use Rattle.theory.proofs.Bounds.{inside_bound, size_le_length}
use Rattle.theory.proofs.Cores.{length_core}
use Rattle.theory.proofs.Densest.{found_alone}
use Rattle.theory.proofs.Best.{found_outright}
use Rattle.numbers.specs.declared.Ratio.{Ratio}
use Rattle.lists.specs.Listed.{listed}
use Rattle.slots.specs.declared.units.Units.{Units}
use Rattle.slots.specs.Slots.{Room, Loads, Covers, Kept}
use Rattle.slots.specs.Split.{Split, Weights}
use Rattle.slots.specs.Views.{UnitsKept}
use Rattle.slots.proofs.Buffers.{good_bytes}
use Rattle.slots.proofs.Moves.{kept_loads}
use Rattle.slots.proofs.Words.{few_modules, list_weights}
use Rattle.flow.specs.Flow.{Flowed, Largest}
use Rattle.rounds.specs.declared.known.Known.{Known}
use Rattle.rounds.specs.Known.{Candidate, Cored}
use Rattle.rounds.specs.Search.{Searchable, no_load, Opened, UnitsOpened, Counted, DenserCounted, Round, RoundMade, GroupFound}
use Rattle.rounds.proofs.Units.{split_kept, split_room, none_own, no_own}
use Rattle.rounds.proofs.Answers.{denser_group}
use Rattle.rounds.proofs.Scopes.{marked_core, reached_candidate}
use Rattle.rounds.proofs.Enough.{none_above, drained_found, ratio_rises}

-- ---- what is known

-- p and q are small
pub record Bounded (p q : ℕ) : Type 0 where
  pub few : p ≤ 4096000
  pub some : 1 ≤ q
  pub small : q ≤ 512

-- of a ratio that some group reaches they are
pub candidate_bounded : (g : Pairs) (p q : ℕ) → is_list g ≡ true → Candidate g p q → Bounded p q
candidate_bounded g p q l c = record { few = c.few; some = c.some; small = omega (arith, c.small, (theory.listed g l).few) }

module _ (known : Known) where
  pub known_few : known.list.n ≤ 512
  known_few = few_modules _ _ _ _ known.list.held.listed

  pub known_small : known.ratio.q ≤ 512
  known_small = (candidate_bounded _ _ _ known.list.held.listed known.at_hand).small

  pub known_weights : Weights known.list.m known.list.weights.now
  known_weights = list_weights known.list.n _ known.list.ends.now _ known.list.held.listed known.list.held.weights_long

  -- bytes by core numbers are a core
  pub core_marked : (k : ℕ) (scope : List ℕ) → length scope ≡ known.list.n → k ≡ rounded_up known.ratio.p known.ratio.q →
      ((v : ℕ) → v < known.list.n → get_or scope v 0 ≡ mark (leb k (get_or known.cores.now v 0))) →
      scope ≡ core (listed known.list) (rounded_up known.ratio.p known.ratio.q)
  unfolding list_in
  core_marked k scope long order marked =
      marked_core (listed known.list) k known.cores.now scope known.list.held.listed known.cored long marked
      ∙ ap (core (listed known.list)) order

-- a group's own ratio
pub group_candidate : (g : Pairs) (s : List ℕ) (p q : ℕ) → is_list g ≡ true → is_group g s ≡ true → p ≡ inside g s → q ≡ size s → Candidate g p q
group_candidate g s p q l h ep eq =
    let b = group_bits g s h in
    reached_candidate g p q s l h (rw (ep, eq) (omega arith)) (omega (arith, inside_bound g s l)) (omega (arith, size_pos g s h))
    (omega (arith, b.0, size_le_length s b.1))

-- the found group's
pub group_found_candidate : {n m p q : ℕ} {ends weights scope hold s : List ℕ} → is_list (list_in n m ends weights) ≡ true →
    GroupFound n m ends weights scope hold s p q → Candidate (list_in n m ends weights) p q
group_found_candidate l f = group_candidate _ _ _ _ l f.found.group f.inside_count f.modules

-- the found group's inside count and size are small
pub found_bounded : {n m p q : ℕ} {ends weights s : List ℕ} → HeldWords n m ends weights → Found (list_in n m ends weights) s →
    Counted n m ends weights s p q → Bounded p q
found_bounded h f k = candidate_bounded _ _ _ h.listed (group_candidate _ _ _ _ h.listed f.group k.inside_count k.modules)

-- ---- what a round begins with

-- it stays so where units move within pairs, and loads with them
pub opened_kept : {known : Known} {scope : List ℕ} {units units' : Units} → UnitsOpened known scope units → UnitsKept units units' →
    UnitsOpened known scope units'
opened_kept {known} {scope} {units} {units'} u kept =
    let o = u.opened in
    let k : Kept known.list.n known.list.m known.list.ends.now units.hold.now units.load.now units'.hold.now units'.load.now =
    rw (u.graph.modules, u.graph.pairs, u.graph.ends) at kept.kept in
    record {
      graph = rw kept.same.graph u.graph;
      opened = record {
        scope_is = o.scope_is;
        split =
            split_kept known.list.n known.list.m known.ratio.q known.list.ends.now known.list.weights.now scope units.hold.now o.split
            units'.hold.now k.hold_long k.units;
        loads = kept_loads k o.loads;
        load_long = k.load_long ∙ o.load_long;
      };
    }

-- the scope has a byte for each module
pub opened_long : {known : Known} {scope : List ℕ} {units : Units} → UnitsOpened known scope units → length scope ≡ units.graph.n
unfolding list_in
opened_long {known} u = ap length u.opened.scope_is ∙ length_core (listed known.list) _ ∙ sym u.graph.modules

-- so at most 512 bytes
pub opened_few : {known : Known} {scope : List ℕ} {units : Units} → UnitsOpened known scope units → length scope ≤ 512
opened_few {known} u = omega (arith, opened_long u, u.graph.modules, known_few known)

-- the loads, as the units have them
pub opened_loads : {known : Known} {scope : List ℕ} {units : Units} → UnitsOpened known scope units →
    Loads units.graph.n units.graph.m no_load units.graph.ends.now units.hold.now units.load.now
opened_loads u = rw (u.graph.modules, u.graph.pairs, u.graph.ends) u.opened.loads

-- room for the units, and each load is what the module holds
pub opened_room : {known : Known} {scope hold load : List ℕ} → Opened known scope hold load → Room known.list.m hold
opened_room {known} o = split_room known.list.n _ _ _ _ _ _ o.split (known_small known) (known_weights known)

pub opened_covers : {known : Known} {scope hold load : List ℕ} → Opened known scope hold load →
    Covers known.list.n known.list.m known.list.ends.now hold load
opened_covers o = record {
  long = o.loads.long;
  least = λ v h. omega (arith, o.loads.same v h, none_own v);
  most = λ v h. omega (arith, o.loads.same v h, none_own v);
}

-- ---- a round

-- modules marked by a number of theirs, counted, if they are denser than the ratio at hand
pub marked_denser : (known : Known) (k : ℕ) (numbers group : List ℕ) (ratio : Ratio) (denser : Bool) → length group ≡ known.list.n →
    ((v : ℕ) → v < known.list.n → get_or group v 0 ≡ mark (leb k (get_or numbers v 0))) →
    Counted known.list.n known.list.m known.list.ends.now known.list.weights.now group ratio.p ratio.q →
    denser ≡ ltb (known.ratio.p * ratio.q) (ratio.p * known.ratio.q) → IfSome (then_some denser ratio) (DenserCounted known group)
unfolding list_in inside
marked_denser known k numbers group ratio false long marks counted more = tt
marked_denser known k numbers group ratio true long marks counted more =
    let g = listed known.list in
    let bytes = good_bytes group (λ v h. omega (arith, marks v (omega arith), simp tests at (mark_le (leb k (get_or numbers v 0))))) in
    let denser : known.ratio.p * size group < inside g group * known.ratio.q =
    omega (
      arith,
      simp tests at (sym more),
      ap (λ (z : ℕ). known.ratio.p * z) counted.modules,
      ap (λ (z : ℕ). z * known.ratio.q) counted.inside_count,
    ) in
    let some : 0 < size group =
    ⊎_elim (λ (e : size group ≡ 0). absurd (omega (arith, denser, ap (λ (z : ℕ). z * known.ratio.q) (inside_none g.pairs group e))))
    (λ (h : size group ≡ 0 → ⊥). omega arith) (cases_eq (size group) 0) in
    record { counted = counted; is_a_group = bits_group g group (long, bytes) some; denser = denser }

-- whether the group counted has no higher ratio says what a round has found: with no load above p, none has
made : (known : Known) (scope hold group : List ℕ) (ratio : Ratio) (r : Bool) →
    Counted known.list.n known.list.m known.list.ends.now known.list.weights.now group ratio.p ratio.q →
    Round known.list.n known.list.m known.ratio.p known.ratio.q known.list.ends.now known.list.weights.now scope hold group r →
    RoundMade known scope hold group ratio
unfolding list_in FoundOutright
made known scope hold group ratio r counted d = record { counted = counted; round = rw (same r refl) d }
  where
    p : ℕ
    p = known.ratio.p

    q : ℕ
    q = known.ratio.q

    -- both sides by the group
    sides : (inside (listed known.list) group * q ≡ ratio.p * q) × (p * size group ≡ p * ratio.q)
    sides = (ap (λ (z : ℕ). z * q) (sym counted.inside_count), ap (λ (z : ℕ). p * z) (sym counted.modules))

    same : (x : Bool) → r ≡ x → leb (ratio.p * q) (p * ratio.q) ≡ r
    same true e =
        let g = listed known.list in
        let split : Split known.list.m q known.list.ends.now known.list.weights.now (core g (rounded_up p q)) hold = rw d.scope_is at d.split in
        let l = known.list.held.listed in
        let at_hand = known.at_hand in
        let le =
        none_above known.list.n known.list.m p q no_load known.list.ends.now known.list.weights.now hold (found_of g) l (found_outright g l).group
        at_hand.reached at_hand.some (λ v _. none_own v) split (λ v h. omega (arith, d.good e v h, none_own v)) group (d.found e) in
        rw e (simp tests (omega (arith, le, sides)))
    same false e = rw e (fails _ (λ y. omega (arith, d.denser e, sides, simp tests at y)))

pub round_of : {known : Known} {scope hold group : List ℕ} {units : Units} {ratio : Ratio} {r : Bool} → UnitsOpened known scope units →
    Flowed units.graph.n units.graph.m known.ratio.p no_load scope units.graph.ends.now units.hold.now hold group r →
    Counted known.list.n known.list.m known.list.ends.now known.list.weights.now group ratio.p ratio.q → RoundMade known scope hold group ratio
unfolding FoundOutright
round_of {known} {scope} {hold} {group} {units} {ratio} {r} u flowed counted =
    let o = u.opened in
    let g = listed known.list in
    let l = known.list.held.listed in
    let at_hand = known.at_hand in
    let n = known.list.n in
    let m = known.list.m in
    let ends = known.list.ends.now in
    let weights = known.list.weights.now in
    let f : Flowed n m known.ratio.p no_load scope ends units.hold.now hold group r = rw (u.graph.modules, u.graph.pairs, u.graph.ends) at flowed in
    let sp = split_kept n m known.ratio.q ends weights scope units.hold.now o.split hold f.long f.units in
    let dg : r ≡ false → _ = λ z.
    denser_group n m known.ratio.p known.ratio.q no_load ends weights scope hold sp (λ v b. absurd (omega (arith, none_own v))) group (f.denser z) in
    let core_split : Split m known.ratio.q ends weights (core (listed known.list) (rounded_up known.ratio.p known.ratio.q)) hold = rw o.scope_is at sp in
    made known scope hold group ratio r counted
    (record {
      scope_is = o.scope_is;
      split = sp;
      room = split_room n m known.ratio.q ends weights scope hold sp (known_small known) (known_weights known);
      good = λ z v b. omega (arith, f.good z v b, none_own v);
      found = λ z.
          let lar : Largest n m known.ratio.p no_load (core (listed known.list) (rounded_up known.ratio.p known.ratio.q)) ends hold group =
          rw o.scope_is at (f.largest z) in
          drained_found n m known.ratio.p known.ratio.q no_load ends weights hold (found_of g) l (found_outright g l).group at_hand.reached at_hand.some
          (λ v _. none_own v) core_split (f.good z) group lar;
      is_a_group = λ z. (dg z).group;
      denser = λ z. omega (arith, (dg z).more, no_own group);
    })

-- a group that is denser ends a round
pub round_stuck : {n m p q : ℕ} {ends weights scope hold group : List ℕ} → scope ≡ core (list_in n m ends weights) (rounded_up p q) →
    Split m q ends weights scope hold → Room m hold → is_group (list_in n m ends weights) group ≡ true →
    p * size group < inside (list_in n m ends weights) group * q → Round n m p q ends weights scope hold group false
round_stuck e split room group more = record {
  scope_is = e;
  split = split;
  room = room;
  good = λ z. no z;
  found = λ z. no z;
  is_a_group = λ _. group;
  denser = λ _. more;
}

-- a counted one, at what is known
pub stuck_made : {known : Known} {scope hold load group : List ℕ} {ratio : Ratio} → Opened known scope hold load → DenserCounted known group ratio →
    RoundMade known scope hold group ratio
stuck_made {known} {scope} {hold} {load} {group} {ratio} o d =
    made known scope hold group ratio false d.counted (round_stuck o.scope_is o.split (opened_room o) d.is_a_group d.denser)

-- ---- from round to round

-- p over q is a ratio that some group reaches; at the end, the found group's, with a split at its size
pub record Going (n m : ℕ) (ends weights cores scope hold group : List ℕ) (p q : ℕ) (settled : Bool) : Type 0 where
  pub held : HeldWords n m ends weights
  pub at_hand : Candidate (list_in n m ends weights) p q
  pub cored : Cored (list_in n m ends weights) cores
  pub asks : Searchable n m scope hold group
  pub ended : settled ≡ true → GroupFound n m ends weights scope hold group p q

-- whether p and q are the found group's inside count and size
abbrev pub at_found : Pairs → (p q : ℕ) → Bool
at_found g p q = eqb p (inside g (found_of g)) && eqb q (size (found_of g))

-- rounds left at most: one at the found group's own ratio; before it, by the ratio at n · n
unfoldable pub steps : (g : Pairs) → (p q : ℕ) → (settled : Bool) → ℕ
steps g p q settled = cond settled 0 (cond (at_found g p q) 1 (suc (suc (4096000 * (g.n * g.n) - p * (g.n * g.n) / q))))

-- the group of a round is a group
round_group : (n m p q : ℕ) (ends weights scope hold group : List ℕ) (r : Bool) → Round n m p q ends weights scope hold group r →
    is_group (list_in n m ends weights) group ≡ true
round_group n m p q ends weights scope hold group true d = (d.found refl).group
round_group n m p q ends weights scope hold group false d = d.is_a_group refl

-- a round at p over q; p' and q' are its group's
module _ {n m : ℕ} {ends weights scope hold group : List ℕ} {p q p' q' : ℕ} {r : Bool} (h : HeldWords n m ends weights)
    (c : Candidate (list_in n m ends weights) p q) (d : Round n m p q ends weights scope hold group r) (k : Counted n m ends weights group p' q') where
  abbrev g : Pairs
  g = list_in n m ends weights

  -- the next round's ratio is one that some group reaches
  pub next_candidate : Candidate g p' q'
  next_candidate = group_candidate g group p' q' h.listed (round_group n m p q ends weights scope hold group r d) k.inside_count k.modules

  -- a split was found: what it leaves is the found group's
  leaves_found : r ≡ true → (p' ≡ inside g (found_of g)) × (q' ≡ size (found_of g))
  unfolding FoundAlone FoundOutright
  leaves_found e =
      let one : group ≡ found_of g = found_alone g group (found_of g) h.listed (d.found e) (found_outright g h.listed) in
      (k.inside_count ∙ ap (inside g) one, k.modules ∙ ap size one)

  -- none was found: p and q were not the found group's, since none is denser
  before_found : r ≡ false → at_found g p q ≡ true → ⊥
  unfolding at_most FoundOutright
  before_found er e =
      let both = simp tests at e in
      let most = (found_outright g h.listed).greatest group (d.is_a_group er) in
      omega (
        arith,
        d.denser er,
        simp tests at most,
        ap (λ (z : ℕ). z * size group) both.0,
        ap (λ (z : ℕ). inside g group * z) both.1,
      )

  -- the ratio rises
  rises : r ≡ false → 4096000 * (n * n) - p' * (n * n) / q' < 4096000 * (n * n) - p * (n * n) / q
  unfolding list_in
  rises er =
      let next = next_candidate in
      let up : p * q' < p' * q = omega (arith, d.denser er, ap (λ (z : ℕ). p * z) k.modules, ap (λ (z : ℕ). z * q) k.inside_count) in
      let rise = ratio_rises p q p' q' n c.some next.some c.small next.small up in
      omega (arith, rise, div-le_self (p' * (n * n)) q', mul-le-mul_right (n * n) next.few)

  -- t: it leaves the ratio that it was made at
  module _ {t : Bool} (same : t ≡ (eqb p' p && eqb q' q)) where
    -- then it has found a split: it leaves no denser group
    same_found : t ≡ true → r ≡ true
    same_found e = go r refl
      where
        go : (x : Bool) → r ≡ x → x ≡ true
        go true er = refl
        go false er =
            let both = simp tests at (sym same ∙ e) in
            absurd (
            omega (arith, d.denser er, ap (λ (z : ℕ). p * z) (sym k.modules ∙ both.1), ap (λ (z : ℕ). z * q) (sym k.inside_count ∙ both.0)))

    -- it goes on at the group's ratio
    pub going_on : {cores : List ℕ} → Cored g cores → length scope ≡ n → length group ≡ n → Going n m ends weights cores scope hold group p' q' t
    going_on cored ls lg = record {
      held = h;
      at_hand = next_candidate;
      cored = cored;
      asks = record { scope_long = ls; group_long = lg; room = d.room };
      ended = λ e.
          let er = same_found e in
          let both = simp tests at (sym same ∙ e) in
          record { found = d.found er; inside_count = k.inside_count; modules = k.modules; last = rw (both.0, both.1) (rw er at d) };
    }

    -- fewer rounds are left
    pub steps_fall : {settled : Bool} → settled ≡ false → steps g p' q' t < steps g p q settled
    unfolding steps list_in
    steps_fall e = rw e (go (at_found g p q) (at_found g p' q') r t refl refl refl refl)
      where
        go : (b b' x y : Bool) → at_found g p q ≡ b → at_found g p' q' ≡ b' → r ≡ x → t ≡ y →
            cond y 0 (cond b' 1 (suc (suc (4096000 * (n * n) - p' * (n * n) / q')))) < cond b 1 (suc (suc (4096000 * (n * n) - p * (n * n) / q)))
        go true b' x true eb eb' er et = omega arith
        go false b' x true eb eb' er et = omega arith
        go true b' true false eb eb' er et =
            let own = leaves_found er in
            let at = simp tests at eb in
            no (sym et ∙ same ∙ simp tests (own.0 ∙ sym at.0, own.1 ∙ sym at.1))
        go false true true false eb eb' er et = omega arith
        go false false true false eb eb' er et = no (sym eb' ∙ simp tests (leaves_found er))
        go true b' false false eb eb' er et = absurd (before_found er eb)
        go false true false false eb eb' er et = omega arith
        go false false false false eb eb' er et = omega (arith, rises er)

-- ---- the rounds of find

-- whether the last round was made at this ratio
abbrev pub same_ratio : (last ratio : Ratio) → Bool
same_ratio last ratio = eqb last.p ratio.p && eqb last.q ratio.q

abbrev pub stays : (last : Option Ratio) → (ratio : Ratio) → Bool
stays last ratio = option_eq same_ratio last (Some ratio)

-- what is known is of the same list, and it goes on
pub record Searching (first known : Known) (last : Option Ratio) (scope hold group : List ℕ) : Type 0 where
  pub same_list : known.list ≡ first.list
  pub going : Going known.list.n known.list.m known.list.ends.now known.list.weights.now known.cores.now scope hold group known.ratio.p known.ratio.q
      (stays last known.ratio)

-- to be the same is so both ways
eqb_turns : (a b : ℕ) → eqb a b ≡ eqb b a
eqb_turns a b =
    ⊎_elim (λ (e : a ≡ b). rw e refl) (λ (ne : a ≡ b → ⊥). rw (ne_eqb a b ne, ne_eqb b a (λ e. ne (sym e))) refl) (cases_eq a b)

-- of ratios too
same_turned : (last ratio : Ratio) → same_ratio last ratio ≡ (eqb ratio.p last.p && eqb ratio.q last.q)
same_turned last ratio = rw (eqb_turns ratio.p last.p, eqb_turns ratio.q last.q) refl

-- a round at what is known, and what the next round knows
module _ {known : Known} {scope hold group : List ℕ} {ratio : Ratio} (d : RoundMade known scope hold group ratio) (next : Known)
    (list : next.list ≡ known.list) (at : next.ratio ≡ ratio) where
  -- it goes on
  pub next_round : {first : Known} → known.list ≡ first.list → length scope ≡ known.list.n → length group ≡ known.list.n →
      Searching first next (Some known.ratio) scope hold group
  next_round e ls lg = record {
    same_list = list ∙ e;
    going = rw (list, at) (going_on known.list.held known.at_hand d.round d.counted (same_turned known.ratio ratio) (rw list at next.cored) ls lg);
  }

  -- fewer rounds are left
  pub next_fewer : (last : Option Ratio) → stays last known.ratio ≡ false →
      steps (listed next.list) next.ratio.p next.ratio.q (stays (Some known.ratio) next.ratio)
      < steps (listed known.list) known.ratio.p known.ratio.q (stays last known.ratio)
  next_fewer last e = rw (list, at) (steps_fall known.list.held known.at_hand d.round d.counted (same_turned known.ratio ratio) e)
