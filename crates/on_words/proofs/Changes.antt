-- What add and remove do on words.
--   is_there, place_below, count_there, count_few       what lies at the place of a held pair that lookup has found
--   not_there, count_none                               what is known of a pair that it has not found
--   found_at                        as lookup is asked of the pair of a and b
--   passes, stays                   19 by its count
--   found_pair                      the pair of some stops
--   full_less                       a list that is not full has room for a record
--   raised_few, raised_there        how many pairs there are after an add that is taken, and which
--   add_unfit, add_miscounted, add_full, add_done       what add leaves after 5 and 4, after 18, after 19 and 11, and where it is taken
--   stops_few, raise_fits, raise_few                    what it asks of the functions below it
--   remove_unfit, remove_missing, remove_done           what remove leaves after 5 and 4, after 14, and where it is taken
-- Assumes nothing.
use mathlib.Core.Path.{◌≡◌, refl, sym, ap, ◌∙◌}
use mathlib.Core.Bool.{Bool, true, false, ◌&&◌, ◌||◌, not}
use mathlib.Core.List.{List, [], ◌∷◌}
use Prim.Native.Nat.{ℕ, ◌+◌, ◌-◌, ◌≤◌, ◌<◌, min, max}
use native.Mathlib.Omega.{arith}
use lib.Dec.{eqb}
use lib.ListN.{length, get_or}
use borrow.Author.Tests.{eqb-false, lt-ltb, le-ltb}
use Rattle.std.proofs.Common.{Ok, Err}
use Rattle.theory.specs.Basics.{all}
use Rattle.theory.specs.Lists.{Pair, pair, weight_in_range}
use Rattle.theory.specs.Refusals.{cause, refusal}
use Rattle.theory.specs.Words.{laid_pairs, laid_list, HoldsList}
use Rattle.theory.proofs.Lists.{listed}
use Rattle.theory.proofs.Refusals.{refusal_passed, if_taken_new, if_taken_old}
use Rattle.theory.proofs.Tests.{tests, no, by_test}
use Rattle.theory.proofs.Words.{laid_at}
use Rattle.refusals.specs.declared.Refusal.{Refusal}
use Rattle.refusals.specs.Numbers.{number_of}
use Rattle.pairs.specs.Held.{same_ends, is_held, weight_of, place_of, raise_pair, smaller_first_pair, stops_of}
use Rattle.pairs.specs.Causes.{pair_causes, count_causes, count_passes}
use Rattle.pairs.specs.Located.{RisingWords, Place, place_in, located}
use Rattle.pairs.specs.Counts.{counted, Raisable, raised, pairs_raised}
use Rattle.pairs.specs.Shifts.{delete_at}
use Rattle.pairs.specs.declared.Stops.{Stops}
use Rattle.pairs.proofs.Causes.{count_known, count_stays}
use Rattle.pairs.proofs.Keeps.{not_held_weight}
use Rattle.pairs.proofs.Places.{weight_at, located_any}
use Rattle.pairs.proofs.Words.{holds_rising, place_held}
use Rattle.pairs.proofs.Ends.{stops_weight}
use Rattle.pairs.proofs.WordCounts.{raise_asks, raised_pairs}
use Rattle.lines.proofs.Found.{numbered}
use Rattle.records.specs.declared.Head.{Head}
use Rattle.on_words.specs.Edits.{head_of, is_full, pair_located, add_on_number, AddOn, remove_on_number, RemoveOn}
use Rattle.on_words.proofs.Orders.{First, Unmet, add_first, add_18, add_room, add_none, remove_first, remove_14, remove_taken}

-- no count in a list passes 1,000
weight_few : (p : Pair) (ps : List Pair) → all weight_in_range ps ≡ true → weight_of p ps ≤ 1000
unfolding weight_of all weight_in_range
weight_few p [] e = omega arith
weight_few p (r ∷ rs) e = let e' = simp tests at e in by_test (same_ends p r) (λ t. rw t e'.0.1) (λ t. rw t (weight_few p rs e'.1))

-- ---- what lookup has found

module _ (n m : ℕ) (words : List ℕ) (holds : HoldsList n m words) (p : Pair) where
  rising : RisingWords m words
  rising = holds_rising n m words holds

  module _ {i : ℕ} (found : place_in (Ok i) ≡ located p (laid_pairs m words)) where
    pub is_there : is_held p (laid_pairs m words) ≡ true
    unfolding located
    is_there = sym (ap (λ (x : Place). x.held) found)

    its_place : i ≡ place_of p (laid_pairs m words)
    unfolding located
    its_place = ap (λ (x : Place). x.at) found

    pub place_below : (i < m) × (m ≤ 4096) × (12288 ≤ length words)
    place_below = (rw its_place (place_held m p words is_there), rising.few, rising.long)

    pub count_there : get_or words (8192 + i) 0 ≡ weight_of p (laid_pairs m words)
    count_there =
        let there = laid_at m words i (pair 0 0) place_below.0 in
        let at = ap (λ (j : ℕ). get_or (laid_pairs m words) j (pair 0 0)) (sym its_place) ∙ there in
        sym (weight_at p (laid_pairs m words) (pair 0 0) rising.rises is_there ∙ ap (λ (q : Pair). q.w) at)

    pub count_few : get_or words (8192 + i) 0 ≤ 1000
    unfolding laid_list
    count_few = omega (arith, count_there, weight_few p (laid_pairs m words) (listed (laid_list n m words) holds.listed).weights)

  module _ {i : ℕ} (found : place_in (Err i) ≡ located p (laid_pairs m words)) where
    pub not_there : is_held p (laid_pairs m words) ≡ false
    unfolding located
    not_there = sym (ap (λ (x : Place). x.held) found)

    pub count_none : 0 ≡ weight_of p (laid_pairs m words)
    count_none = sym (not_held_weight p (laid_pairs m words) not_there)

-- as lookup is asked of the pair of a and b: the smaller first
pub found_at : (a b : ℕ) (ps : List Pair) {c d : ℕ} {x : Place} → c ≡ min a b → d ≡ max a b → x ≡ located (pair c d) ps →
    x ≡ located (smaller_first_pair a b) ps
unfolding smaller_first_pair
found_at a b ps e f g = g ∙ rw (e, f)

-- 19 by the count
module _ (p : Pair) (w : ℕ) (ps : List Pair) {k : ℕ} (counted : k ≡ weight_of p ps) where
  pub passes : 1000 < k + w → count_passes p w ps ≡ true
  unfolding count_passes
  passes h = rw (← counted) (lt-ltb 1000 (k + w) h)

  pub stays : k + w ≤ 1000 → count_passes p w ps ≡ false
  unfolding count_passes
  stays h = rw (← counted) (le-ltb 1000 (k + w) h)

-- a list that is not full has room for a record
pub full_less : (h : Head) (len : ℕ) → h.m ≤ 4096 → h.m ≤ len → is_full h len ≡ false → (h.m < 4096) × (h.m < len)
unfolding is_full
full_less h len few fits e = go (eqb h.m 4096) (eqb h.m len) refl refl e
  where
    go : (t u : Bool) → eqb h.m 4096 ≡ t → eqb h.m len ≡ u → (t || u) ≡ false → (h.m < 4096) × (h.m < len)
    go true u f g e = no (sym e)
    go false true f g e = no (sym e)
    go false false f g e =
        let d : h.m ≡ 4096 → ⊥ = eqb-false h.m 4096 f in
        let b : h.m ≡ len → ⊥ = eqb-false h.m len g in
        (omega arith, omega arith)

-- 5 and 4 stand first, since head and list agree
first : (n a b : ℕ) → First false n a b ≡ refusal (pair_causes 0 n a b)
first n a b = refusal_passed 13 false (pair_causes 0 n a b) refl

-- ---- add

-- the pair of some stops
module _ (a b w : ℕ) {s : Stops} (same : counted s ≡ stops_of a b w) where
  pub found_pair : pair s.a s.b ≡ smaller_first_pair a b
  unfolding pair smaller_first_pair stops_of
  found_pair = ap (λ (p : Pair). pair p.a p.b) same

  count_is : s.w ≡ w
  unfolding stops_of
  count_is = ap (λ (p : Pair). p.w) same

  pub stops_few : refusal (count_causes w) ≡ 0 → s.w ≤ 1000
  stops_few c = omega (arith, count_is, (count_known w c).1)

-- where add is taken
module _ (h : Head) (len : ℕ) (words : List ℕ) (a b w : ℕ) (holds : HoldsList h.n h.m words) (fits : h.m ≤ len)
    (taken : add_on_number h len words a b w ≡ 0) where
  abbrev held_before : List Pair
  held_before = laid_pairs h.m words

  abbrev place_there : Place
  place_there = pair_located h words a b

  passed : Unmet false (laid_list h.n h.m words) (is_full h len) a b w
  unfolding add_on_number
  passed = add_none false (laid_list h.n h.m words) (is_full h len) a b w taken

  there_is : place_there ≡ located (stops_of a b w) held_before
  unfolding pair_located smaller_first_pair pair stops_of
  there_is = located_any (min a b) (max a b) 1 w held_before

  free : place_there.held ≡ false → (h.m < 4096) × (h.m < len)
  unfolding pair_located located laid_list
  free new = full_less h len (holds_rising h.n h.m words holds).few fits (passed.room new)

  below : weight_of (stops_of a b w) held_before + w ≤ 1000
  unfolding laid_list
  below = omega (arith, stops_weight a b w held_before, count_stays (smaller_first_pair a b) w held_before passed.within)

  raise_there : Raisable h.m place_there w words
  unfolding stops_of
  raise_there =
      raise_asks h.m place_there (stops_of a b w) words (holds_rising h.n h.m words holds) there_is (λ _. omega (arith, below)) (λ new. (free new).0)

  -- how many pairs there are then
  pub raised_few : (pairs_raised h.m place_there ≤ 4096) × (pairs_raised h.m place_there ≤ len)
  unfolding pairs_raised
  raised_few =
      by_test place_there.held
      (λ t. rw t ((holds_rising h.n h.m words holds).few, fits))
      (λ t. rw t (omega (arith, (free t).0), omega (arith, (free t).1)))

  -- and which
  pub raised_there : laid_pairs (pairs_raised h.m place_there) (raised h.m place_there (stops_of a b w) words) ≡ raise_pair (stops_of a b w) held_before
  unfolding stops_of
  raised_there = raised_pairs h.m place_there (stops_of a b w) words raise_there (holds_rising h.n h.m words holds) there_is

module _ (h : Head) (len : ℕ) (words : List ℕ) (a b w : ℕ) where
  abbrev p : Pair
  p = smaller_first_pair a b

  abbrev held_now : List Pair
  held_now = laid_pairs h.m words

  abbrev there : Place
  there = pair_located h words a b

  -- a refusal leaves the words
  add_left : (e : Refusal) → number_of e ≡ add_on_number h len words a b w → AddOn h len words a b w (Err e) words
  add_left e is = record { number = is; head = tt; after = sym (if_taken_old (number_of e) _ words (numbered e)) }

  -- 5, 4
  pub add_unfit : (e : Refusal) → number_of e ≡ refusal (pair_causes 0 h.n a b) → AddOn h len words a b w (Err e) words
  unfolding add_on_number laid_list
  add_unfit e f =
      let k : number_of e ≡ First false h.n a b = f ∙ sym (first h.n a b) in
      add_left e (k ∙ sym (add_first false (laid_list h.n h.m words) (is_full h len) a b w (λ z. numbered e (k ∙ z))))

  module _ (fit : refusal (pair_causes 0 h.n a b) ≡ 0) where
    -- 18
    pub add_miscounted : (e : Refusal) → number_of e ≡ refusal (count_causes w) → AddOn h len words a b w (Err e) words
    unfolding add_on_number laid_list
    add_miscounted e f =
        add_left e (f ∙ sym (add_18 false (laid_list h.n h.m words) (is_full h len) a b w (first h.n a b ∙ fit) (λ z. numbered e (f ∙ z))))

    module _ (count : refusal (count_causes w) ≡ 0) {s : Stops} (same : counted s ≡ stops_of a b w) where
      -- 19, 11
      room_number : {k : ℕ} → (let q = pair s.a s.b in
          k ≡ refusal (cause 19 (count_passes q s.w held_now) ∷ cause 11 (not (is_held q held_now) && is_full h len) ∷ [])) →
          k ≡ add_on_number h len words a b w
      unfolding add_on_number laid_list
      room_number f =
          rw (found_pair a b w same, count_is a b w same) at f
          ∙ sym (add_room false (laid_list h.n h.m words) (is_full h len) a b w (first h.n a b ∙ fit) count)

      pub add_full : (e : Refusal) → (let q = pair s.a s.b in
          number_of e ≡ refusal (cause 19 (count_passes q s.w held_now) ∷ cause 11 (not (is_held q held_now) && is_full h len) ∷ [])) →
          AddOn h len words a b w (Err e) words
      add_full e f = add_left e (room_number f)

      -- none
      module _ (room : let q = pair s.a s.b in
          0 ≡ refusal (cause 19 (count_passes q s.w held_now) ∷ cause 11 (not (is_held q held_now) && is_full h len) ∷ []))
          {place : Place} (found : place ≡ located (pair s.a s.b) held_now) where
        place_is : place ≡ there
        unfolding pair_located
        place_is = found ∙ ap (λ (q : Pair). located q held_now) (found_pair a b w same)

        pub raise_fits : HoldsList h.n h.m words → h.m ≤ len → Raisable h.m place s.w words
        raise_fits holds fits = rw (place_is, count_is a b w same) (raise_there h len words a b w holds fits (sym (room_number room)))

        pub raise_few : HoldsList h.n h.m words → h.m ≤ len → pairs_raised h.m place ≤ 4096
        raise_few holds fits = rw place_is (raised_few h len words a b w holds fits (sym (room_number room))).0

        pub add_done : {m' : ℕ} {words' : List ℕ} → m' ≡ pairs_raised h.m place → words' ≡ raised h.m place (counted s) words →
            AddOn h len words a b w (Ok (record { n = h.n; m = m' })) words'
        unfolding head_of
        add_done e f =
            record {
              number = room_number room;
              head = ap (head_of h.n) (e ∙ ap (pairs_raised h.m) place_is);
              after = f ∙ rw (place_is, same) (sym (if_taken_new 0 _ words refl));
            }

-- ---- remove

module _ (h : Head) (words : List ℕ) (a b : ℕ) where
  remove_left : (e : Refusal) → number_of e ≡ remove_on_number h words a b → RemoveOn h words a b (Err e) words
  remove_left e is = record { number = is; head = tt; after = sym (if_taken_old (number_of e) _ words (numbered e)) }

  -- 5, 4
  pub remove_unfit : (e : Refusal) → number_of e ≡ refusal (pair_causes 0 h.n a b) → RemoveOn h words a b (Err e) words
  unfolding remove_on_number laid_list
  remove_unfit e f =
      let k : number_of e ≡ First false h.n a b = f ∙ sym (first h.n a b) in
      remove_left e (k ∙ sym (remove_first false (laid_list h.n h.m words) a b (λ z. numbered e (k ∙ z))))

  module _ (fit : refusal (pair_causes 0 h.n a b) ≡ 0) (holds : HoldsList h.n h.m words) where
    -- 14
    pub remove_missing : (e : Refusal) → number_of e ≡ 14 → {i : ℕ} → place_in (Err i) ≡ located (smaller_first_pair a b) (laid_pairs h.m words) →
        RemoveOn h words a b (Err e) words
    unfolding remove_on_number laid_list
    remove_missing e f found =
        remove_left e (f ∙ sym (remove_14 false (laid_list h.n h.m words) a b (first h.n a b ∙ fit)
        (not_there h.n h.m words holds (smaller_first_pair a b) found)))

    pub remove_done : {i : ℕ} {words' : List ℕ} → place_in (Ok i) ≡ located (smaller_first_pair a b) (laid_pairs h.m words) →
        words' ≡ delete_at h.m i words → RemoveOn h words a b (Ok (record { n = h.n; m = h.m - 1 })) words'
    unfolding remove_on_number laid_list head_of pair_located
    remove_done found f =
        record {
          number =
              sym (remove_taken false (laid_list h.n h.m words) a b (first h.n a b ∙ fit)
              (is_there h.n h.m words holds (smaller_first_pair a b) found));
          head = refl;
          after = f ∙ ap (λ (x : Place). delete_at h.m x.at words) found ∙ sym (if_taken_new 0 _ words refl);
        }
