-- What the planner is promised of the list that start, add and remove make: the theorems of specs/Keeping.antt, each named as its statement.
--   held_once                          no pair is held twice
--   Passed, add_passed, remove_passed  what a call that is taken answers and leaves, from what it says
--   add_says                           and back, for add
--   either_way_round                   2,5 is the same pair as 5,2
--   add_exactly, remove_exactly        which adds and which removes are taken
--   pair_added, add_holds              what is held after an add that is taken, and that nothing else changed
--   pair_removed, remove_drops         and after a remove
--   start_head                         a head without pairs
--   start_agrees, add_agrees, remove_agrees    head and list agree after every taken call
--   same_pairs_same_records, add_undone    lists that hold the same pairs with the same counts; a new pair added and removed
-- Assumes nothing.
use mathlib.Core.Path.{◌≡◌, refl, sym, ap, ◌∙◌}
use mathlib.Core.Bool.{true, false}
use mathlib.Core.List.{List, [], ◌∷◌}
use Prim.Native.Nat.{ℕ, ◌+◌, ◌-◌, ◌≤◌, ◌<◌, min, max}
use native.Mathlib.Omega.{arith}
use lib.Dec.{ltb}
use lib.ListN.{length, get_or, take, drop, length-append, length-drop}
use lib.Seq.{take_at, drop_at}
use borrow.Author.Tests.{ltb-true, ltb-false}
use Rattle.theory.specs.Basics.{all}
use Rattle.theory.specs.Lists as Lists
use Rattle.theory.specs.Lists.{Pairs, pair, smaller_first, rising, is_list}
use Rattle.theory.specs.Refusals.{refusal, if_taken}
use Rattle.theory.proofs.Tests.{tests, no, by_test}
use Rattle.theory.proofs.Lists.{listed, is_listed}
use Rattle.theory.proofs.Refusals.{if_taken_new}
use Rattle.pairs.specs.Held.{same_ends, is_held, weight_of, insert_pair, raise_pair, remove_pair, without_pair, smaller_first_pair, stops_of}
use Rattle.pairs.specs.Causes.{add_causes, remove_causes}
use Rattle.pairs.proofs.Order.{before_not_same, same_refl, same_sym}
use Rattle.pairs.proofs.Causes.{pair_round, stops_round, causes_round}
use Rattle.pairs.proofs.General.{all_at}
use Rattle.pairs.proofs.Rising.{rising_at}
use Rattle.pairs.proofs.Changes.{remove_held, insert_remove}
use Rattle.pairs.proofs.Ends.{stops_ends, stops_held}
use Rattle.pairs.proofs.Places.{raise_new}
use Rattle.pairs.proofs.Raised.{stops_raised, stops_counted, remove_weight, weights_alone}
use Rattle.pairfile.specs.File.{modules_causes}
use Rattle.pairfile.proofs.Taken.{modules_unmet}
use Rattle.records.specs.declared.Pair.{Pair}
use Rattle.records.specs.declared.Head.{Head}
use Rattle.records.specs.Records.{as_pair, held_list, agrees, blank}
use Rattle.kandurzo.specs.declared.Changed.{Changed}
use Rattle.on_words.specs.declared.Placed.{Placed}
use Rattle.on_words.specs.Edits.{head_of}
use Rattle.kandurzo.specs.Listing.{changed_to, started, as_records, add_number, pairs_then, added, AddSays, remove_number, removed, RemoveSays}
use Rattle.kandurzo.specs.Keeping.{pair_at, HeldOnce, EitherWayRound, AddExactly, RemoveExactly, PairAdded, AddHolds, PairRemoved, RemoveDrops}
use Rattle.kandurzo.specs.Keeping.{SamePairsSameRecords, AddUndone}
use Rattle.kandurzo.specs.Placing.{place_number, PlaceSays}
use Rattle.kandurzo.proofs.Stopping.{weights_some, remove_same}
use Rattle.kandurzo.proofs.Taken.{length_as_records, held_few, held_is_list, length_held, record_there, held_records, agrees_front}
use Rattle.kandurzo.proofs.Taken.{taken_addable, addable_taken, held_removable, taken_removable, removable_taken}
use Rattle.kandurzo.proofs.Taken.{added_length, held_added, added_agrees, removed_one, held_removed, removed_agrees}

-- ---- no pair is held twice

-- the smaller module stands first already
ordered : (a b : ℕ) → a < b → smaller_first_pair a b ≡ pair a b
unfolding smaller_first_pair
ordered a b l =
    let low : min a b ≡ a = omega arith in
    let high : max a b ≡ b = omega arith in
    rw (low, high)

module _ (h : Head) (ps : List Pair) (agreed : agrees h ps ≡ true) where
  -- the record at a place stands for the held pair there
  held_at_place : (i : ℕ) → i < h.m → let r = get_or (held_list h ps).pairs i (as_pair blank) in pair_at ps i ≡ pair r.a r.b
  unfolding pair_at as_pair smaller_first
  held_at_place i l =
      let p : Pair = get_or ps i blank in
      let there : get_or (held_list h ps).pairs i (as_pair blank) ≡ as_pair p = record_there h ps i l in
      let first : smaller_first (as_pair p) ≡ true =
      ap smaller_first (sym there)
      ∙ all_at smaller_first (held_list h ps).pairs i (as_pair blank) (listed (held_list h ps) (held_is_list h ps agreed)).first
      (omega (arith, length_held h ps agreed)) in
      ordered p.a p.b (simp tests at first) ∙ ap (λ (r : Lists.Pair). pair r.a r.b) (sym there)

  -- two places have two pairs
  places_differ : (i j : ℕ) → i < j → j < h.m → same_ends (pair_at ps i) (pair_at ps j) ≡ false
  unfolding same_ends pair
  places_differ i j l k =
      rw (held_at_place i (omega arith), held_at_place j k)
      (before_not_same _ _
      (rising_at (held_list h ps).pairs i j (as_pair blank) (listed _ (held_is_list h ps agreed)).rises l (omega (arith, length_held h ps agreed))))

-- no pair is held twice
pub held_once : HeldOnce
unfolding HeldOnce
held_once h ps i j agreed l k same =
    by_test (ltb i j) (λ t. no (sym (places_differ h ps agreed i j (ltb-true i j t) k) ∙ same))
    (λ t. by_test (ltb j i) (λ u. no (sym (places_differ h ps agreed j i (ltb-true j i u) l) ∙ same_sym (pair_at ps i) (pair_at ps j) same))
    (λ u. omega (arith, ltb-false i j t, ltb-false j i u)))

-- lists that hold the same pairs with the same counts have the same held records, whatever calls made them
pub same_pairs_same_records : SamePairsSameRecords
unfolding SamePairsSameRecords
same_pairs_same_records h k ps qs x y same =
    let l = listed (held_list h ps) (held_is_list h ps x) in
    let j = listed (held_list k qs) (held_is_list k qs y) in
    let pairs : (held_list h ps).pairs ≡ (held_list k qs).pairs =
    weights_alone (held_list h ps).pairs (held_list k qs).pairs l.rises j.rises (weights_some _ l.weights) (weights_some _ j.weights) same in
    (sym (length_held h ps x) ∙ ap length pairs ∙ length_held k qs y, sym (held_records h ps x) ∙ ap as_records pairs ∙ held_records k qs y)

-- ---- a call that is taken

-- what a call that is taken answers and leaves; k is its number
pub record Passed (k : ℕ) (new : Head) (after : List Pair) (r : Changed) (ps' : List Pair) : Type 0 where
  pub taken : k ≡ 0
  pub head : r.head ≡ new
  pub list : ps' ≡ after

module _ {k : ℕ} {new : Head} {after : List Pair} {r : Changed} {ps' : List Pair} where
  -- from the three clauses of a call
  passed : (h : Head) (ps : List Pair) → r.number ≡ k → r.head ≡ if_taken k new h → ps' ≡ if_taken k after ps → r.number ≡ 0 → Passed k new after r ps'
  passed h ps e d c none =
      let taken = sym e ∙ none in
      record { taken = taken; head = d ∙ if_taken_new k new h taken; list = c ∙ if_taken_new k after ps taken }

  -- what holds of the new head and list holds of those answered and left
  passed_on : (P : Head → List Pair → Type 0) → Passed k new after r ps' → (k ≡ 0 → P new after) → P r.head ps'
  passed_on P x f = rw (x.head, x.list) (f x.taken)

module _ {h : Head} {ps : List Pair} {a b : ℕ} {r : Changed} {ps' : List Pair} where
  -- from what add says, and from what remove says
  pub add_passed : {w : ℕ} → AddSays h ps a b w r ps' → r.number ≡ 0 →
      Passed (add_number h ps a b w) (head_of h.n (pairs_then h ps a b)) (added h ps a b w) r ps'
  add_passed says none = passed h ps says.number says.head says.list none

  pub remove_passed : RemoveSays h ps a b r ps' → r.number ≡ 0 → Passed (remove_number h ps a b) (head_of h.n (h.m - 1)) (removed h ps a b) r ps'
  remove_passed says none = passed h ps says.number says.head says.list none

-- an add whose number is 0 says that it is taken
pub add_says : (h : Head) (ps : List Pair) (a b w : ℕ) → add_number h ps a b w ≡ 0 →
    AddSays h ps a b w (changed_to 0 (head_of h.n (pairs_then h ps a b))) (added h ps a b w)
unfolding changed_to
add_says h ps a b w e = record { number = sym e; head = sym (if_taken_new _ _ _ e); list = sym (if_taken_new _ _ _ e) }

-- ---- either way round

module _ (h : Head) (ps : List Pair) (a b : ℕ) (r : Changed) (ps' : List Pair) where
  -- what add says of a and b it says of b and a
  add_round : (w : ℕ) → AddSays h ps a b w r ps' → AddSays h ps b a w r ps'
  unfolding added pairs_then
  add_round w says =
      let k : add_number h ps a b w ≡ add_number h ps b a w =
      unfold add_number add_causes in (rw (causes_round a b 0 (held_list h ps).n, pair_round a b)) in
      record {
        number = says.number ∙ k;
        head = rw (k, pair_round a b) at says.head;
        list = rw (k, pair_round a b, stops_round a b w) at says.list;
      }

  -- and so does remove
  remove_round : RemoveSays h ps a b r ps' → RemoveSays h ps b a r ps'
  unfolding removed
  remove_round says =
      let k : remove_number h ps a b ≡ remove_number h ps b a =
      unfold remove_number remove_causes in (rw (causes_round a b 0 (held_list h ps).n, pair_round a b)) in
      record { number = says.number ∙ k; head = rw k at says.head; list = rw (k, pair_round a b) at says.list }

-- and place
place_round : (h : Head) (ps : List Pair) (a b : ℕ) (r : Placed) → PlaceSays h ps a b r → PlaceSays h ps b a r
unfolding place_number
place_round h ps a b r says = record {
  number = says.number ∙ rw (causes_round a b 0 h.n);
  held = rw (pair_round a b) at says.held;
  at = rw (pair_round a b) at says.at;
  stands = rw (pair_round a b) at says.stands;
}

-- 2,5 is the same pair as 5,2: they answer and leave the same, whichever module is named first
pub either_way_round : EitherWayRound
either_way_round = record { add = λ h ps a b w r ps'. add_round h ps a b r ps' w; remove = remove_round; place = place_round }

-- ---- which calls are taken

-- an add is taken where it is of two different modules, the pair's count stays at 1,000 or less, and a record is free for a new pair; no other is
pub add_exactly : AddExactly
unfolding AddExactly
add_exactly h ps a b w r ps' says =
    (λ none. taken_addable h ps a b w (sym says.number ∙ none), λ x. says.number ∙ addable_taken h ps a b w x)

-- a remove is taken where its pair is held; no other is
pub remove_exactly : RemoveExactly
unfolding RemoveExactly
remove_exactly h ps a b r ps' says =
    (λ none. taken_removable h ps a b (sym says.number ∙ none), λ x. says.number ∙ removable_taken h ps a b x)

-- ---- start, add and remove

-- where start is taken its head is one without pairs
pub start_head : (n : ℕ) → (started n).number ≡ 0 → (started n).head ≡ head_of n 0
unfolding started
start_head n e = if_taken_new (refusal (modules_causes n)) (head_of n 0) (head_of 0 0) e

-- which agrees with whatever records are lent
pub start_agrees : (n : ℕ) (ps : List Pair) → (started n).number ≡ 0 → agrees (started n).head ps ≡ true
unfolding started as_records all rising
start_agrees n ps e =
    let k = modules_unmet n e in
    let none : is_list (record { n = n; pairs = [] }) ≡ true =
    is_listed _ record { some = k.0; few = k.1; short = omega arith; ends = refl; first = refl; weights = refl; rises = refl } in
    rw (start_head n e) (agrees_front n 0 [] ps refl none)

-- there is room for the pairs held after a taken add
then_room : (h : Head) (ps : List Pair) (a b w : ℕ) → add_number h ps a b w ≡ 0 → pairs_then h ps a b ≤ length ps
unfolding pairs_then
then_room h ps a b w e =
    let x = taken_addable h ps a b w e in
    by_test (is_held (smaller_first_pair a b) (held_list h ps).pairs) (λ t. rw t (held_few h ps x.agreed)) (λ t. rw t (omega (arith, (x.room t).1)))

-- the list of a taken add
pub pair_added : (h : Head) (ps : List Pair) (a b w : ℕ) → add_number h ps a b w ≡ 0 →
    PairAdded h ps a b w (head_of h.n (pairs_then h ps a b)) (added h ps a b w)
unfolding head_of added
pair_added h ps a b w e =
    let before : List Lists.Pair = (held_list h ps).pairs in
    let new : List Lists.Pair = raise_pair (stops_of a b w) before in
    let m : ℕ = pairs_then h ps a b in
    let long : length (as_records new) ≡ m = length_as_records new ∙ added_length h ps a b w e in
    let rises : rising before ≡ true = (listed _ (held_is_list h ps (taken_addable h ps a b w e).agreed)).rises in
    record {
      modules = refl;
      pairs = refl;
      stops = λ p. ap (λ (g : Pairs). weight_of p g.pairs) (held_added h ps a b w e) ∙ stops_counted p a b w before rises;
      held = λ p. ap (λ (g : Pairs). is_held p g.pairs) (held_added h ps a b w e) ∙ stops_raised p a b w before;
      same_length = omega (arith, length-append (as_records new) (drop m ps), long, length-drop m ps, then_room h ps a b w e);
      past = drop_at (as_records new) (drop m ps) m long;
    }

-- after an add that is taken its pair is held with so many stops more, and nothing else changed
pub add_holds : AddHolds
unfolding AddHolds
add_holds h ps a b w r ps' says none =
    passed_on (PairAdded h ps a b w) (add_passed says none) (pair_added h ps a b w)

-- head and list agree after a taken add
pub add_agrees : (h : Head) (ps : List Pair) (a b w : ℕ) (r : Changed) (ps' : List Pair) →
    AddSays h ps a b w r ps' → r.number ≡ 0 → agrees r.head ps' ≡ true
add_agrees h ps a b w r ps' says none =
    passed_on (λ k qs. agrees k qs ≡ true) (add_passed says none) (added_agrees h ps a b w)

-- the list of a taken remove
pub pair_removed : (h : Head) (ps : List Pair) (a b : ℕ) → remove_number h ps a b ≡ 0 →
    PairRemoved h ps a b (head_of h.n (h.m - 1)) (removed h ps a b)
unfolding head_of removed without_pair
pair_removed h ps a b e =
    let agreed = (taken_removable h ps a b e).agreed in
    let rises = (listed (held_list h ps) (held_is_list h ps agreed)).rises in
    let rest : List Lists.Pair = remove_pair (smaller_first_pair a b) (held_list h ps).pairs in
    let one : length (as_records rest) + 1 ≡ h.m = ap (λ (k : ℕ). k + 1) (length_as_records rest) ∙ removed_one h ps a b e in
    record {
      modules = refl;
      pairs = omega arith;
      held =
          λ p. ap (λ (g : Pairs). is_held p g.pairs) (held_removed h ps a b e)
          ∙ remove_held p (smaller_first_pair a b) (held_list h ps).pairs rises;
      stops =
          λ p. ap (λ (g : Pairs). weight_of p g.pairs) (held_removed h ps a b e)
          ∙ remove_weight p (smaller_first_pair a b) (held_list h ps).pairs rises;
      same_length = omega (arith, length-append (as_records rest) (blank ∷ drop h.m ps), one, length-drop h.m ps, held_few h ps agreed);
      past = drop_at (as_records rest) (blank ∷ drop h.m ps) (h.m - 1) (omega (arith, one));
    }

-- after a remove that is taken its pair is gone with its whole count, and nothing else changed
pub remove_drops : RemoveDrops
unfolding RemoveDrops
remove_drops h ps a b r ps' says none =
    passed_on (PairRemoved h ps a b) (remove_passed says none) (pair_removed h ps a b)

-- head and list agree after a taken remove
pub remove_agrees : (h : Head) (ps : List Pair) (a b : ℕ) (r : Changed) (ps' : List Pair) →
    RemoveSays h ps a b r ps' → r.number ≡ 0 → agrees r.head ps' ≡ true
remove_agrees h ps a b r ps' says none =
    passed_on (λ k qs. agrees k qs ≡ true) (remove_passed says none) (removed_agrees h ps a b)

-- ---- a new pair added and removed again

module _ (h : Head) (ps : List Pair) (a b w : ℕ) (taken : add_number h ps a b w ≡ 0)
    (new : is_held (smaller_first_pair a b) (held_list h ps).pairs ≡ false) where
  abbrev more : Head
  more = head_of h.n (pairs_then h ps a b)

  -- removing it is taken
  undo_taken : remove_number more (added h ps a b w) a b ≡ 0
  undo_taken =
      let p : Lists.Pair = smaller_first_pair a b in
      let own : is_held p (held_list more (added h ps a b w)).pairs ≡ true = (pair_added h ps a b w taken).held p ∙ rw (same_refl p) in
      removable_taken more (added h ps a b w) a b (held_removable more (added h ps a b w) a b (added_agrees h ps a b w taken) own)

  -- and leaves the held pairs as they were
  undo_pairs : remove_pair (smaller_first_pair a b) (held_list more (added h ps a b w)).pairs ≡ (held_list h ps).pairs
  undo_pairs =
      let p : Lists.Pair = stops_of a b w in
      let gs : List Lists.Pair = (held_list h ps).pairs in
      ap (λ (g : Pairs). remove_pair (smaller_first_pair a b) g.pairs) (held_added h ps a b w taken)
      ∙ ap (remove_pair (smaller_first_pair a b)) (raise_new p gs (stops_held a b w gs ∙ new))
      ∙ sym (remove_same p (smaller_first_pair a b) (insert_pair p gs) (stops_ends a b w)) ∙ insert_remove p gs

  -- and so the held records
  undo_records : take h.m (removed more (added h ps a b w) a b) ≡ take h.m ps
  unfolding removed
  undo_records =
      let agreed = (taken_addable h ps a b w taken).agreed in
      rw undo_pairs (take_at (as_records (held_list h ps).pairs) _ h.m (length_as_records _ ∙ length_held h ps agreed) ∙ held_records h ps agreed)

-- a new pair added can be removed again, which leaves head and held records as they were
pub add_undone : AddUndone
unfolding AddUndone head_of pairs_then
add_undone h ps a b w r s qs rs adds none new removes =
    let x = add_passed adds none in
    let says : RemoveSays (head_of h.n (pairs_then h ps a b)) (added h ps a b w) a b s rs = rw (x.head, x.list) at removes in
    let number : s.number ≡ 0 = says.number ∙ undo_taken h ps a b w x.taken new in
    let y = remove_passed says number in
    let m : pairs_then h ps a b - 1 ≡ h.m = rw new (omega arith) in
    (number, y.head ∙ ap (head_of h.n) m, ap (take h.m) y.list ∙ undo_records h ps a b w x.taken new)
