-- The order in which stops arrive leaves no trace, and none is refused: the theorems of specs/Keeping.antt on adds in a row.
--   Reached                        head and list hold, beside what is held already, the stops of some arrivals
--   adds_reach, reached_adds       adds in a row leave such a head and list; and adds in any order and steps lead to these
--   adds_only, adds_some           adds in a row leave one head and one list, and each is of some stops
--   any_order_taken, arrival_traceless, one_at_a_time    so order and steps make no difference
--   every_list_added               different pairs added in a row are taken
-- Assumes nothing.
use mathlib.Core.Path.{◌≡◌, refl, sym, ◌∙◌}
use mathlib.Core.Bool.{true, false}
use mathlib.Core.List.{List, [], ◌∷◌, ◌++◌}
use Prim.Native.Nat.{ℕ, ◌+◌, ◌≤◌, ◌<◌}
use native.Mathlib.Omega.{arith}
use lib.Dec.{leb}
use lib.ListN.{length, drop, replicate, length-append, length-drop, take-append-drop}
use lib.Seq.{drop_at}
use borrow.Author.Tests.{le-leb}
use Rattle.theory.specs.Basics.{all}
use Rattle.theory.specs.Lists as Lists
use Rattle.theory.specs.Lists.{pair, weight_in_range, rising}
use Rattle.theory.proofs.Tests.{tests}
use Rattle.theory.proofs.Lists.{listed}
use Rattle.pairs.specs.Held.{is_held, weight_of, raise_pair, smaller_first_pair, stops_of}
use Rattle.pairs.proofs.Order.{same_refl}
use Rattle.pairs.proofs.General.{all_weaker, drop_more}
use Rattle.pairs.proofs.Ends.{stops_held}
use Rattle.pairs.proofs.Counts.{raise_rising, raise_counted}
use Rattle.pairs.proofs.Raised.{raise_more, stops_counted, weight_held}
use Rattle.pairfile.specs.Promise.{stops_named, NamesStops, names_stops}
use Rattle.pairfile.proofs.Names.{kept_list, weight_range}
use Rattle.pairfile.proofs.Judged.{modules_fit}
use Rattle.pairfile.proofs.ReadsEvery.{Gathered, gathered}
use Rattle.records.specs.declared.Pair.{Pair}
use Rattle.records.specs.declared.Head.{Head}
use Rattle.records.specs.Records.{as_pairs, held_list, agrees}
use Rattle.on_words.specs.Edits.{head_of}
use Rattle.kandurzo.specs.Listing.{changed_to, started, as_records, pairs_then, add_number, added}
use Rattle.kandurzo.specs.Keeping.{Adds, SameStops, some_stops, ArrivalTraceless, AnyOrderTaken, OneAtATime, EveryListAdded, SamePairsSameRecords}
use Rattle.kandurzo.proofs.Stopping.{weights_some, fewer_stops, row_stops, row_some}
use Rattle.kandurzo.proofs.Taken.{length_as_records, held_few, held_is_list, length_held, held_front, agrees_front}
use Rattle.kandurzo.proofs.Taken.{taken_addable, addable_taken, held_removable, added_agrees}
use Rattle.kandurzo.proofs.Keeping.{add_passed, add_says, start_head, start_agrees, pair_added, same_pairs_same_records}

-- ---- one add, and those after it

module _ (h : Head) (ps : List Pair) (c : Lists.Pair) where
  -- head and list after the add
  abbrev next_head : Head
  next_head = head_of h.n (pairs_then h ps c.a c.b)

  abbrev next_list : List Pair
  next_list = added h ps c.a c.b c.w

  abbrev NextTaken : Type 0
  NextTaken = add_number h ps c.a c.b c.w ≡ 0

  -- the first of adds in a row is taken, and the others follow
  adds_next : (cs : List Lists.Pair) (i : Head) (qs : List Pair) → Adds h ps (c ∷ cs) i qs → NextTaken × Adds next_head next_list cs i qs
  unfolding Adds
  adds_next cs i qs x =
      let p = add_passed x.2 x.3 in
      (p.taken, rw (p.head, p.list) at x.4)

  -- and back: an add that is taken, with others after it, is adds in a row
  next_adds : (cs : List Lists.Pair) (i : Head) (qs : List Pair) → NextTaken → Adds next_head next_list cs i qs → Adds h ps (c ∷ cs) i qs
  unfolding Adds changed_to
  next_adds cs i qs taken x = (changed_to 0 next_head, next_list, add_says h ps c.a c.b c.w taken, refl, x)

-- adds in a row leave one head and one list
adds_only : (cs : List Lists.Pair) (h i j : Head) (ps qs rs : List Pair) → Adds h ps cs i qs → Adds h ps cs j rs → (i ≡ j) × (qs ≡ rs)
unfolding Adds
adds_only [] h i j ps qs rs x y = (x.0 ∙ sym y.0, x.1 ∙ sym y.1)
adds_only (c ∷ cs) h i j ps qs rs x y =
    adds_only cs (next_head h ps c) i j (next_list h ps c) qs rs (adds_next h ps c cs i qs x).1 (adds_next h ps c cs j rs y).1

-- and each is of some stops
adds_some : (cs : List Lists.Pair) (h i : Head) (ps qs : List Pair) → Adds h ps cs i qs → all some_stops cs ≡ true
unfolding all some_stops
adds_some [] h i ps qs x = refl
adds_some (c ∷ cs) h i ps qs x =
    let y = adds_next h ps c cs i qs x in
    simp tests ((taken_addable h ps c.a c.b c.w y.0).some_stops, adds_some cs (next_head h ps c) i (next_list h ps c) qs y.1)

-- ---- what adds in a row leave

-- the head i and the list qs hold the stops of the arrivals cs beside those that h and ps hold, and nothing else
record Reached (h : Head) (ps : List Pair) (cs : List Lists.Pair) (i : Head) (qs : List Pair) : Type 0 where
  agreed : agrees i qs ≡ true
  modules : i.n ≡ h.n
  stops : (p : Lists.Pair) → stops_named p cs + weight_of p (held_list h ps).pairs ≡ weight_of p (held_list i qs).pairs
  long : length qs ≡ length ps
  past : drop i.m qs ≡ drop i.m ps

-- the same head and list are reached from elsewhere, by other arrivals, where these make up for the difference
reached_from : {h k : Head} {ps rs : List Pair} {cs ds : List Lists.Pair} {i : Head} {qs : List Pair} → h.n ≡ k.n → length ps ≡ length rs →
    drop i.m ps ≡ drop i.m rs →
    ((p : Lists.Pair) → stops_named p ds + weight_of p (held_list k rs).pairs ≡ stops_named p cs + weight_of p (held_list h ps).pairs) →
    Reached h ps cs i qs → Reached k rs ds i qs
reached_from n l d t g =
    record { agreed = g.agreed; modules = g.modules ∙ n; stops = λ p. t p ∙ g.stops p; long = g.long ∙ l; past = g.past ∙ d }

-- a rising list of pairs that are held in the end, with as many stops or more, has no more pairs
pairs_at_most : (gs : List Lists.Pair) (i : Head) (qs : List Pair) → agrees i qs ≡ true → rising gs ≡ true → all (λ r. leb 1 r.w) gs ≡ true →
    ((p : Lists.Pair) → weight_of p gs ≤ weight_of p (held_list i qs).pairs) → length gs ≤ i.m
pairs_at_most gs i qs agreed rises some fewer =
    let l = listed (held_list i qs) (held_is_list i qs agreed) in
    omega (arith, fewer_stops gs (held_list i qs).pairs rises l.rises some (weights_some _ l.weights) fewer, length_held i qs agreed)

-- so where arrivals lead from agreeing head and list to others M does not fall
reached_count : (h : Head) (ps : List Pair) (i : Head) (qs : List Pair) → agrees h ps ≡ true → agrees i qs ≡ true →
    ((p : Lists.Pair) → weight_of p (held_list h ps).pairs ≤ weight_of p (held_list i qs).pairs) → h.m ≤ i.m
reached_count h ps i qs agreed then fewer =
    let l = listed (held_list h ps) (held_is_list h ps agreed) in
    omega (arith, pairs_at_most (held_list h ps).pairs i qs then l.rises (weights_some _ l.weights) fewer, length_held h ps agreed)

-- ---- an add that is taken

module _ (h : Head) (ps : List Pair) (c : Lists.Pair) (cs : List Lists.Pair) (i : Head) (qs : List Pair) (taken : NextTaken h ps c) where
  next_agrees : agrees (next_head h ps c) (next_list h ps c) ≡ true
  next_agrees = added_agrees h ps c.a c.b c.w taken

  -- the stops of the arrival and of those after it, beside what was held and beside what is held then
  next_stops : (p : Lists.Pair) →
      stops_named p cs + weight_of p (held_list (next_head h ps c) (next_list h ps c)).pairs
      ≡ stops_named p (c ∷ cs) + weight_of p (held_list h ps).pairs
  unfolding stops_named
  next_stops p = omega (arith, (pair_added h ps c.a c.b c.w taken).stops p)

  -- records past the held ones stay
  next_past : ((p : Lists.Pair) → weight_of p (held_list (next_head h ps c) (next_list h ps c)).pairs ≤ weight_of p (held_list i qs).pairs) →
      agrees i qs ≡ true → drop i.m (next_list h ps c) ≡ drop i.m ps
  unfolding head_of
  next_past fewer then =
      drop_more (pairs_then h ps c.a c.b) i.m (next_list h ps c) ps
      (reached_count (next_head h ps c) (next_list h ps c) i qs next_agrees then fewer) (pair_added h ps c.a c.b c.w taken).past

  -- the lent list stays as long
  next_long : length (next_list h ps c) ≡ length ps
  next_long = (pair_added h ps c.a c.b c.w taken).same_length

  -- from after it to before it
  reached_before : Reached (next_head h ps c) (next_list h ps c) cs i qs → Reached h ps (c ∷ cs) i qs
  unfolding head_of
  reached_before g =
      reached_from refl next_long (next_past (λ p. omega (arith, g.stops p)) g.agreed) (λ p. sym (next_stops p)) g

  -- and back
  reached_after : Reached h ps (c ∷ cs) i qs → Reached (next_head h ps c) (next_list h ps c) cs i qs
  unfolding head_of
  reached_after g =
      reached_from refl (sym next_long) (sym (next_past (λ p. omega (arith, next_stops p, g.stops p)) g.agreed)) next_stops g

-- adds in a row leave a head and a list that hold their stops
adds_reach : (cs : List Lists.Pair) (h i : Head) (ps qs : List Pair) → agrees h ps ≡ true → Adds h ps cs i qs → Reached h ps cs i qs
unfolding Adds stops_named
adds_reach [] h i ps qs agreed x =
    rw (x.0, x.1) record { agreed = agreed; modules = refl; stops = λ p. omega arith; long = refl; past = refl }
adds_reach (c ∷ cs) h i ps qs agreed x =
    let y = adds_next h ps c cs i qs x in
    reached_before h ps c cs i qs y.0 (adds_reach cs (next_head h ps c) i (next_list h ps c) qs (next_agrees h ps c cs i qs y.0) y.1)

-- ---- adds in any order and steps

-- no arrival is left
reached_none : (h i : Head) (ps qs : List Pair) → agrees h ps ≡ true → Reached h ps [] i qs → (i ≡ h) × (qs ≡ ps)
unfolding stops_named SamePairsSameRecords
reached_none h i ps qs agreed g =
    let front = same_pairs_same_records i h qs ps g.agreed agreed (λ p. omega (arith, g.stops p)) in
    let m : i.m ≡ h.m = front.0 in
    let same : ◌≡◌ {A = Head} (record { n = i.n; m = i.m }) (record { n = h.n; m = h.m }) = cc g.modules in
    (same, sym (take-append-drop i.m qs) ∙ rw (front.1, g.past, m) (take-append-drop h.m ps))

-- the first arrival, of some stops
module _ (h : Head) (ps : List Pair) (c : Lists.Pair) (cs : List Lists.Pair) (i : Head) (qs : List Pair) (agreed : agrees h ps ≡ true)
    (goal : Reached h ps (c ∷ cs) i qs) (some : 1 ≤ c.w) where
  abbrev p : Lists.Pair
  p = smaller_first_pair c.a c.b

  abbrev gs : List Lists.Pair
  gs = (held_list h ps).pairs

  -- its stops are among those held in the end
  first_stops : c.w + weight_of p gs ≤ weight_of p (held_list i qs).pairs
  unfolding stops_named
  first_stops = omega (arith, rw same_refl at (goal.stops p))

  -- so its pair is held then
  first_held : is_held p (held_list i qs).pairs ≡ true
  first_held =
      weight_held p (held_list i qs).pairs (weights_some _ (listed _ (held_is_list i qs goal.agreed)).weights)
      ∙ le-leb 1 (weight_of p (held_list i qs).pairs) (omega (arith, first_stops))

  -- and for a new pair a record is free
  first_room : is_held p gs ≡ false → h.m < i.m
  unfolding stops_named stops_of
  first_room new =
      let q = stops_of c.a c.b c.w in
      let l = listed (held_list h ps) (held_is_list h ps agreed) in
      let more = raise_more q gs (stops_held c.a c.b c.w gs ∙ new) in
      let most = pairs_at_most (raise_pair q gs) i qs goal.agreed (raise_rising q gs l.rises) (raise_counted q gs some (weights_some gs l.weights))
      (λ r. omega (arith, stops_counted r c.a c.b c.w gs l.rises, goal.stops r)) in
      omega (arith, more, most, length_held h ps agreed)

  -- whichever comes first is taken
  first_taken : NextTaken h ps c
  first_taken =
      let ends = held_removable i qs c.a c.b goal.agreed first_held in
      let l = listed (held_list i qs) (held_is_list i qs goal.agreed) in
      let m = length_held i qs goal.agreed in
      addable_taken h ps c.a c.b c.w (record {
        agreed = agreed;
        first = omega (arith, ends.first, goal.modules);
        second = omega (arith, ends.second, goal.modules);
        different = ends.different;
        some_stops = some;
        few_stops = omega (arith, first_stops, weight_range p (held_list i qs).pairs l.weights first_held);
        room = λ new. let free = first_room new in
            (omega (arith, free, l.short, m), omega (arith, free, held_few i qs goal.agreed, goal.long));
      })

-- arrivals whose stops a head and a list hold lead to these, in whatever order and steps they come
reached_adds : (cs : List Lists.Pair) (h i : Head) (ps qs : List Pair) → all some_stops cs ≡ true → agrees h ps ≡ true → Reached h ps cs i qs →
    Adds h ps cs i qs
unfolding Adds all some_stops
reached_adds [] h i ps qs some agreed g = reached_none h i ps qs agreed g
reached_adds (c ∷ cs) h i ps qs some agreed g =
    let some' = simp tests at some in
    let taken = first_taken h ps c cs i qs agreed g some'.0 in
    next_adds h ps c cs i qs taken
    (reached_adds cs (next_head h ps c) i (next_list h ps c) qs some'.1 (next_agrees h ps c cs i qs taken) (reached_after h ps c cs i qs taken g))

-- stops that are taken in one order and in some steps are taken in every order and in any steps: the first add that is taken says that head and list agree,
-- and where none comes none does
pub any_order_taken : AnyOrderTaken
unfolding AnyOrderTaken SameStops stops_named all some_stops
any_order_taken h ps [] [] i qs same some x = x
any_order_taken h ps [] (d ∷ ds) i qs same some x =
    absurd (omega (arith, rw same_refl at (same (smaller_first_pair d.a d.b)), (simp tests at some).0))
any_order_taken h ps (c ∷ cs) ds i qs same some x =
    let agreed = (taken_addable h ps c.a c.b c.w (adds_next h ps c cs i qs x).0).agreed in
    reached_adds ds h i ps qs some agreed (reached_from refl refl refl (λ p. omega (arith, same p)) (adds_reach (c ∷ cs) h i ps qs agreed x))

-- the same stops added in any two orders and steps leave the same head and the same records
pub arrival_traceless : ArrivalTraceless
unfolding ArrivalTraceless AnyOrderTaken
arrival_traceless h ps cs ds i j qs rs same x y =
    adds_only ds h i j ps qs rs (any_order_taken h ps cs ds i qs same (adds_some ds h j ps rs y) x) y

-- adding w stops of a pair is adding them one at a time
pub one_at_a_time : OneAtATime
unfolding OneAtATime AnyOrderTaken SameStops all some_stops
one_at_a_time h ps a b w i qs some =
    let at_once : List Lists.Pair = record { a = a; b = b; w = w } ∷ [] in
    let one_by_one : List Lists.Pair = replicate w (pair a b) in
    let same : (p : Lists.Pair) → stops_named p at_once ≡ stops_named p one_by_one =
    λ p. unfold stops_named in (omega (arith, row_stops p a b w)) in (
      λ x. any_order_taken h ps at_once one_by_one i qs same (row_some a b w) x,
      λ x. any_order_taken h ps one_by_one at_once i qs (λ p. sym (same p)) (simp tests (some, refl)) x,
    )

-- ---- every list

module _ (n : ℕ) (arrivals : List Lists.Pair) (ps : List Pair) (t : Gathered n arrivals) where
  -- the records of the pairs that arrive, in front of those that are not needed
  abbrev goal_list : List Pair
  goal_list = as_records t.pairs ++ drop (length arrivals) ps

  -- hold exactly these pairs with these stops
  goal_named : NamesStops arrivals (held_list (head_of n (length arrivals)) goal_list).pairs
  goal_named = rw (held_front n (length arrivals) t.pairs (drop (length arrivals) ps) t.size) t.named

  -- and are reached from a head without pairs
  goal_reached : 1 ≤ n → n ≤ 512 → length arrivals ≤ 4096 → length arrivals ≤ length ps →
      Reached (head_of n 0) ps arrivals (head_of n (length arrivals)) goal_list
  unfolding head_of held_list as_pairs weight_of
  goal_reached low high short fits =
      let m : ℕ = length arrivals in
      let long = length_as_records t.pairs ∙ t.size in
      record {
        agreed = agrees_front n m t.pairs (drop m ps) t.size (kept_list n t.pairs low high (omega (arith, t.size)) t.kept);
        modules = refl;
        stops = λ p. omega (arith, goal_named.stops p);
        long = omega (arith, length-append (as_records t.pairs) (drop m ps), long, length-drop m ps);
        past = drop_at (as_records t.pairs) (drop m ps) m long;
      }

-- lines with stop counts of 1 to 1,000 are of some stops
all_some : (n : ℕ) (cs : List Lists.Pair) → all (names_stops n) cs ≡ true → all some_stops cs ≡ true
unfolding names_stops weight_in_range some_stops
all_some n cs e = all_weaker (names_stops n) some_stops (λ c h. le-leb 1 c.w (simp tests at h).1.0) cs e

-- different pairs added in a row are taken, and the list then holds exactly these
pub every_list_added : EveryListAdded
unfolding EveryListAdded
every_list_added n arrivals ps low high short fits named once =
    let t = gathered n arrivals named once in
    let none : (started n).number ≡ 0 = unfold started in (modules_fit n low high) in
    let after = goal_list n arrivals ps t in
    let reached : Reached (started n).head ps arrivals (head_of n (length arrivals)) after =
    rw (start_head n none) (goal_reached n arrivals ps t low high short fits) in
    (after, reached_adds arrivals _ _ ps after (all_some n arrivals named) (start_agrees n ps none) reached, goal_named n arrivals ps t)
