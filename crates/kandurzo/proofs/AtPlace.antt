-- What holds at the place that place answers: the theorems of specs/Placing.antt, each named as its statement.
--   add_puts_there, add_raises_there    a new pair is put in there, and a held pair's count is raised there
--   remove_takes_there                  a held pair is taken from there
--   refused_as_remove                   place refuses as remove does, except by 14
--   every_place_answered                of every two modules of every list
-- Assumes nothing.
use mathlib.Core.Path.{◌≡◌, refl, sym, ap, ◌∙◌}
use mathlib.Core.Bool.{Bool, true, false, ◌&&◌, not, cond}
use mathlib.Core.List.{List, [], ◌∷◌, ◌++◌, append_assoc, map-append}
use mathlib.Core.Logic.{◌↔◌}
use Prim.Native.Nat.{ℕ, suc, ◌+◌, ◌<◌}
use native.Mathlib.Omega.{arith}
use lib.Dec.{ltb, eqb}
use lib.ListN.{length, get_or, set, take, drop, take-append-drop}
use lib.Seq.{take-take, length-take-le, get_or-append_seam, set-append_left}
use borrow.Author.Tests.{eqb-true, eqb-false, ne_eqb}
use Rattle.std.proofs.lemmas.List.{take-map, drop-map, map-set}
use Rattle.theory.specs.Basics.{mark}
use Rattle.theory.specs.Lists as Lists
use Rattle.theory.specs.Lists.{Pairs}
use Rattle.theory.specs.Refusals.{cause, refusal}
use Rattle.theory.proofs.Tests.{by_test}
use Rattle.theory.proofs.Refusals.{refusal_passed, if_taken_new}
use Rattle.pairs.specs.Held.{is_held, weight_of, place_of, heavier, raise_pair, smaller_first_pair, stops_of}
use Rattle.pairs.specs.Causes.{self_paired, module_unknown, pair_causes, place_causes, count_causes, count_passes, add_causes}
use Rattle.pairs.proofs.Ends.{stops_held, stops_place}
use Rattle.pairs.proofs.Causes.{pair_then}
use Rattle.pairs.proofs.Places.{raise_set, raise_new, weight_at}
use Rattle.pairs.proofs.Changes.{insert_split, remove_split}
use Rattle.records.specs.declared.Pair.{Pair}
use Rattle.records.specs.declared.Head.{Head}
use Rattle.records.specs.Records.{as_pair, held_list, agrees, blank}
use Rattle.kandurzo.specs.declared.Changed.{Changed}
use Rattle.on_words.specs.declared.Placed.{Placed}
use Rattle.on_words.specs.Edits.{head_of, is_full}
use Rattle.kandurzo.specs.Listing.{as_record, as_records, add_number, pairs_then, added, AddSays, remove_number, removed, RemoveSays}
use Rattle.kandurzo.specs.Placing.{place_number, PlaceSays, PutThere, AddPutsThere, RaisedThere, AddRaisesThere, TakenThere}
use Rattle.kandurzo.specs.Placing.{RemoveTakesThere, RefusedAsRemove, EveryPlaceAnswered}
use Rattle.kandurzo.proofs.Stopping.{new_count}
use Rattle.on_words.proofs.Orders.{first_none, remove_first, remove_14, remove_taken}
use Rattle.kandurzo.proofs.Taken.{held_few, record_there, held_records, ends_first}
use Rattle.kandurzo.proofs.Keeping.{add_passed, remove_passed}
use Rattle.kandurzo.proofs.Demands.{n_is, lent_list, lent_agrees}
use Rattle.kandurzo.proofs.Placings.{held_rises, open_agrees}

-- ---- records of pairs

records_append : (xs ys : List Lists.Pair) → as_records (xs ++ ys) ≡ as_records xs ++ as_records ys
unfolding as_records
records_append xs ys = map-append as_record xs ys

records_take : (i : ℕ) (xs : List Lists.Pair) → as_records (take i xs) ≡ take i (as_records xs)
unfolding as_records
records_take i xs = sym (take-map as_record i xs)

records_drop : (i : ℕ) (xs : List Lists.Pair) → as_records (drop i xs) ≡ drop i (as_records xs)
unfolding as_records
records_drop i xs = sym (drop-map as_record i xs)

records_set : (i : ℕ) (xs : List Lists.Pair) (p : Lists.Pair) → as_records (set xs i p) ≡ set (as_records xs) i (as_record p)
unfolding as_records
records_set i xs p = map-set as_record xs i p

-- ---- what add and remove do there

module _ (h : Head) (ps : List Pair) (a b : ℕ) (r : Placed) (says : PlaceSays h ps a b r) (z : r.number ≡ 0) where
  abbrev q : Lists.Pair
  q = smaller_first_pair a b

  abbrev gs : List Lists.Pair
  gs = (held_list h ps).pairs

  first_open : place_number h ps a b ≡ 0
  first_open = sym says.number ∙ z

  agreed : agrees h ps ≡ true
  agreed = open_agrees h ps a b first_open

  held_is : r.held ≡ mark (is_held q gs)
  held_is = says.held ∙ if_taken_new r.number _ _ z

  at_is : r.at ≡ place_of q gs
  at_is = says.at ∙ if_taken_new r.number _ _ z

  not_held : r.held ≡ 0 → is_held q gs ≡ false
  unfolding mark
  not_held e = by_test (is_held q gs) (λ t. absurd (omega (arith, e, rw t at held_is))) (λ t. t)

  is_there : r.held ≡ 1 → is_held q gs ≡ true
  unfolding mark
  is_there e = by_test (is_held q gs) (λ t. t) (λ t. absurd (omega (arith, e, rw t at held_is)))

  -- the held records before the place, and those from a place on
  front_records : as_records (take r.at gs) ≡ take r.at ps
  front_records =
      records_take r.at gs ∙ ap (take r.at) (held_records h ps agreed)
      ∙ take-take r.at h.m ps (says.stands z).among

  back_records : (i : ℕ) → as_records (drop i gs) ≡ drop i (take h.m ps)
  back_records i = records_drop i gs ∙ ap (drop i) (held_records h ps agreed)

  -- some records between them, and others behind
  split_records : (xs : List Lists.Pair) (i : ℕ) (rest : List Pair) →
      as_records (take r.at gs ++ (xs ++ drop i gs)) ++ rest ≡ take r.at ps ++ (as_records xs ++ (drop i (take h.m ps) ++ rest))
  split_records xs i rest =
      let behind : as_records (xs ++ drop i gs) ≡ as_records xs ++ drop i (take h.m ps) =
      records_append xs (drop i gs) ∙ ap (λ (us : List Pair). as_records xs ++ us) (back_records i) in
      ap (λ (us : List Pair). us ++ rest) (records_append (take r.at gs) (xs ++ drop i gs) ∙ (λ j. front_records j ++ behind j))
      ∙ append_assoc (take r.at ps) (as_records xs ++ drop i (take h.m ps)) rest
      ∙ ap (λ (us : List Pair). take r.at ps ++ us) (append_assoc (as_records xs) (drop i (take h.m ps)) rest)

  -- add's number: 13, 5 and 4 are passed
  add_order : (w : ℕ) →
      add_number h ps a b w
      ≡ refusal (count_causes w ++ (cause 19 (count_passes q w gs) ∷ cause 11 (not (is_held q gs) && is_full h (length ps)) ∷ []))
  unfolding add_number add_causes held_list place_number
  add_order w =
      let x = first_none _ h.n a b first_open in
      refusal_passed 13 _ _ x.0 ∙ pair_then 0 h.n a b x.1 _

  puts_number : {w : ℕ} {s : Changed} {ps' : List Pair} → r.held ≡ 0 → AddSays h ps a b w s ps' →
      s.number ≡ refusal (count_causes w ++ (cause 11 (is_full h (length ps)) ∷ []))
  puts_number {w} e add = add.number ∙ add_order w ∙ new_count q w gs (is_full h (length ps)) (not_held e)

  puts_list : {w : ℕ} {s : Changed} {ps' : List Pair} → r.held ≡ 0 → AddSays h ps a b w s ps' → s.number ≡ 0 →
      PutThere h ps (stops_of a b w) r.at ps'
  unfolding added pairs_then as_records
  puts_list {w} {ps' = ps'} none add e =
      let p = stops_of a b w in
      let new = not_held none in
      let behind = drop r.at (take h.m ps) ++ drop (h.m + 1) ps in
      let list : ps' ≡ take r.at ps ++ (as_record p ∷ behind) =
      (add_passed add e).list ∙ rw new
      (ap (λ (us : List Lists.Pair). as_records us ++ drop (h.m + 1) ps) (raise_new p gs (stops_held a b w gs ∙ new) ∙ insert_split p gs)
      ∙ rw (stops_place a b w gs, ← at_is) (split_records (p ∷ []) r.at (drop (h.m + 1) ps))) in
      let short : length (take r.at ps) ≡ r.at = length-take-le r.at ps (omega (arith, (says.stands z).among, held_few h ps agreed)) in
      let there : get_or (take r.at ps ++ (as_record p ∷ behind)) r.at blank ≡ as_record p =
      rw short at (get_or-append_seam (take r.at ps) (as_record p) behind blank) in
      record { there = ap (λ (us : List Pair). get_or us r.at blank) list ∙ there; list = list }

  -- the record at the place of a held pair, and its count
  module _ (e : r.held ≡ 1) where
    there_first : r.at < h.m
    there_first = ((says.stands z).exactly.0 e).0

    held_record : get_or gs r.at (as_pair blank) ≡ as_pair (get_or ps r.at blank)
    held_record = record_there h ps r.at there_first

    count_there : weight_of q gs ≡ (get_or ps r.at blank).w
    unfolding as_pair
    count_there =
        weight_at q gs (as_pair blank) (held_rises h ps agreed) (is_there e)
        ∙ rw (← at_is) (ap (λ (x : Lists.Pair). x.w) held_record)

    raises_number : {w : ℕ} {s : Changed} {ps' : List Pair} → AddSays h ps a b w s ps' →
        s.number ≡ refusal (count_causes w ++ (cause 19 (ltb 1000 ((get_or ps r.at blank).w + w)) ∷ []))
    unfolding count_causes count_passes refusal cause
    raises_number {w} add = add.number ∙ add_order w ∙ rw (is_there e, count_there)

    raises_head : {w : ℕ} {s : Changed} {ps' : List Pair} → AddSays h ps a b w s ps' → s.number ≡ 0 → s.head ≡ h
    unfolding pairs_then head_of
    raises_head add n = (add_passed add n).head ∙ rw (is_there e)

    raises_list : {w : ℕ} {s : Changed} {ps' : List Pair} → AddSays h ps a b w s ps' → s.number ≡ 0 → RaisedThere h ps q w r.at ps'
    unfolding added pairs_then stops_of
    raises_list {w} add n =
        let p = stops_of a b w in
        let raised = heavier w (as_pair (get_or ps r.at blank)) in
        let pairs : raise_pair p gs ≡ set gs r.at raised =
        raise_set p gs (as_pair blank) (held_rises h ps agreed) (stops_held a b w gs ∙ is_there e)
        ∙ rw (stops_place a b w gs, ← at_is, held_record) in
        record {
          there = ((says.stands z).exactly.0 e).1;
          list =
              (add_passed add n).list ∙ rw (is_there e)
              (ap (λ (us : List Lists.Pair). as_records us ++ drop h.m ps) pairs
              ∙ ap (λ (us : List Pair). us ++ drop h.m ps)
              (records_set r.at gs raised ∙ ap (λ (us : List Pair). set us r.at (as_record raised)) (held_records h ps agreed))
              ∙ sym (set-append_left (take h.m ps) (drop h.m ps) r.at (as_record raised)
              (omega (arith, there_first, length-take-le h.m ps (held_few h ps agreed))))
              ∙ ap (λ (us : List Pair). set us r.at (as_record raised)) (take-append-drop h.m ps));
        }

  -- remove's
  takes_number : {s : Changed} {ps' : List Pair} → r.held ≡ 1 → RemoveSays h ps a b s ps' → s.number ≡ 0
  unfolding remove_number held_list place_number
  takes_number e remove = remove.number ∙ remove_taken _ (held_list h ps) a b first_open (is_there e)

  takes_list : {s : Changed} {ps' : List Pair} → r.held ≡ 1 → RemoveSays h ps a b s ps' → TakenThere h ps q r.at ps'
  unfolding removed as_records
  takes_list e remove =
      let next : suc r.at ≡ r.at + 1 = omega arith in
      record {
        there = ((says.stands z).exactly.0 e).1;
        list =
            (remove_passed remove (takes_number e remove)).list
            ∙ ap (λ (us : List Lists.Pair). as_records us ++ (blank ∷ drop h.m ps)) (remove_split q gs (held_rises h ps agreed) (is_there e))
            ∙ rw (← at_is, ← next) (split_records [] (suc r.at) (blank ∷ drop h.m ps));
      }

pub add_puts_there : AddPutsThere
unfolding AddPutsThere
add_puts_there h ps a b w r s ps' says z e add = (puts_number h ps a b r says z e add, puts_list h ps a b r says z e add)

pub add_raises_there : AddRaisesThere
unfolding AddRaisesThere
add_raises_there h ps a b w r s ps' says z e add =
    (raises_number h ps a b r says z e add, λ n. (raises_head h ps a b r says z e add n, raises_list h ps a b r says z e add n))

pub remove_takes_there : RemoveTakesThere
unfolding RemoveTakesThere
remove_takes_there h ps a b r s ps' says z e remove =
    (takes_number h ps a b r says z e remove, takes_list h ps a b r says z e remove)

-- ---- refusals, and every list

-- 14 is none of place's numbers
never_14 : (d : Bool) (n a b : ℕ) → refusal (place_causes d n a b) ≡ 14 → ⊥
unfolding refusal cause pair_causes
never_14 d n a b e = go d (self_paired a b) (module_unknown 0 n a b) e
  where
    go : (d s u : Bool) → ◌≡◌ {A = ℕ} (cond d 13 (cond s 5 (cond u 4 0))) 14 → ⊥
    go true s u e = omega (arith, e)
    go false true u e = omega (arith, e)
    go false false true e = omega (arith, e)
    go false false false e = omega (arith, e)

module _ (h : Head) (ps : List Pair) (a b : ℕ) (r : Placed) (s : Changed) (ps' : List Pair)
    (says : PlaceSays h ps a b r) (remove : RemoveSays h ps a b s ps') where
  abbrev AsRemove : Type 0
  AsRemove = (r.number ≡ cond (eqb s.number 14) 0 s.number) × ((s.number ≡ 14) ↔ ((r.number ≡ 0) × (r.held ≡ 0)))

  -- where place refuses nothing: 14 or 0, as the pair is held
  as_held : r.number ≡ 0 → (t : Bool) → is_held (smaller_first_pair a b) (held_list h ps).pairs ≡ t → AsRemove
  unfolding remove_number held_list place_number mark
  as_held z true e =
      let n : s.number ≡ 0 = remove.number ∙ remove_taken _ (held_list h ps) a b (first_open h ps a b r says z) e in
      let one : r.held ≡ 1 = held_is h ps a b r says z ∙ rw e in
      (z ∙ rw n, (λ f. absurd (omega (arith, n, f)), λ x. absurd (omega (arith, one, x.1))))
  as_held z false e =
      let n : s.number ≡ 14 = remove.number ∙ remove_14 _ (held_list h ps) a b (first_open h ps a b r says z) e in
      (z ∙ rw n, (λ f. (z, held_is h ps a b r says z ∙ rw e), λ x. n))

  -- and where it refuses: the same number
  as_refused : (r.number ≡ 0 → ⊥) → AsRemove
  unfolding remove_number held_list place_number
  as_refused some =
      let n : s.number ≡ r.number =
      remove.number ∙ remove_first _ (held_list h ps) a b (λ z. some (says.number ∙ z)) ∙ sym says.number in
      let other : s.number ≡ 14 → ⊥ = λ e. never_14 _ h.n a b (sym says.number ∙ sym n ∙ e) in
      (sym n ∙ rw (ne_eqb s.number 14 other), (λ e. absurd (other e), λ x. absurd (some x.0)))

pub refused_as_remove : RefusedAsRemove
unfolding RefusedAsRemove
refused_as_remove h ps a b r s ps' says remove =
    by_test (eqb r.number 0) (λ t. as_held h ps a b r s ps' says remove (eqb-true _ 0 t) _ refl)
    (λ t. as_refused h ps a b r s ps' says remove (eqb-false _ 0 t))

pub every_place_answered : EveryPlaceAnswered
unfolding EveryPlaceAnswered
every_place_answered g h ps a b r lent l n d says =
    let e : held_list h ps ≡ g = lent_list lent in
    let none : place_number h ps a b ≡ 0 =
    unfold place_number held_list in ends_first h ps a b (lent_agrees lent) (omega (arith, l, n_is lent)) (omega (arith, n, n_is lent)) d in
    let z : r.number ≡ 0 = says.number ∙ none in
    let p = smaller_first_pair a b in
    (z, held_is h ps a b r says z ∙ ap (λ (u : Pairs). mark (is_held p u.pairs)) e, at_is h ps a b r says z ∙ ap (λ (u : Pairs). place_of p u.pairs) e)
