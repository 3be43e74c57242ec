-- From the records to the words and back: what add and remove do on words is what they do to the lent records.
--   laid_records                       the records in words are those of the pairs
--   add_disagrees, add_refused, add_done          add's promise, where 13 refuses, where add on words does, and where it is taken
--   add_part, add_back                            what the way back asks
--   remove_disagrees, remove_refused, remove_done, remove_back    remove likewise
-- Assumes nothing.
use mathlib.Core.Path.{◌≡◌, refl, sym, ap, ◌∙◌}
use mathlib.Core.Bool.{true, not, cond}
use mathlib.Core.List.{List, [], ◌∷◌, ◌++◌}
use Prim.Native.Nat.{ℕ, ◌+◌, ◌≤◌}
use native.Mathlib.Omega.{arith}
use lib.ListN.{length, take, drop}
use lib.Seq.{length-take-le}
use Rattle.std.proofs.Common.{Ok, Err}
use Rattle.theory.specs.Lists as Lists
use Rattle.theory.specs.Lists.{Pairs, is_list}
use Rattle.theory.specs.Words.{laid_pairs, laid_list}
use Rattle.theory.proofs.Refusals.{if_taken_new, if_taken_old}
use Rattle.refusals.specs.declared.Refusal.{Refusal}
use Rattle.refusals.specs.Numbers.{number_of}
use Rattle.pairs.specs.Held.{is_held, place_of, raise_pair, remove_pair, without_pair, smaller_first_pair, stops_of}
use Rattle.pairs.specs.Located.{located}
use Rattle.pairs.specs.Counts.{raised, pairs_raised}
use Rattle.pairs.specs.Shifts.{delete_at}
use Rattle.pairs.proofs.Keeps.{remove_list}
use Rattle.pairs.proofs.Words.{holds_rising, laid_freed}
use Rattle.lines.proofs.Found.{numbered}
use Rattle.records.specs.declared.Pair.{Pair}
use Rattle.records.specs.declared.Head.{Head}
use Rattle.records.specs.Records.{held_list, agrees, blank, records_in, put_back, RoomBack}
use Rattle.records.proofs.Copies.{pairs_read, put_back_part}
use Rattle.records.proofs.Scans.{agrees_count}
use Rattle.on_words.specs.Buffers.{any_short}
use Rattle.on_words.specs.Gate.{gate_number}
use Rattle.on_words.specs.Edits.{head_of, is_full, pair_located, add_on_number, AddOn, remove_on_number, RemoveOn}
use Rattle.on_words.proofs.Orders.{add_13, remove_13}
use Rattle.on_words.proofs.Changes.{raised_few, raised_there}
use Rattle.on_words.proofs.Fits.{freed_pair, list_fits, freed_fits}
use Rattle.kandurzo.specs.Laying.{Laid}
use Rattle.kandurzo.specs.Listing.{as_record, as_records, changed_of, add_number, pairs_then, added, AddSays, remove_number, removed, RemoveSays}
use Rattle.kandurzo.proofs.Gates.{disagrees, none_lent}
use Rattle.kandurzo.proofs.Taken.{as_records_back, held_is_list, taken_removable, added_list}

-- the records that lie in words are those of the pairs
pub laid_records : (m : ℕ) (ws : List ℕ) → records_in m ws ≡ as_records (laid_pairs m ws)
laid_records m ws = sym (ap as_records (pairs_read m ws) ∙ as_records_back (records_in m ws))

-- the first m records from words, and the others of the list
part_back : (ps : List Pair) (ws : List ℕ) (m : ℕ) → m ≤ length ps →
    records_in (length (take m ps)) ws ++ drop m ps ≡ as_records (laid_pairs m ws) ++ drop m ps
unfolding put_back
part_back ps ws m l = put_back_part ps ws m l ∙ ap (λ (qs : List Pair). qs ++ drop m ps) (laid_records m ws)

-- the pair 0,0 of no stops behind others is the record 0,0,0
freed : (qs : List Lists.Pair) (rest : List Pair) → as_records (qs ++ (freed_pair ∷ [])) ++ rest ≡ as_records qs ++ (blank ∷ rest)
unfolding as_records as_record
freed [] rest = refl
freed (q ∷ qs) rest = ap (λ (ps : List Pair). as_record q ∷ ps) (freed qs rest)

-- the pairs in words are those that are held
held_laid : {h : Head} {ps : List Pair} {zs words : List ℕ} → Laid h ps zs words → laid_pairs h.m words ≡ (held_list h ps).pairs
unfolding laid_list
held_laid laid = ap (λ (g : Pairs). g.pairs) laid.list

-- ---- add

module _ (h : Head) (ps : List Pair) (a b w : ℕ) where
  add_left : (e : Refusal) → number_of e ≡ add_number h ps a b w → AddSays h ps a b w (changed_of (Err e) h) ps
  add_left e f =
      let some : add_number h ps a b w ≡ 0 → ⊥ = λ z. numbered e (f ∙ z) in
      record { number = f; head = sym (if_taken_old _ _ h some); list = sym (if_taken_old _ _ ps some) }

  pub add_disagrees : (e : Refusal) → number_of e ≡ gate_number (agrees h ps) (any_short []) → AddSays h ps a b w (changed_of (Err e) h) ps
  unfolding add_number
  add_disagrees e f =
      let d = disagrees (agrees h ps) (f ∙ none_lent (agrees h ps)) (numbered e) in
      add_left e (d.1 ∙ sym (add_13 (not (agrees h ps)) (held_list h ps) (is_full h (length ps)) a b w (rw d.0)))

  module _ {zs words : List ℕ} (laid : Laid h ps zs words) where
    add_same : add_on_number h (length ps) words a b w ≡ add_number h ps a b w
    unfolding add_on_number add_number
    add_same = rw (laid.list, laid.agreed)

    pub add_refused : (e : Refusal) {words' : List ℕ} → AddOn h (length ps) words a b w (Err e) words' → AddSays h ps a b w (changed_of (Err e) h) ps
    add_refused e on = add_left e (on.number ∙ add_same)

    module _ {new : Head} {words' : List ℕ} (on : AddOn h (length ps) words a b w (Ok new) words') where
      add_taken : add_number h ps a b w ≡ 0
      add_taken = sym add_same ∙ sym on.number

      new_pairs : new.m ≡ pairs_raised h.m (pair_located h words a b)
      unfolding head_of
      new_pairs = ap (λ (k : Head). k.m) on.head

      pairs_are : laid_pairs new.m words' ≡ raise_pair (stops_of a b w) (held_list h ps).pairs
      pairs_are =
          let after : words' ≡ raised h.m (pair_located h words a b) (stops_of a b w) words = on.after ∙ if_taken_new 0 _ words refl in
          rw (new_pairs, after) (raised_there h (length ps) words a b w laid.holds laid.some (sym on.number))
          ∙ ap (raise_pair (stops_of a b w)) (held_laid laid)

      pub add_part : (new.m ≤ 4096) × (new.m ≤ length ps)
      add_part = rw new_pairs (raised_few h (length ps) words a b w laid.holds laid.some (sym on.number))

      pub add_back : 12288 ≤ length words' → RoomBack (take new.m ps) words'
      add_back long =
          let part : length (take new.m ps) ≡ new.m = length-take-le new.m ps add_part.1 in
          record {
            room = record { few = omega (arith, part, add_part); long = λ _. long };
            fits = rw part (list_fits (record { n = h.n; pairs = raise_pair (stops_of a b w) (held_list h ps).pairs }) new.m words'
                (added_list h ps a b w add_taken) pairs_are);
          }

      pub add_done : AddSays h ps a b w (changed_of (Ok new) h) (records_in (length (take new.m ps)) words' ++ drop new.m ps)
      unfolding added pairs_then pairs_raised pair_located located head_of
      add_done =
          let z : add_number h ps a b w ≡ 0 = add_taken in
          let many : new.m ≡ pairs_then h ps a b =
          new_pairs ∙ ap (λ (qs : List Lists.Pair). cond (is_held (smaller_first_pair a b) qs) h.m (h.m + 1)) (held_laid laid) in
          record {
            number = sym z;
            head = on.head ∙ ap (λ (qs : List Lists.Pair). head_of h.n (cond (is_held (smaller_first_pair a b) qs) h.m (h.m + 1))) (held_laid laid)
                ∙ sym (if_taken_new _ _ h z);
            list = part_back ps words' new.m add_part.1 ∙ rw (pairs_are, many) (sym (if_taken_new _ _ ps z));
          }

-- ---- remove

module _ (h : Head) (ps : List Pair) (a b : ℕ) where
  remove_left : (e : Refusal) → number_of e ≡ remove_number h ps a b → RemoveSays h ps a b (changed_of (Err e) h) ps
  remove_left e f =
      let some : remove_number h ps a b ≡ 0 → ⊥ = λ z. numbered e (f ∙ z) in
      record { number = f; head = sym (if_taken_old _ _ h some); list = sym (if_taken_old _ _ ps some) }

  pub remove_disagrees : (e : Refusal) → number_of e ≡ gate_number (agrees h ps) (any_short []) → RemoveSays h ps a b (changed_of (Err e) h) ps
  unfolding remove_number
  remove_disagrees e f =
      let d = disagrees (agrees h ps) (f ∙ none_lent (agrees h ps)) (numbered e) in
      remove_left e (d.1 ∙ sym (remove_13 (not (agrees h ps)) (held_list h ps) a b (rw d.0)))

  module _ {zs words : List ℕ} (laid : Laid h ps zs words) where
    remove_same : remove_on_number h words a b ≡ remove_number h ps a b
    unfolding remove_on_number remove_number
    remove_same = rw (laid.list, laid.agreed)

    pub remove_refused : (e : Refusal) {words' : List ℕ} → RemoveOn h words a b (Err e) words' → RemoveSays h ps a b (changed_of (Err e) h) ps
    remove_refused e on = remove_left e (on.number ∙ remove_same)

    module _ {new : Head} {words' : List ℕ} (on : RemoveOn h words a b (Ok new) words') where
      abbrev p : Lists.Pair
      p = smaller_first_pair a b

      remove_taken : remove_number h ps a b ≡ 0
      remove_taken = sym remove_same ∙ sym on.number

      there : is_held p (held_list h ps).pairs ≡ true
      there = (taken_removable h ps a b remove_taken).held

      pairs_left : laid_pairs h.m words' ≡ remove_pair p (held_list h ps).pairs ++ (freed_pair ∷ [])
      unfolding pair_located located
      pairs_left =
          let after : words' ≡ delete_at h.m (place_of p (laid_pairs h.m words)) words = on.after ∙ if_taken_new 0 _ words refl in
          rw after (laid_freed h.m p words (holds_rising h.n h.m words laid.holds) (rw (held_laid laid) there))
          ∙ ap (λ (qs : List Lists.Pair). remove_pair p qs ++ (freed_pair ∷ [])) (held_laid laid)

      pub remove_back : 12288 ≤ length words' → RoomBack (take h.m ps) words'
      unfolding without_pair
      remove_back long =
          let count = agrees_count h ps laid.agreed in
          let part : length (take h.m ps) ≡ h.m = length-take-le h.m ps count.0 in
          record {
            room = record { few = omega (arith, part, count); long = λ _. long };
            fits = rw part (freed_fits (without_pair p (held_list h ps)) h.m words'
                (remove_list (held_list h ps) p (held_is_list h ps laid.agreed) there) pairs_left);
          }

      pub remove_done : RemoveSays h ps a b (changed_of (Ok new) h) (records_in (length (take h.m ps)) words' ++ drop h.m ps)
      unfolding removed
      remove_done =
          let z : remove_number h ps a b ≡ 0 = remove_taken in
          record {
            number = sym z;
            head = on.head ∙ sym (if_taken_new _ _ h z);
            list =
                part_back ps words' h.m laid.some
                ∙ ap (λ (qs : List Lists.Pair). as_records qs ++ drop h.m ps) pairs_left
                ∙ freed (remove_pair p (held_list h ps).pairs) (drop h.m ps)
                ∙ sym (if_taken_new _ _ ps z);
          }
