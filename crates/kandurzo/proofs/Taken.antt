-- Which adds and removes are taken, and what the lent records then hold.
--   as_pairs_back, as_records_back      records and pairs are the same
--   held_few, held_is_list, length_held what head and list hold where they agree
--   held_records                        the held records are those of the held pairs
--   record_there                        the held pair at a place is that of the record there
--   held_kept                           they are as the laws of pair files ask it
--   held_front, agrees_front            records of pairs in front of others
--   ends_first                          two different modules pass the causes that come first
--   taken_addable, addable_taken        an add is taken where the count stays within 1,000 and a new pair has a free record, and only there
--   held_removable, taken_removable, removable_taken    a remove where its pair is held
--   added_length, removed_one           the pairs after an add, and a pair less
--   held_added, held_removed            the held pairs after a taken call
--   added_agrees, removed_agrees        head and list agree afterwards
-- proofs/Keeping.antt has what the planner is promised of them. Assumes nothing.
use mathlib.Core.Path.{◌≡◌, refl, ap, sym, ◌∙◌}
use mathlib.Core.Bool.{true, false, not}
use mathlib.Core.List.{List, [], ◌∷◌, ◌++◌}
use Prim.Native.Nat.{ℕ, ◌+◌, ◌-◌, ◌≤◌, ◌<◌}
use native.Mathlib.Omega.{arith}
use lib.ListN.{length, get_or, take, length-map, length-append, get_or-map}
use lib.Seq.{length-take-le, take_at, get_or-take}
use borrow.Author.Tests.{not-false, ne_eqb, le-ltb}
use Rattle.theory.specs.Lists as Lists
use Rattle.theory.specs.Lists.{is_list}
use Rattle.theory.proofs.Tests.{tests, by_test}
use Rattle.theory.proofs.Lists.{listed}
use Rattle.pairs.specs.Held.{is_held, raise_pair, remove_pair, without_pair, smaller_first_pair, stops_of}
use Rattle.pairs.specs.Causes.{count_passes}
use Rattle.pairs.proofs.Causes.{modules_known, count_fit, count_known, count_stays, stops_good}
use Rattle.pairs.proofs.Changes.{remove_length}
use Rattle.pairs.proofs.Ends.{stops_held, stops_weight}
use Rattle.pairs.proofs.Keeps.{remove_list}
use Rattle.pairs.proofs.Raised.{raise_long, raise_more, raise_list}
use Rattle.pairfile.proofs.Names.{Kept, list_kept}
use Rattle.pairfile.proofs.Naming.{ends_held, ends_fit}
use Rattle.records.specs.declared.Pair.{Pair}
use Rattle.records.specs.declared.Head.{Head}
use Rattle.records.specs.Records.{as_pair, as_pairs, held_list, agrees, blank}
use Rattle.on_words.specs.Edits.{head_of, is_full}
use Rattle.kandurzo.specs.Listing.{as_record, as_records, add_number, pairs_then, added, remove_number, removed}
use Rattle.kandurzo.specs.Keeping.{Addable, Removable}
use Rattle.on_words.proofs.Orders.{First, none_first, add_taken, add_none, remove_taken, remove_none}
use Rattle.on_words.proofs.Changes.{full_less}

-- ---- records and pairs

pub as_records_back : (ps : List Pair) → as_records (as_pairs ps) ≡ ps
unfolding as_records as_record as_pairs as_pair
as_records_back [] = refl
as_records_back (p ∷ ps) = ap (λ (qs : List Pair). p ∷ qs) (as_records_back ps)

pub length_as_pairs : (ps : List Pair) → length (as_pairs ps) ≡ length ps
unfolding as_pairs
length_as_pairs ps = length-map ps as_pair

pub length_as_records : (ps : List Lists.Pair) → length (as_records ps) ≡ length ps
unfolding as_records
length_as_records ps = length-map ps as_record

pub as_pairs_back : (ps : List Lists.Pair) → as_pairs (as_records ps) ≡ ps
unfolding as_records as_record as_pairs as_pair
as_pairs_back [] = refl
as_pairs_back (p ∷ ps) = ap (λ (qs : List Lists.Pair). p ∷ qs) (as_pairs_back ps)

-- ---- the held pairs

module _ (h : Head) (ps : List Pair) (agreed : agrees h ps ≡ true) where
  pub held_few : h.m ≤ length ps
  unfolding agrees
  held_few = (simp tests at agreed).0

  pub held_is_list : is_list (held_list h ps) ≡ true
  unfolding agrees
  held_is_list = (simp tests at agreed).1

  pub length_held : length (held_list h ps).pairs ≡ h.m
  unfolding held_list
  length_held = length_as_pairs (take h.m ps) ∙ length-take-le h.m ps held_few

  -- the held records are those of the held pairs
  pub held_records : as_records (held_list h ps).pairs ≡ take h.m ps
  unfolding held_list
  held_records = as_records_back (take h.m ps)

  -- the held pairs, as the laws of pair files ask it
  pub held_kept : Kept h.n (held_list h ps).pairs
  unfolding held_list
  held_kept = list_kept (held_list h ps) held_is_list

-- the held pair at a place is that of the record there
pub record_there : (h : Head) (ps : List Pair) (i : ℕ) → i < h.m → get_or (held_list h ps).pairs i (as_pair blank) ≡ as_pair (get_or ps i blank)
unfolding held_list as_pairs
record_there h ps i l = get_or-map as_pair (take h.m ps) i blank ∙ ap as_pair (get_or-take h.m ps i blank l)

-- the records of m pairs in front of others: the held pairs are these
pub held_front : (n m : ℕ) (qs : List Lists.Pair) (rest : List Pair) → length qs ≡ m →
    held_list (head_of n m) (as_records qs ++ rest) ≡ record { n = n; pairs = qs }
unfolding held_list head_of
held_front n m qs rest l =
    ap (λ (ps : List Pair). record { n = n; pairs = as_pairs ps }) (take_at (as_records qs) rest m (length_as_records qs ∙ l))
    ∙ ap (λ (ps : List Lists.Pair). record { n = n; pairs = ps }) (as_pairs_back qs)

pub agrees_front : (n m : ℕ) (qs : List Lists.Pair) (rest : List Pair) → length qs ≡ m →
    is_list (record { n = n; pairs = qs }) ≡ true → agrees (head_of n m) (as_records qs ++ rest) ≡ true
unfolding agrees
agrees_front n m qs rest l e =
    simp tests (unfold head_of in (omega (arith, length-append (as_records qs) rest, length_as_records qs)), rw (held_front n m qs rest l) e)

-- ---- which calls are taken

-- a list with a free record is not full
list_not_full : (h : Head) (len : ℕ) → h.m < 4096 → h.m < len → is_full h len ≡ false
unfolding is_full
list_not_full h len few fits = rw (ne_eqb h.m 4096 (λ e. omega arith), ne_eqb h.m len (λ e. omega arith))

module _ (h : Head) (ps : List Pair) (a b : ℕ) where
  -- where head and list agree, two different modules pass the causes that come first
  pub ends_first : agrees h ps ≡ true → a < h.n → b < h.n → (a ≡ b → ⊥) → First (not (agrees h ps)) (held_list h ps).n a b ≡ 0
  ends_first agreed l k d = none_first _ (held_list h ps).n a b (rw agreed) (unfold held_list in (ends_fit h.n a b l k d))

  -- an add that is taken keeps the count within 1,000, and has a free record for a new pair
  pub taken_addable : (w : ℕ) → add_number h ps a b w ≡ 0 → Addable h ps a b w
  unfolding add_number
  taken_addable w e =
      let x = add_none _ (held_list h ps) _ a b w e in
      let agreed = not-false _ x.agreed in
      let ends = modules_known h.n a b (unfold held_list in x.modules) in
      let few = (listed (held_list h ps) (held_is_list h ps agreed)).short in
      record {
        agreed = agreed;
        first = ends.0;
        second = ends.1;
        different = ends.2;
        some_stops = (count_known w x.stops).0;
        few_stops = count_stays (smaller_first_pair a b) w (held_list h ps).pairs x.within;
        room = λ new. full_less h (length ps) (omega (arith, few, length_held h ps agreed)) (held_few h ps agreed) (x.room new);
      }

  -- and every such add is taken
  pub addable_taken : (w : ℕ) → Addable h ps a b w → add_number h ps a b w ≡ 0
  unfolding add_number
  addable_taken w x =
      let l : w ≤ 1000 = omega (arith, x.few_stops) in
      add_taken _ (held_list h ps) _ a b w record {
        agreed = rw x.agreed;
        modules = unfold held_list in (ends_fit h.n a b x.first x.second x.different);
        stops = count_fit w x.some_stops l;
        within = unfold count_passes in (le-ltb 1000 _ x.few_stops);
        room = λ new. list_not_full h (length ps) (x.room new).0 (x.room new).1;
      }

  -- a pair that is held can be removed: its modules are two of the list
  pub held_removable : agrees h ps ≡ true → is_held (smaller_first_pair a b) (held_list h ps).pairs ≡ true → Removable h ps a b
  held_removable agreed held =
      let ends = ends_held h.n a b (held_list h ps).pairs (held_kept h ps agreed) held in
      record { agreed = agreed; first = ends.0; second = ends.1; different = ends.2; held = held }

  -- a remove that is taken is of a held pair
  pub taken_removable : remove_number h ps a b ≡ 0 → Removable h ps a b
  unfolding remove_number
  taken_removable e = let x = remove_none _ (held_list h ps) a b e in held_removable (not-false _ x.0) x.1

  -- and every such remove is taken
  pub removable_taken : Removable h ps a b → remove_number h ps a b ≡ 0
  unfolding remove_number
  removable_taken x = remove_taken _ (held_list h ps) a b (ends_first x.agreed x.first x.second x.different) x.held

-- ---- after a taken add

module _ (h : Head) (ps : List Pair) (a b w : ℕ) (taken : add_number h ps a b w ≡ 0) where
  passed : Addable h ps a b w
  passed = taken_addable h ps a b w taken

  abbrev held_now : List Lists.Pair
  held_now = (held_list h ps).pairs

  -- a new pair is one more
  pub added_length : length (raise_pair (stops_of a b w) held_now) ≡ pairs_then h ps a b
  unfolding pairs_then
  added_length =
      let long = length_held h ps passed.agreed in
      let rises = (listed (held_list h ps) (held_is_list h ps passed.agreed)).rises in
      by_test (is_held (smaller_first_pair a b) held_now)
      (λ t. rw t (raise_long (stops_of a b w) held_now rises (stops_held a b w held_now ∙ t) ∙ long))
      (λ t. rw t (omega (arith, raise_more (stops_of a b w) held_now (stops_held a b w held_now ∙ t), long)))

  -- the list holds so many stops more of the pair, and otherwise what it held
  pub held_added : held_list (head_of h.n (pairs_then h ps a b)) (added h ps a b w) ≡ record { n = h.n; pairs = raise_pair (stops_of a b w) held_now }
  unfolding added
  held_added = held_front h.n (pairs_then h ps a b) (raise_pair (stops_of a b w) held_now) _ added_length

  pub added_list : is_list (record { n = h.n; pairs = raise_pair (stops_of a b w) held_now }) ≡ true
  unfolding stops_of
  added_list =
      let count : (1 ≤ w) × (w ≤ 1000) = (passed.some_stops, omega (arith, passed.few_stops)) in
      let good = stops_good h.n a b w (passed.first, passed.second, passed.different) count in
      unfold held_list in (raise_list (held_list h ps) (stops_of a b w) (held_is_list h ps passed.agreed) good.0 good.1 count.0
      (omega (arith, stops_weight a b w held_now, passed.few_stops))
      (λ new. omega (arith, length_held h ps passed.agreed, (passed.room (sym (stops_held a b w held_now) ∙ new)).0)))

  -- 13 never follows a taken add
  pub added_agrees : agrees (head_of h.n (pairs_then h ps a b)) (added h ps a b w) ≡ true
  unfolding added
  added_agrees = agrees_front h.n (pairs_then h ps a b) (raise_pair (stops_of a b w) held_now) _ added_length added_list

-- ---- after a taken remove

module _ (h : Head) (ps : List Pair) (a b : ℕ) (taken : remove_number h ps a b ≡ 0) where
  passed_out : Removable h ps a b
  passed_out = taken_removable h ps a b taken

  pub removed_one : length (remove_pair (smaller_first_pair a b) (held_list h ps).pairs) + 1 ≡ h.m
  removed_one =
      omega (arith, remove_length (smaller_first_pair a b) (held_list h ps).pairs passed_out.held, length_held h ps passed_out.agreed)

  removed_length : length (remove_pair (smaller_first_pair a b) (held_list h ps).pairs) ≡ h.m - 1
  removed_length = omega (arith, removed_one)

  pub held_removed : held_list (head_of h.n (h.m - 1)) (removed h ps a b) ≡ without_pair (smaller_first_pair a b) (held_list h ps)
  unfolding removed without_pair
  held_removed =
      held_front h.n (h.m - 1) (remove_pair (smaller_first_pair a b) (held_list h ps).pairs) _ removed_length
      ∙ (unfold held_list in refl)

  -- 13 never follows a taken remove
  pub removed_agrees : agrees (head_of h.n (h.m - 1)) (removed h ps a b) ≡ true
  unfolding removed
  removed_agrees =
      agrees_front h.n (h.m - 1) (remove_pair (smaller_first_pair a b) (held_list h ps).pairs) _ removed_length
      (unfold without_pair held_list in
      (remove_list (held_list h ps) (smaller_first_pair a b) (held_is_list h ps passed_out.agreed) passed_out.held))
