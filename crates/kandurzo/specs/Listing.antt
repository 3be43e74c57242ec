-- Document 01, "The list and its calls": what start, add and remove answer, and what they leave of the lent records. Document 02, item 4: a pair carries a
-- stop count, and add to a held pair raises it.
--   changed_to, changed_of                   a number with a head, and that of an answer
--   started                                  start
--   as_record, as_records                    pairs as records
--   add_number, pairs_then, added, AddSays  add
--   remove_number, removed, RemoveSays      remove
-- Assumes nothing: these are definitions.
use Rattle.std.specs.Prelude.{◌≡◌, not, cond, List, ◌∷◌, ◌++◌, map, ℕ, ◌+◌, ◌-◌, length, drop, Result, Ok, Err}
use Rattle.theory.specs.Lists as Lists
use Rattle.theory.specs.Refusals.{refusal, if_taken}
use Rattle.refusals.specs.declared.Refusal.{Refusal}
use Rattle.refusals.specs.Numbers.{number_of}
use Rattle.pairs.specs.Held.{is_held, raise_pair, remove_pair, smaller_first_pair, stops_of}
use Rattle.pairs.specs.Causes.{add_causes, remove_causes}
use Rattle.pairfile.specs.File.{modules_causes}
use Rattle.records.specs.declared.Pair.{Pair}
use Rattle.records.specs.declared.Head.{Head}
use Rattle.records.specs.Records.{held_list, agrees, blank}
use Rattle.on_words.specs.Edits.{head_of, is_full}
use Rattle.kandurzo.specs.declared.Changed.{Changed}

-- an answer of a number and a head: the calls on the caller's own head give the number, and leave the head
unfoldable pub changed_to : (number : ℕ) → Head → Changed
changed_to k h = record { number = k; head = h }

-- the new head; beside a refusal's number the head before
abbrev pub changed_of : Result Head Refusal → (before : Head) → Changed
changed_of (Ok new) before = record { number = 0; head = new }
changed_of (Err e) before = record { number = number_of e; head = before }

-- ---- start

-- 2, as on the first line of a pair file; a head without pairs, and 0,0 beside a refusal
unfoldable pub started : (n : ℕ) → Changed
started n = record { number = refusal (modules_causes n); head = if_taken (refusal (modules_causes n)) (head_of n 0) (head_of 0 0) }

-- ---- records

-- the record of a pair, with its stop count
unfoldable pub as_record : Lists.Pair → Pair
as_record p = record { a = p.a; b = p.b; w = p.w }

-- the records of some pairs
unfoldable pub as_records : List Lists.Pair → List Pair
as_records ps = map as_record ps

-- ---- add: 13, 5, 4, 18, 19, 11

-- the number that add gives
unfoldable pub add_number : Head → List Pair → (a b w : ℕ) → ℕ
add_number h ps a b w = refusal (add_causes (not (agrees h ps)) (held_list h ps) (is_full h (length ps)) a b w)

-- how many pairs are held after an add that is taken: a new pair is one more
unfoldable pub pairs_then : Head → List Pair → (a b : ℕ) → ℕ
pairs_then h ps a b = cond (is_held (smaller_first_pair a b) (held_list h ps).pairs) h.m (h.m + 1)

-- the held records with w stops more of the pair of a and b: a held pair's count is raised, a new pair goes to its place and later ones are shifted up;
-- records past them stay
unfoldable pub added : Head → List Pair → (a b w : ℕ) → List Pair
added h ps a b w = as_records (raise_pair (stops_of a b w) (held_list h ps).pairs) ++ drop (pairs_then h ps a b) ps

-- what add answers, and the lent records after it
pub record AddSays (h : Head) (ps : List Pair) (a b w : ℕ) (r : Changed) (after : List Pair) : Type 0 where
  pub number : r.number ≡ add_number h ps a b w
  pub head : r.head ≡ if_taken (add_number h ps a b w) (head_of h.n (pairs_then h ps a b)) h
  pub list : after ≡ if_taken (add_number h ps a b w) (added h ps a b w) ps

-- ---- remove: 13, 5, 4, 14

-- the number that remove gives
unfoldable pub remove_number : Head → List Pair → (a b : ℕ) → ℕ
remove_number h ps a b = refusal (remove_causes (not (agrees h ps)) (held_list h ps) a b)

-- the held records without the pair and its whole count, later ones shifted down; the one freed becomes 0,0,0; records past them stay
unfoldable pub removed : Head → List Pair → (a b : ℕ) → List Pair
removed h ps a b =
    as_records (remove_pair (smaller_first_pair a b) (held_list h ps).pairs) ++ (blank ∷ drop h.m ps)

-- what remove answers, and the lent records after it
pub record RemoveSays (h : Head) (ps : List Pair) (a b : ℕ) (r : Changed) (after : List Pair) : Type 0 where
  pub number : r.number ≡ remove_number h ps a b
  pub head : r.head ≡ if_taken (remove_number h ps a b) (head_of h.n (h.m - 1)) h
  pub list : after ≡ if_taken (remove_number h ps a b) (removed h ps a b) ps
