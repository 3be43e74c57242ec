-- Document 02, item 3: where a pair stands. The lookup says whether a pair is held and yields its place, or the place where it would go, counted from 0 among
-- the M held records, so that all before it are smaller and none from there on is; with the refusals of remove except 14.
--   place_number, StandsAt, PlaceSays    13, 5, 4; what the request says of the place; what place answers
--   PutThere, AddPutsThere              where `number` and `held` are 0, add puts the pair at `at`
--   RaisedThere, AddRaisesThere         where `number` is 0 and `held` is 1, add raises the count of the record at `at`
--   TakenThere, RemoveTakesThere        where `number` is 0 and `held` is 1, remove takes the record at `at`
--   RefusedAsRemove                      place's number is remove's, but for 14
--   EveryPlaceAnswered                   of every two modules of every list the place of their pair is answered
-- AddPutsThere, AddRaisesThere, RemoveTakesThere, RefusedAsRemove and EveryPlaceAnswered are promises: proofs/Promises.antt has a theorem for each,
-- of the same name in small letters. Assumes nothing: these are definitions.
use Rattle.std.specs.Prelude.{◌≡◌, true, false, not, cond, List, [], ◌∷◌, ◌++◌, ◌↔◌, ℕ, ◌+◌, ◌≤◌, ◌<◌, ltb, eqb, length, get_or, set, take, drop}
use Rattle.theory.specs.Basics.{mark}
use Rattle.theory.specs.Lists as Lists
use Rattle.theory.specs.Lists.{Pairs, stands_before}
use Rattle.theory.specs.Refusals.{cause, refusal, if_taken}
use Rattle.pairs.specs.Held.{same_ends, is_held, place_of, heavier, smaller_first_pair, stops_of}
use Rattle.pairs.specs.Causes.{place_causes, count_causes}
use Rattle.records.specs.declared.Pair.{Pair}
use Rattle.records.specs.declared.Head.{Head}
use Rattle.records.specs.Records.{as_pair, held_list, agrees, blank}
use Rattle.kandurzo.specs.declared.Changed.{Changed}
use Rattle.on_words.specs.declared.Placed.{Placed}
use Rattle.on_words.specs.Edits.{is_full}
use Rattle.kandurzo.specs.Listing.{as_record, AddSays, RemoveSays}
use Rattle.kandurzo.specs.Promise.{Lent}

-- the number that place gives
unfoldable pub place_number : Head → List Pair → (a b : ℕ) → ℕ
place_number h ps a b = refusal (place_causes (not (agrees h ps)) h.n a b)

-- what the request says of the place of p (its lower bound), and of `held`
pub record StandsAt (h : Head) (ps : List Pair) (p : Lists.Pair) (held at : ℕ) : Type 0 where
  -- counted from 0 among the M held records; M where p would go behind them all
  pub among : at ≤ h.m
  -- all before it are smaller
  pub smaller : (i : ℕ) → i < at → stands_before (as_pair (get_or ps i blank)) p ≡ true
  -- and none from there on is
  pub none_smaller : (i : ℕ) → at ≤ i → i < h.m → stands_before (as_pair (get_or ps i blank)) p ≡ false
  -- held exactly if the record at the place is the pair's, whatever its count
  pub exactly : (held ≡ 1) ↔ ((at < h.m) × (same_ends (as_pair (get_or ps at blank)) p ≡ true))
  -- and 0 where it is not
  pub one_or_zero : held ≤ 1

-- what place answers of the pair of a and b, in either order
pub record PlaceSays (h : Head) (ps : List Pair) (a b : ℕ) (r : Placed) : Type 0 where
  pub number : r.number ≡ place_number h ps a b
  -- 1 where the pair is held, else 0; 0 beside a refusal
  pub held : r.held ≡ if_taken r.number (mark (is_held (smaller_first_pair a b) (held_list h ps).pairs)) 0
  -- where it stands or would go; 0 beside a refusal
  pub at : r.at ≡ if_taken r.number (place_of (smaller_first_pair a b) (held_list h ps).pairs) 0
  pub stands : r.number ≡ 0 → StandsAt h ps (smaller_first_pair a b) r.held r.at

-- a list after p was put in at a place, with its stops
pub record PutThere (h : Head) (ps : List Pair) (p : Lists.Pair) (at : ℕ) (ps' : List Pair) : Type 0 where
  pub there : get_or ps' at blank ≡ as_record p
  -- records before the place stay, held ones from there on move up by one, and records past the one taken into use stay
  pub list : ps' ≡ take at ps ++ (as_record p ∷ (drop at (take h.m ps) ++ drop (h.m + 1) ps))

-- WHERE `number` AND `held` ARE 0, ADD PUTS THE PAIR AT `at`; or it refuses by 18, the stops, or by 11, where no record is free, and by nothing else
unfoldable pub AddPutsThere : Type 0
AddPutsThere =
    (h : Head) (ps : List Pair) (a b w : ℕ) (r : Placed) (s : Changed) (ps' : List Pair) →
    PlaceSays h ps a b r → r.number ≡ 0 → r.held ≡ 0 → AddSays h ps a b w s ps' →
    (s.number ≡ refusal (count_causes w ++ (cause 11 (is_full h (length ps)) ∷ []))) × (s.number ≡ 0 → PutThere h ps (stops_of a b w) r.at ps')

-- a list after the count of the record at a place was raised by w
pub record RaisedThere (h : Head) (ps : List Pair) (p : Lists.Pair) (w at : ℕ) (ps' : List Pair) : Type 0 where
  pub there : same_ends (as_pair (get_or ps at blank)) p ≡ true
  -- all other records stay
  pub list : ps' ≡ set ps at (as_record (heavier w (as_pair (get_or ps at blank))))

-- WHERE `number` IS 0 AND `held` IS 1, ADD RAISES THE COUNT OF THE RECORD AT `at`, and M stays; or it refuses by 18, the stops, or by 19, where the raised
-- count passes 1,000, and by nothing else
unfoldable pub AddRaisesThere : Type 0
AddRaisesThere =
    (h : Head) (ps : List Pair) (a b w : ℕ) (r : Placed) (s : Changed) (ps' : List Pair) →
    PlaceSays h ps a b r → r.number ≡ 0 → r.held ≡ 1 → AddSays h ps a b w s ps' →
    (s.number ≡ refusal (count_causes w ++ (cause 19 (ltb 1000 ((get_or ps r.at blank).w + w)) ∷ [])))
    × (s.number ≡ 0 → (s.head ≡ h) × RaisedThere h ps (smaller_first_pair a b) w r.at ps')

-- a list after the record of p was taken from a place
pub record TakenThere (h : Head) (ps : List Pair) (p : Lists.Pair) (at : ℕ) (ps' : List Pair) : Type 0 where
  pub there : same_ends (as_pair (get_or ps at blank)) p ≡ true
  -- records before the place stay, held ones behind it move down by one, the record freed becomes 0,0,0, and records past it stay
  pub list : ps' ≡ take at ps ++ (drop (at + 1) (take h.m ps) ++ (blank ∷ drop h.m ps))

-- WHERE `number` IS 0 AND `held` IS 1, REMOVE TAKES THE RECORD AT `at`
unfoldable pub RemoveTakesThere : Type 0
RemoveTakesThere =
    (h : Head) (ps : List Pair) (a b : ℕ) (r : Placed) (s : Changed) (ps' : List Pair) →
    PlaceSays h ps a b r → r.number ≡ 0 → r.held ≡ 1 → RemoveSays h ps a b s ps' →
    (s.number ≡ 0) × TakenThere h ps (smaller_first_pair a b) r.at ps'

-- PLACE REFUSES AS REMOVE DOES, EXCEPT BY 14: remove gives 14 exactly where place gives 0 and says that the pair is not held
unfoldable pub RefusedAsRemove : Type 0
RefusedAsRemove =
    (h : Head) (ps : List Pair) (a b : ℕ) (r : Placed) (s : Changed) (ps' : List Pair) → PlaceSays h ps a b r → RemoveSays h ps a b s ps' →
    (r.number ≡ cond (eqb s.number 14) 0 s.number) × ((s.number ≡ 14) ↔ ((r.number ≡ 0) × (r.held ≡ 0)))

-- OF EVERY TWO MODULES OF EVERY LIST THE PLACE OF THEIR PAIR IS ANSWERED, held or not, in either order
unfoldable pub EveryPlaceAnswered : Type 0
EveryPlaceAnswered =
    (g : Pairs) (h : Head) (ps : List Pair) (a b : ℕ) (r : Placed) → Lent g h ps → a < g.n → b < g.n → (a ≡ b → ⊥) → PlaceSays h ps a b r →
    let p = smaller_first_pair a b in (r.number ≡ 0) × (r.held ≡ mark (is_held p g.pairs)) × (r.at ≡ place_of p g.pairs)
