-- What the planner is promised of the list that start, add, remove and read make; of read_dimacs only that 13 never follows, the rest is in Exchange. A
-- statement is a type; proofs/Promises.antt has a theorem for each, of the same name in small letters; pair_at, Addable, Removable, PairAdded,
-- PairRemoved, Adds, SameStops and some_stops are what statements say of one place, pair, call or row of calls. Document 01: no pair is held twice, and
-- 2,5 is the same pair as 5,2; the order in which pairs arrived leaves no trace in the first M records. Document 02, item 4: a pair carries a stop count,
-- and add to a held pair raises it.
--   HeldOnce, EitherWayRound                  no pair is held twice, and 2,5 is the same pair as 5,2
--   Addable, AddExactly, Removable, RemoveExactly    which adds and which removes are taken
--   PairAdded, AddHolds                        what is held after an add that is taken, and that nothing else changed
--   PairRemoved, RemoveDrops                   and after a remove
--   ThirteenNeverFollows                       head and list agree after every taken call
--   Adds, SameStops, some_stops, ArrivalTraceless, AnyOrderTaken    adds in a row, in whatever order and steps the stops come
--   OneAtATime                                some stops of a pair at once, and one after the other
--   EveryListAdded                             different pairs added in a row are taken
--   SamePairsSameRecords, AddUndone          lists that hold the same pairs with the same counts; a pair added and removed
--   EveryFileRead, ReadExact                  every file of different pairs is taken; the pairs held then are exactly those named
-- Assumes nothing: these are definitions.
use Rattle.std.specs.Prelude.{◌≡◌, Bool, true, false, ◌&&◌, ◌||◌, not, cond, List, [], ◌∷◌, ◌↔◌, ℕ, ◌+◌, ◌≤◌, ◌<◌, leb, length, get_or, take, drop, replicate}
use Rattle.theory.specs.Basics.{all}
use Rattle.theory.specs.Lists as Lists
use Rattle.theory.specs.Lists.{pair}
use Rattle.pairs.specs.Held.{same_ends, is_held, weight_of, smaller_first_pair}
use Rattle.pairfile.specs.File.{read_file, file_of}
use Rattle.pairfile.specs.Promise.{stops_named, NamesStops, names_stops, Different, TakenAs}
use Rattle.dimacs.specs.Edges.{read_dimacs}
use Rattle.records.specs.declared.Pair.{Pair}
use Rattle.records.specs.declared.Head.{Head}
use Rattle.records.specs.Records.{held_list, agrees, blank}
use Rattle.kandurzo.specs.declared.Changed.{Changed}
use Rattle.on_words.specs.declared.Placed.{Placed}
use Rattle.on_words.specs.Edits.{head_of}
use Rattle.kandurzo.specs.Listing.{started, pairs_then, AddSays, RemoveSays}
use Rattle.kandurzo.specs.Placing.{PlaceSays}
use Rattle.kandurzo.specs.Reading.{ReadCall}

-- ---- one pair more, one pair less

-- the pair that the record at a place stands for, the smaller module first
unfoldable pub pair_at : List Pair → (i : ℕ) → Lists.Pair
pair_at ps i = smaller_first_pair (get_or ps i blank).a (get_or ps i blank).b

-- NO PAIR IS HELD TWICE: where head and list agree, two places with the same pair are one place
unfoldable pub HeldOnce : Type 0
HeldOnce =
    (h : Head) (ps : List Pair) (i j : ℕ) → agrees h ps ≡ true → i < h.m → j < h.m → same_ends (pair_at ps i) (pair_at ps j) ≡ true → i ≡ j

-- 2,5 IS THE SAME PAIR AS 5,2: add, remove and place answer and leave the same, whichever module is named first
pub record EitherWayRound : Type 0 where
  pub add : (h : Head) (ps : List Pair) (a b w : ℕ) (r : Changed) (ps' : List Pair) → AddSays h ps a b w r ps' → AddSays h ps b a w r ps'
  pub remove : (h : Head) (ps : List Pair) (a b : ℕ) (r : Changed) (ps' : List Pair) → RemoveSays h ps a b r ps' → RemoveSays h ps b a r ps'
  pub place : (h : Head) (ps : List Pair) (a b : ℕ) (r : Placed) → PlaceSays h ps a b r → PlaceSays h ps b a r

-- two different modules of the list, some stops that keep their pair's count at 1,000 or less, and for a new pair a free record
pub record Addable (h : Head) (ps : List Pair) (a b w : ℕ) : Type 0 where
  pub agreed : agrees h ps ≡ true
  pub first : a < h.n
  pub second : b < h.n
  pub different : a ≡ b → ⊥
  pub some_stops : 1 ≤ w
  -- a pair that is not held counts 0
  pub few_stops : weight_of (smaller_first_pair a b) (held_list h ps).pairs + w ≤ 1000
  pub room : is_held (smaller_first_pair a b) (held_list h ps).pairs ≡ false → (h.m < 4096) × (h.m < length ps)

-- THESE ADDS ARE TAKEN, AND NO OTHERS
unfoldable pub AddExactly : Type 0
AddExactly = (h : Head) (ps : List Pair) (a b w : ℕ) (r : Changed) (ps' : List Pair) → AddSays h ps a b w r ps' → (r.number ≡ 0) ↔ Addable h ps a b w

-- two different modules of the list, whose pair is held
pub record Removable (h : Head) (ps : List Pair) (a b : ℕ) : Type 0 where
  pub agreed : agrees h ps ≡ true
  pub first : a < h.n
  pub second : b < h.n
  pub different : a ≡ b → ⊥
  pub held : is_held (smaller_first_pair a b) (held_list h ps).pairs ≡ true

-- THESE REMOVES ARE TAKEN, AND NO OTHERS
unfoldable pub RemoveExactly : Type 0
RemoveExactly =
    (h : Head) (ps : List Pair) (a b : ℕ) (r : Changed) (ps' : List Pair) → RemoveSays h ps a b r ps' → (r.number ≡ 0) ↔ Removable h ps a b

-- the pair of a and b is held now, with w stops more, and otherwise what was held
pub record PairAdded (h : Head) (ps : List Pair) (a b w : ℕ) (h' : Head) (ps' : List Pair) : Type 0 where
  pub modules : h'.n ≡ h.n
  -- a new pair is one more
  pub pairs : h'.m ≡ pairs_then h ps a b
  -- every pair's count: that of a and b has grown by w, all others stay
  pub stops : (p : Lists.Pair) →
      weight_of p (held_list h' ps').pairs ≡ cond (same_ends p (smaller_first_pair a b)) w 0 + weight_of p (held_list h ps).pairs
  pub held : (p : Lists.Pair) →
      is_held p (held_list h' ps').pairs ≡ (same_ends p (smaller_first_pair a b) || is_held p (held_list h ps).pairs)
  -- records past the held ones stay
  pub same_length : length ps' ≡ length ps
  pub past : drop h'.m ps' ≡ drop h'.m ps

-- AFTER AN ADD THAT IS TAKEN ITS PAIR IS HELD WITH SO MANY STOPS MORE, AND NOTHING ELSE CHANGED
unfoldable pub AddHolds : Type 0
AddHolds =
    (h : Head) (ps : List Pair) (a b w : ℕ) (r : Changed) (ps' : List Pair) → AddSays h ps a b w r ps' → r.number ≡ 0 →
    PairAdded h ps a b w r.head ps'

-- the pair of a and b is no longer held, and otherwise what was held
pub record PairRemoved (h : Head) (ps : List Pair) (a b : ℕ) (h' : Head) (ps' : List Pair) : Type 0 where
  pub modules : h'.n ≡ h.n
  pub pairs : h'.m + 1 ≡ h.m
  pub held : (p : Lists.Pair) →
      is_held p (held_list h' ps').pairs ≡ (not (same_ends p (smaller_first_pair a b)) && is_held p (held_list h ps).pairs)
  -- it goes with its whole count; the counts of all others stay
  pub stops : (p : Lists.Pair) →
      weight_of p (held_list h' ps').pairs ≡ cond (same_ends p (smaller_first_pair a b)) 0 (weight_of p (held_list h ps).pairs)
  -- the record freed becomes 0,0,0; records past it stay
  pub same_length : length ps' ≡ length ps
  pub past : drop h'.m ps' ≡ blank ∷ drop h.m ps

-- AFTER A REMOVE THAT IS TAKEN ITS PAIR IS GONE WITH ITS WHOLE COUNT, AND NOTHING ELSE CHANGED
unfoldable pub RemoveDrops : Type 0
RemoveDrops =
    (h : Head) (ps : List Pair) (a b : ℕ) (r : Changed) (ps' : List Pair) → RemoveSays h ps a b r ps' → r.number ≡ 0 → PairRemoved h ps a b r.head ps'

-- 13 NEVER FOLLOWS A TAKEN CALL: head and list agree then
pub record ThirteenNeverFollows : Type 0 where
  pub start : (n : ℕ) (ps : List Pair) → (started n).number ≡ 0 → agrees (started n).head ps ≡ true
  pub add : (h : Head) (ps : List Pair) (a b w : ℕ) (r : Changed) (ps' : List Pair) →
      AddSays h ps a b w r ps' → r.number ≡ 0 → agrees r.head ps' ≡ true
  pub remove : (h : Head) (ps : List Pair) (a b : ℕ) (r : Changed) (ps' : List Pair) →
      RemoveSays h ps a b r ps' → r.number ≡ 0 → agrees r.head ps' ≡ true
  pub read : (bytes : List ℕ) (ps : List Pair) (work : List ℕ) (r : Changed) (ps' : List Pair) (work' : List ℕ) →
      ReadCall read_file bytes ps work r ps' work' → r.number ≡ 0 → agrees r.head ps' ≡ true
  pub read_dimacs : (bytes : List ℕ) (ps : List Pair) (work : List ℕ) (r : Changed) (ps' : List Pair) (work' : List ℕ) →
      ReadCall read_dimacs bytes ps work r ps' work' → r.number ≡ 0 → agrees r.head ps' ≡ true

-- ---- the order of arrival

-- adds in a row, each of them taken: head and list before the first, the pairs with their stops in the order in which they come, head and list after the
-- last
unfoldable pub Adds : Head → List Pair → (arrivals : List Lists.Pair) → Head → List Pair → Type 0
Adds h ps [] h' ps' = (h' ≡ h) × (ps' ≡ ps)
Adds h ps (c ∷ cs) h' ps' =
    (r : Changed) × (qs : List Pair) × AddSays h ps c.a c.b c.w r qs × (r.number ≡ 0) × Adds r.head qs cs h' ps'

-- the same sums of stops arrive of each pair, in any order and steps and whichever module is named first
unfoldable pub SameStops : (cs ds : List Lists.Pair) → Type 0
SameStops cs ds = (p : Lists.Pair) → stops_named p cs ≡ stops_named p ds

-- an arrival has at least one stop
unfoldable pub some_stops : Lists.Pair → Bool
some_stops c = leb 1 c.w

-- THE ORDER OF ARRIVAL LEAVES NO TRACE: what is held depends only on the sums added; in any two orders and steps they leave the same head and the same
-- records
unfoldable pub ArrivalTraceless : Type 0
ArrivalTraceless =
    (h : Head) (ps : List Pair) (cs ds : List Lists.Pair) (i j : Head) (qs rs : List Pair) → SameStops cs ds →
    Adds h ps cs i qs → Adds h ps ds j rs → (i ≡ j) × (qs ≡ rs)

-- NO ORDER OF ARRIVAL IS REFUSED: stops that are taken in one order and in some steps are taken in every order and in any steps of at least one stop
unfoldable pub AnyOrderTaken : Type 0
AnyOrderTaken =
    (h : Head) (ps : List Pair) (cs ds : List Lists.Pair) (i : Head) (qs : List Pair) → SameStops cs ds → all some_stops ds ≡ true →
    Adds h ps cs i qs → Adds h ps ds i qs

-- ADDING W STOPS OF A PAIR, HELD OR NOT, IS ADDING THEM ONE AT A TIME
unfoldable pub OneAtATime : Type 0
OneAtATime =
    (h : Head) (ps : List Pair) (a b w : ℕ) (i : Head) (qs : List Pair) → 1 ≤ w →
    Adds h ps (record { a = a; b = b; w = w } ∷ []) i qs ↔ Adds h ps (replicate w (pair a b)) i qs

-- EVERY LIST CAN BE ENTERED PAIR BY PAIR: of 1 to 512 modules and up to 4,096 different pairs with 1 to 1,000 stops each, where there is room; it then holds
-- exactly these
unfoldable pub EveryListAdded : Type 0
EveryListAdded =
    (n : ℕ) (arrivals : List Lists.Pair) (ps : List Pair) →
    1 ≤ n → n ≤ 512 → length arrivals ≤ 4096 → length arrivals ≤ length ps → all (names_stops n) arrivals ≡ true → Different arrivals →
    (ps' : List Pair) × Adds (started n).head ps arrivals (head_of n (length arrivals)) ps'
    × NamesStops arrivals (held_list (head_of n (length arrivals)) ps').pairs

-- LISTS THAT HOLD THE SAME PAIRS WITH THE SAME COUNTS HAVE THE SAME HELD RECORDS, whatever calls made them (a pair that is not held counts 0)
unfoldable pub SamePairsSameRecords : Type 0
SamePairsSameRecords =
    (h k : Head) (ps qs : List Pair) → agrees h ps ≡ true → agrees k qs ≡ true →
    ((p : Lists.Pair) → weight_of p (held_list h ps).pairs ≡ weight_of p (held_list k qs).pairs) →
    (h.m ≡ k.m) × (take h.m ps ≡ take k.m qs)

-- A NEW PAIR ADDED CAN BE REMOVED AGAIN, which leaves head and held records as they were
unfoldable pub AddUndone : Type 0
AddUndone =
    (h : Head) (ps : List Pair) (a b w : ℕ) (r s : Changed) (qs rs : List Pair) → AddSays h ps a b w r qs → r.number ≡ 0 →
    is_held (smaller_first_pair a b) (held_list h ps).pairs ≡ false →
    RemoveSays r.head qs a b s rs → (s.number ≡ 0) × (s.head ≡ h) × (take h.m rs ≡ take h.m ps)

-- ---- read

-- EVERY FILE OF DIFFERENT PAIRS IS TAKEN, of 1 to 512 modules and up to 4,096 pairs with 1 to 1,000 stops each, where there is room; in whatever order they
-- come and whichever module stands first on a line; the list then holds exactly these pairs with these counts
unfoldable pub EveryFileRead : Type 0
EveryFileRead =
    (n : ℕ) (lines : List Lists.Pair) (ps : List Pair) (work : List ℕ) (r : Changed) (ps' : List Pair) (work' : List ℕ) →
    1 ≤ n → n ≤ 512 → length lines ≤ 4096 → length lines ≤ length ps → 16384 ≤ length work → all (names_stops n) lines ≡ true → Different lines →
    ReadCall read_file (file_of n lines) ps work r ps' work' →
    (r.number ≡ 0) × (r.head ≡ head_of n (length lines)) × NamesStops lines (held_list r.head ps').pairs

-- THE PAIRS HELD AFTER A FILE IS TAKEN ARE EXACTLY THOSE THAT IT NAMES, WITH THE COUNTS NAMED: its bytes are the file of the list that is held then; records
-- past it stay
unfoldable pub ReadExact : Type 0
ReadExact =
    (bytes : List ℕ) (ps : List Pair) (work : List ℕ) (r : Changed) (ps' : List Pair) (work' : List ℕ) →
    ReadCall read_file bytes ps work r ps' work' → r.number ≡ 0 →
    TakenAs (length ps) bytes (held_list r.head ps') × (drop r.head.m ps' ≡ drop r.head.m ps)
