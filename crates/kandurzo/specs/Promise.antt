-- What the planner is promised of the calls. A statement is a type; proofs/Promises.antt has a theorem for each, of the same name in small letters.
-- Lent, PeelServed, SolveServed, TurnedDown, KitServed, NoKit, PeelingOf, BestOfAll, SharesAlike and CompareAlike are what statements say of one list, call or
-- answer. A statement speaks of a call by what its contract in src/lib.rt says of it (AddSays, PeelCall and so on). The planner's demands:
--   1. Every list, with buffers of the stated sizes, gets its group, core numbers and load sheet; a call that meets a refusal condition gets that
--      number and changes no head, list or answer buffer. A list without pairs has no group (document 02, item 6): solve and check turn it down.
--   2. The group is the largest of all groups of greatest ratio; core numbers, leaving order, surplus and file reading are those of document 01, where a
--      pair counts as often as it has stops (document 02, item 4). The group is promised for lists with a pair (item 6).
--   3. For every list, group and split: ratio and greatest load over share size are equal exactly when both are best among all groups and all splits at
--      every share size. What solve hands out, and whatever check accepts, reaches that equality; P and Q returned are the group's, and the greatest load
--      at share size Q is exactly P. (The equality: theory, specs/Promise.antt; of solve and check: Optimal, in Handed and in CheckCall.)
-- The statements:
--   every list    Lent, LentHeld; PeelServed, EveryListPeeled; SolveServed, EveryListSolved; EveryListJudged, EveryListCompared; TurnedDown, NoStopsNoGroup
--   kits          KitServed, EveryListKitted; NoKit, KitTurnedDown
--   refusals      RefusalsKeep; UnsplitNever, FifteenNever
--   answers       PeelingOf, PeelExact; BestOfAll, CheckExact; SharesAlike, SolveAlone, SolveAccepted; CompareAlike, RecordsInOrder
-- Those of start, add, remove and read are in Keeping (and 13 after read_dimacs), the others of read_dimacs and write_dimacs in Exchange; what 5 before 4
-- says of add, remove, place and both readers is in Twice, and where a pair stands in Placing.
-- Assumes nothing: these are definitions.
use Rattle.std.specs.Prelude.{◌≡◌, true, false, List, [], ◌↔◌, ℕ, ◌*◌, ◌≤◌, ◌<◌, ltb, leb, eqb, length, get_or, take, drop}
use Rattle.std.proofs.Math.Option.{some}
use Rattle.std.specs.Float.Ieee.{lt, le, eq}
use Rattle.theory.specs.Lists.{Pairs, pair, is_list}
use Rattle.theory.specs.Groups.{size, is_group, everyone}
use Rattle.theory.specs.Leaving.{leaver, leaving, left_behind}
use Rattle.theory.specs.Cores.{core_numbers}
use Rattle.theory.specs.Splits.{is_split, pair_in_core}
use Rattle.theory.specs.Promise.{BothBest, LargestOrder}
use Rattle.theory.specs.Kits.{bad_least, kit, KitPromise}
use Rattle.verify.specs.declared.Verdict.{Verdict}
use Rattle.verify.specs.declared.Difference.{Difference}
use Rattle.verify.specs.Answers.{refused_by, CheckSays, SurplusSays}
use Rattle.records.specs.declared.Pair.{Pair}
use Rattle.records.specs.declared.Head.{Head}
use Rattle.records.specs.Records.{held_list, agrees}
use Rattle.kandurzo.specs.declared.Changed.{Changed}
use Rattle.on_words.specs.declared.Solved.{Solved}
use Rattle.on_words.specs.declared.Written.{Written}
use Rattle.on_words.specs.Buffers.{in_front, cleared}
use Rattle.on_words.specs.Edits.{head_of}
use Rattle.kandurzo.specs.Listing.{as_records, AddSays, RemoveSays}
use Rattle.on_words.specs.Reading.{Reader}
use Rattle.kandurzo.specs.Reading.{ReadCall}
use Rattle.kandurzo.specs.Writing.{WriteCall}
use Rattle.kandurzo.specs.Peeling.{PeelCall}
use Rattle.on_words.specs.Solving.{Handed, Declined}
use Rattle.kandurzo.specs.Solving.{Unsplit, SolveCall}
use Rattle.kandurzo.specs.Judging.{CheckCall, SurplusCall}
use Rattle.kandurzo.specs.Kitting.{KitCall}

-- ---- every list

-- a list g is lent: the head has its N and M, and the records of its pairs stand in front of the lent list
pub record Lent (g : Pairs) (h : Head) (ps : List Pair) : Type 0 where
  pub list : is_list g ≡ true
  pub head : h ≡ head_of g.n (length g.pairs)
  pub records : take (length g.pairs) ps ≡ as_records g.pairs

-- A LIST IS LENT exactly where head and list agree and hold it
unfoldable pub LentHeld : Type 0
LentHeld = (g : Pairs) (h : Head) (ps : List Pair) → Lent g h ps ↔ ((agrees h ps ≡ true) × (held_list h ps ≡ g))

-- a list is peeled: no refusal; in front of the buffers stand its leaving order and core numbers; the work buffer is cleared
pub record PeelServed (g : Pairs) (order cores work : List ℕ) (r : ℕ) (order' cores' work' : List ℕ) : Type 0 where
  pub number : r ≡ 0
  pub order_is : order' ≡ in_front (leaving g) order
  pub cores_are : cores' ≡ in_front (core_numbers g) cores
  pub left : work' ≡ cleared work

-- PEEL SERVES EVERY LIST that is lent with buffers of the stated sizes
unfoldable pub EveryListPeeled : Type 0
EveryListPeeled =
    (g : Pairs) (h : Head) (ps : List Pair) (order cores work : List ℕ) (r : ℕ) (order' cores' work' : List ℕ) →
    Lent g h ps → g.n ≤ length order → g.n ≤ length cores → 16384 ≤ length work →
    PeelCall h ps order cores work r order' cores' work' → PeelServed g order cores work r order' cores' work'

-- a list is served: no refusal; its found group, core numbers and load sheet are handed out; the work buffer is cleared
pub record SolveServed (g : Pairs) (members cores shares work : List ℕ) (r : Solved) (members' cores' shares' work' : List ℕ) : Type 0 where
  pub number : r.number ≡ 0
  pub handed : Handed g members cores shares r members' cores' shares'
  pub left : work' ≡ cleared work

-- SOLVE SERVES EVERY LIST WITH A PAIR that is lent with buffers of the stated sizes
unfoldable pub EveryListSolved : Type 0
EveryListSolved =
    (g : Pairs) (h : Head) (ps : List Pair) (members cores shares work : List ℕ) (r : Solved) (members' cores' shares' work' : List ℕ) →
    Lent g h ps → 1 ≤ length g.pairs → g.n ≤ length members → g.n ≤ length cores → length g.pairs ≤ length shares → 16384 ≤ length work →
    SolveCall h ps members cores shares work r members' cores' shares' work' → SolveServed g members cores shares work r members' cores' shares' work'

-- CHECK LOOKS AT GROUP AND SHARES FOR EVERY SUCH LIST: none of 13, 12 and 20 comes; 7, 8, 9 or 0, P and Q are said of that list, group and shares
unfoldable pub EveryListJudged : Type 0
EveryListJudged =
    (g : Pairs) (h : Head) (ps : List Pair) (members shares work : List ℕ) (v : Verdict) (work' : List ℕ) →
    Lent g h ps → 1 ≤ length g.pairs → g.n ≤ length members → length g.pairs ≤ length shares → 16384 ≤ length work →
    CheckCall h ps members shares work v work' →
    CheckSays g (take g.n members) (take (length g.pairs) shares) v × (work' ≡ cleared work)

-- SURPLUS LOOKS AT THE TWO GROUPS OF EVERY LIST that is lent with buffers of the stated sizes: neither 13 nor 12 comes; 7 or 0, and the value, are said of
-- that list and the two groups
unfoldable pub EveryListCompared : Type 0
EveryListCompared =
    (g : Pairs) (h : Head) (ps : List Pair) (t s : List ℕ) (d : Difference) → Lent g h ps → g.n ≤ length t → g.n ≤ length s →
    SurplusCall h ps t s d → SurplusSays g (take g.n t) (take g.n s) d

-- a call of solve that turns the list down answers 20 and no other value, the answer buffers are as before, and the work buffer is cleared
pub record TurnedDown (members cores shares work : List ℕ) (r : Solved) (members' cores' shares' work' : List ℕ) : Type 0 where
  pub number : r.number ≡ 20
  pub answer : Declined members cores shares r members' cores' shares'
  pub left : work' ≡ cleared work

-- NO STOPS, NO GROUP: of the lists that are lent with buffers of the stated sizes solve and check turn down those without pairs, by 20, and no others; check
-- whatever group and shares it is handed. (Peel serves these lists too: EveryListPeeled.)
pub record NoStopsNoGroup : Type 0 where
  pub solve : (g : Pairs) (h : Head) (ps : List Pair) (members cores shares work : List ℕ) (r : Solved) (members' cores' shares' work' : List ℕ) →
      Lent g h ps → g.n ≤ length members → g.n ≤ length cores → length g.pairs ≤ length shares → 16384 ≤ length work →
      SolveCall h ps members cores shares work r members' cores' shares' work' →
      (g.pairs ≡ []) ↔ TurnedDown members cores shares work r members' cores' shares' work'
  pub check : (g : Pairs) (h : Head) (ps : List Pair) (members shares work : List ℕ) (v : Verdict) (work' : List ℕ) →
      Lent g h ps → g.n ≤ length members → length g.pairs ≤ length shares → 16384 ≤ length work →
      CheckCall h ps members shares work v work' →
      (g.pairs ≡ []) ↔ ((v ≡ refused_by 20) × (work' ≡ cleared work))

-- a list gets its kit: no refusal; its member bytes in front, its P and Q; the work buffer is cleared
pub record KitServed (g : Pairs) (k : ℕ) (members work : List ℕ) (v : Verdict) (members' work' : List ℕ) : Type 0 where
  pub number : v.number ≡ 0
  pub members_are : members' ≡ in_front (kit g k) members
  pub promise : KitPromise g k (take g.n members') v.p v.q
  pub left : work' ≡ cleared work

-- KIT SERVES EVERY LIST WITH A PAIR that is lent with buffers of the stated sizes, at every k from 1 to N
unfoldable pub EveryListKitted : Type 0
EveryListKitted =
    (g : Pairs) (h : Head) (ps : List Pair) (k : ℕ) (members work : List ℕ) (v : Verdict) (members' work' : List ℕ) →
    Lent g h ps → 1 ≤ length g.pairs → 1 ≤ k → k ≤ g.n → g.n ≤ length members → 16384 ≤ length work →
    KitCall h ps k members work v members' work' → KitServed g k members work v members' work'

-- no kit is made: P and Q are 0, the member bytes as before, and the work buffer is cleared
pub record NoKit (number : ℕ) (members work : List ℕ) (v : Verdict) (members' work' : List ℕ) : Type 0 where
  pub answer : v ≡ refused_by number
  pub members_are : members' ≡ members
  pub left : work' ≡ cleared work

-- WHAT IS TURNED DOWN, of the lists that are lent with buffers of the stated sizes: those without pairs by 20, at any k; of the others k outside 1 to N by 21
unfoldable pub KitTurnedDown : Type 0
KitTurnedDown =
    (g : Pairs) (h : Head) (ps : List Pair) (k : ℕ) (members work : List ℕ) (v : Verdict) (members' work' : List ℕ) →
    Lent g h ps → g.n ≤ length members → 16384 ≤ length work → KitCall h ps k members work v members' work' →
    ((g.pairs ≡ []) ↔ NoKit 20 members work v members' work')
    × (((1 ≤ length g.pairs) × (bad_least g.n k ≡ true)) ↔ NoKit 21 members work v members' work')

-- ---- refusals

-- A REFUSED CALL CHANGES NO HEAD, LIST OR ANSWER BUFFER (start has none of them; place, peel, solve, check, kit, surplus and
-- write_dimacs only read head and list)
pub record RefusalsKeep : Type 0 where
  pub add : (h : Head) (ps : List Pair) (a b w : ℕ) (r : Changed) (ps' : List Pair) →
      AddSays h ps a b w r ps' → (r.number ≡ 0 → ⊥) → (r.head ≡ h) × (ps' ≡ ps)
  pub remove : (h : Head) (ps : List Pair) (a b : ℕ) (r : Changed) (ps' : List Pair) →
      RemoveSays h ps a b r ps' → (r.number ≡ 0 → ⊥) → (r.head ≡ h) × (ps' ≡ ps)
  -- read and read_dimacs
  pub read : (read : Reader) (bytes : List ℕ) (ps : List Pair) (work : List ℕ) (r : Changed) (ps' : List Pair) (work' : List ℕ) →
      ReadCall read bytes ps work r ps' work' → (r.number ≡ 0 → ⊥) → ps' ≡ ps
  pub peel : (h : Head) (ps : List Pair) (order cores work : List ℕ) (r : ℕ) (order' cores' work' : List ℕ) →
      PeelCall h ps order cores work r order' cores' work' → (r ≡ 0 → ⊥) → (order' ≡ order) × (cores' ≡ cores)
  pub solve : (h : Head) (ps : List Pair) (members cores shares work : List ℕ) (r : Solved) (members' cores' shares' work' : List ℕ) →
      SolveCall h ps members cores shares work r members' cores' shares' work' → (r.number ≡ 0 → ⊥) →
      (members' ≡ members) × (cores' ≡ cores) × (shares' ≡ shares)
  pub kit : (h : Head) (ps : List Pair) (k : ℕ) (members work : List ℕ) (v : Verdict) (members' work' : List ℕ) →
      KitCall h ps k members work v members' work' → (v.number ≡ 0 → ⊥) → members' ≡ members
  pub write_dimacs : (h : Head) (ps : List Pair) (text : List ℕ) (w : Written) (text' : List ℕ) →
      WriteCall h ps text w text' → (w.number ≡ 0 → ⊥) → text' ≡ text

-- the condition of 15 never holds
unfoldable pub UnsplitNever : Type 0
UnsplitNever = (g : Pairs) → is_list g ≡ true → Unsplit g → ⊥

-- 15 NEVER COMES
unfoldable pub FifteenNever : Type 0
FifteenNever =
    (h : Head) (ps : List Pair) (members cores shares work : List ℕ) (r : Solved) (members' cores' shares' work' : List ℕ) →
    SolveCall h ps members cores shares work r members' cores' shares' work' → r.number ≡ 15 → ⊥

-- ---- answers

-- an order and core numbers, the first N of each, are the leaving order and the core numbers of a list
pub record PeelingOf (g : Pairs) (order cores : List ℕ) : Type 0 where
  pub order_long : g.n ≤ length order
  pub cores_long : g.n ≤ length cores
  -- at each place stands the leaver among those whom the ones before it in this order have left behind
  pub leavers : (i : ℕ) → i < g.n → leaver g (left_behind order (everyone g) i) ≡ some (get_or order i 0)
  -- each module has its place
  pub places : (m : ℕ) → m < g.n → (i : ℕ) × (i < g.n) × (get_or order i 0 ≡ m)
  -- each core number is the largest k such that the module belongs to a group in which each member's pairs inside have at least k stops
  pub numbers : (m : ℕ) → m < g.n → LargestOrder g m (get_or cores m 0)

-- WHAT PEEL WRITES are the leavers and the core numbers of document 01
unfoldable pub PeelExact : Type 0
PeelExact =
    (h : Head) (ps : List Pair) (order cores work : List ℕ) (r : ℕ) (order' cores' work' : List ℕ) →
    PeelCall h ps order cores work r order' cores' work' → r ≡ 0 → PeelingOf (held_list h ps) order' cores'

-- a group than which none is denser, and a split at its size than which none has a lower greatest load over its share size
pub record BestOfAll (g : Pairs) (s xs : List ℕ) : Type 0 where
  pub group : is_group g s ≡ true
  pub split : is_split g (size s) xs ≡ true
  pub best : BothBest g s (size s) xs

-- CHECK ACCEPTS WHATEVER IS BEST OF A LIST WITH A PAIR, AND NOTHING ELSE
unfoldable pub CheckExact : Type 0
CheckExact =
    (g : Pairs) (h : Head) (ps : List Pair) (members shares work : List ℕ) (v : Verdict) (work' : List ℕ) →
    Lent g h ps → g.n ≤ length members → length g.pairs ≤ length shares → 16384 ≤ length work →
    CheckCall h ps members shares work v work' →
    (v.number ≡ 0) ↔ ((1 ≤ length g.pairs) × BestOfAll g (take g.n members) (take (length g.pairs) shares))

-- two buffers of shares that are the same for each pair with an end outside the core of order k, and past the first M
pub record SharesAlike (g : Pairs) (k : ℕ) (xs ys : List ℕ) : Type 0 where
  pub same_length : length xs ≡ length ys
  pub outside : (j : ℕ) → j < length g.pairs → pair_in_core g k (get_or g.pairs j (pair 0 0)) ≡ false → get_or xs j 0 ≡ get_or ys j 0
  pub past : drop (length g.pairs) xs ≡ drop (length g.pairs) ys

-- WHAT SOLVE ANSWERS AND LEAVES FOLLOWS FROM THE INPUT ALONE: free are only the shares of pairs inside the core of order K; beside a refusal none is
unfoldable pub SolveAlone : Type 0
SolveAlone =
    (h : Head) (ps : List Pair) (members cores shares work : List ℕ) (r s : Solved)
    (members' cores' shares' work' members'' cores'' shares'' work'' : List ℕ) →
    SolveCall h ps members cores shares work r members' cores' shares' work' → SolveCall h ps members cores shares work s members'' cores'' shares'' work'' →
    (r ≡ s) × (members' ≡ members'') × (cores' ≡ cores'') × (work' ≡ work'') × SharesAlike (held_list h ps) r.k shares' shares''
    × ((r.number ≡ 0 → ⊥) → shares' ≡ shares'')

-- WHAT SOLVE HANDS OUT CHECK ACCEPTS, with the same P and Q
unfoldable pub SolveAccepted : Type 0
SolveAccepted =
    (h : Head) (ps : List Pair) (members cores shares work : List ℕ) (r : Solved) (members' cores' shares' work' : List ℕ)
    (again : List ℕ) (v : Verdict) (again' : List ℕ) →
    SolveCall h ps members cores shares work r members' cores' shares' work' → r.number ≡ 0 →
    16384 ≤ length again → CheckCall h ps members' shares' again v again' →
    (v.number ≡ 0) × (v.p ≡ r.p) × (v.q ≡ r.q)

-- <, ≤ and = of two records' floats are those of the cross products
pub record CompareAlike (r s : Solved) : Type 0 where
  pub less : lt r.ratio s.ratio ≡ ltb (r.p * s.q) (s.p * r.q)
  pub at_most : le r.ratio s.ratio ≡ leb (r.p * s.q) (s.p * r.q)
  pub equal : eq r.ratio s.ratio ≡ eqb (r.p * s.q) (s.p * r.q)
  -- equal ratios give the same float, and one float comes of equal ratios only
  pub one_float : r.p * s.q ≡ s.p * r.q → r.ratio ≡ s.ratio
  pub one_ratio : r.ratio ≡ s.ratio → r.p * s.q ≡ s.p * r.q

-- TWO RECORDS' FLOATS ARE IN THE ORDER OF THEIR RATIOS, of one list or of two: whatever two calls return that refuse nothing
unfoldable pub RecordsInOrder : Type 0
RecordsInOrder =
    (h i : Head) (ps qs : List Pair) (ms cs xs ws ms' cs' xs' ws' ns ds ys vs ns' ds' ys' vs' : List ℕ) (r s : Solved) →
    SolveCall h ps ms cs xs ws r ms' cs' xs' ws' → SolveCall i qs ns ds ys vs s ns' ds' ys' vs' → r.number ≡ 0 → s.number ≡ 0 → CompareAlike r s
