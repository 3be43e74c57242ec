-- What the program `neighbours` prints (document 02, item 3): where the pair of two modules stands in a list or would stand, and the records next to it.
--   record_before, predecessor, successor       the records next to a place
--   place_form, before_form, after_form         the forms of the lines
--   record_line, place_text                     a record's line, if there is a record; all lines of a place
--   pair_placed, arguments_placed, file_placed  the text of two module numbers, of two arguments, and of these and a file, or the refusal number
--   list_printed, neighbours_printed            what `neighbours` prints
--   NeighboursRead                             what is right of whatever pair file was read
--   stands_after, Nearest, Shown                the records nearest to a pair, and a text that shows them and the pair's place
--   NeighboursNearest, NeighboursRound        the text shows the nearest records; the modules may be named in either order
--   NeighboursPlaced                           number, held and place are what the call place answers
-- proofs/Nearest.antt has a theorem for each promise, of the same name in small letters. Assumes nothing: these are definitions.
use Rattle.std.specs.Prelude.{◌≡◌, Bool, true, false, ◌&&◌, List, [], ◌∷◌, ◌++◌, ℕ, zero, suc, ◌+◌, ◌≤◌, ◌<◌, length, get_or, Option, Some, None}
use Rattle.std.specs.List.{slice_get}
use Rattle.theory.specs.Basics.{mark}
use Rattle.theory.specs.Lists.{Pair, Pairs, stands_before}
use Rattle.theory.specs.Refusals.{refusal}
use Rattle.pairs.specs.Held.{is_held, smaller_first_pair}
use Rattle.pairs.specs.Causes.{pair_causes}
use Rattle.pairs.specs.Located.{Place, located}
use Rattle.lines.specs.Text.{text}
use Rattle.lines.specs.Lines.{filled}
use Rattle.lines.specs.Outcomes.{Outcome, taken, ◌>>=◌, ◌>>◌, judge}
use Rattle.pairfile.specs.File.{read_file}
use Rattle.records.specs.declared.Pair.{Pair as Record}
use Rattle.records.specs.declared.Head.{Head}
use Rattle.on_words.specs.declared.Placed.{Placed}
use Rattle.kandurzo.specs.Placing.{PlaceSays}
use Rattle.kandurzo.specs.Promise.{Lent}
use Rattle.texts.specs.Texts.{refusal_text, printed}
use Rattle.texts.specs.Printed.{ReadOf}
use Rattle.texts.specs.Arguments.{argument_number, number_due}

-- ---- a pair's place, and the records next to it

-- the record at the place before i, and none before the first
unfoldable pub record_before : (i : ℕ) → List Pair → Option Pair
record_before zero ps = None
record_before (suc i) ps = slice_get ps i

-- the record before a pair: at the place before the pair's, if there is one
unfoldable pub predecessor : Place → List Pair → Option Pair
predecessor l ps = record_before l.at ps

-- the record after it: at the pair's own place where the pair is not held, and at the next where it is, if there is one
unfoldable pub successor : Place → List Pair → Option Pair
successor l ps = slice_get ps (l.at + mark l.held)

-- ---- the text

-- whether the pair is held, and its place
unfoldable pub place_form : List ℕ
place_form = text "status=0\nheld=H\nplace=I\n"

-- the record before it
unfoldable pub before_form : List ℕ
before_form = text "before=A,B\n"

-- and the one after it
unfoldable pub after_form : List ℕ
after_form = text "after=A,B\n"

-- a record's line, if there is a record
unfoldable pub record_line : (form : List ℕ) → Option Pair → List ℕ
record_line form None = []
record_line form (Some r) = filled form (r.a ∷ r.b ∷ [])

-- THE TEXT OF A PLACE: status 0; held or not, 1 or 0; the place, counted from 0; the records next to it
unfoldable pub place_text : Place → List Pair → List ℕ
place_text l ps =
    filled place_form (mark l.held ∷ l.at ∷ []) ++ (record_line before_form (predecessor l ps) ++ record_line after_form (successor l ps))

-- of two module numbers, in either order: 5, 4, then the text of their pair's place
unfoldable pub pair_placed : Pairs → (a b : ℕ) → Outcome (List ℕ)
pair_placed g a b = do
  judge (pair_causes 0 g.n a b)
  taken (place_text (located (smaller_first_pair a b) g.pairs) g.pairs)

-- of two arguments: 110, then what their numbers give
unfoldable pub arguments_placed : Pairs → (first second : List ℕ) → Outcome (List ℕ)
arguments_placed g first second = do
  a ← number_due (argument_number first)
  b ← number_due (argument_number second)
  pair_placed g a b

-- what is printed of a list and two arguments
unfoldable pub list_printed : (first second : List ℕ) → Pairs → List ℕ
list_printed first second g = printed (arguments_placed g first second)

-- of a pair file and two arguments: the file is judged first, then the arguments
unfoldable pub file_placed : (file first second : List ℕ) → Outcome (List ℕ)
file_placed file first second = do
  g ← read_file 4096 file
  arguments_placed g first second

-- WHAT `neighbours` PRINTS of a pair file and two arguments
unfoldable pub neighbours_printed : (file first second : List ℕ) → List ℕ
neighbours_printed file first second = printed (file_placed file first second)

-- WHATEVER PAIR FILE WAS READ, the text of `neighbours` is that of the whole file
pub record NeighboursRead (bytes first second text : List ℕ) : Type 0 where
  pub due : (file : List ℕ) → ReadOf 65536 bytes file → text ≡ neighbours_printed file first second

-- ---- the promises

-- p stands after r
unfoldable pub stands_after : (p r : Pair) → Bool
stands_after p r = stands_before r p

-- the held record nearest to p on one side (by stands_before the predecessor, by stands_after the successor): it is held and stands on that side, and no
-- held record stands between it and p; none where no held record stands on that side
unfoldable pub Nearest : (side : Pair → Pair → Bool) → Pair → List Pair → Option Pair → Type 0
Nearest side p ps None = (r : Pair) → is_held r ps ≡ true → side r p ≡ false
Nearest side p ps (Some q) = (is_held q ps ≡ true) × (side q p ≡ true) × ((r : Pair) → is_held r ps ≡ true → (side q r && side r p) ≡ false)

-- a text shows p among the records ps: whether it is held, its place, and the records nearest to it
pub record Shown (p : Pair) (ps : List Pair) (text : List ℕ) : Type 0 where
  pub place : ℕ
  pub before : Option Pair
  pub after : Option Pair
  pub is : text ≡ filled place_form (mark (is_held p ps) ∷ place ∷ []) ++ (record_line before_form before ++ record_line after_form after)
  -- counted from 0 among the records: all before it are smaller than p,
  pub among : place ≤ length ps
  pub smaller : (i : ℕ) → i < place → stands_before (get_or ps i p) p ≡ true
  -- and none from there on is
  pub none_smaller : (i : ℕ) → place ≤ i → i < length ps → stands_before (get_or ps i p) p ≡ false
  -- the records shown are the nearest
  pub before_nearest : Nearest stands_before p ps before
  pub after_nearest : Nearest stands_after p ps after

-- THE TEXT SHOWS THE PAIR'S PLACE AND THE RECORDS NEAREST TO IT, wherever neither the file nor an argument is refused
unfoldable pub NeighboursNearest : Type 0
NeighboursNearest =
    (file first second : List ℕ) (g : Pairs) (a b : ℕ) → read_file 4096 file ≡ taken g →
    argument_number first ≡ Some a → argument_number second ≡ Some b → refusal (pair_causes 0 g.n a b) ≡ 0 →
    Shown (smaller_first_pair a b) g.pairs (neighbours_printed file first second)

-- WHAT `neighbours` PRINTS IS WHAT PLACE ANSWERS of that list where it is lent: the number alone, or else held and the place
unfoldable pub NeighboursPlaced : Type 0
NeighboursPlaced =
    (file first second : List ℕ) (g : Pairs) (a b : ℕ) (h : Head) (ps : List Record) (r : Placed) → read_file 4096 file ≡ taken g →
    argument_number first ≡ Some a → argument_number second ≡ Some b → Lent g h ps → PlaceSays h ps a b r →
    ((r.number ≡ 0 → ⊥) → neighbours_printed file first second ≡ refusal_text r.number)
    × (r.number ≡ 0 → (rest : List ℕ) × (neighbours_printed file first second ≡ filled place_form (r.held ∷ r.at ∷ []) ++ rest))

-- THE MODULES MAY BE NAMED IN EITHER ORDER
unfoldable pub NeighboursRound : Type 0
NeighboursRound = (file first second : List ℕ) → neighbours_printed file first second ≡ neighbours_printed file second first
