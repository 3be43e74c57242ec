-- Document 01, "The list and its calls": the pair list is lent as records of two module numbers; a head holds N and M. Document 02, item 4: each pair
-- carries a stop count W in its record.
--   as_pair, as_pairs       the pairs that records stand for
--   held_list               the list that a head and the lent records hold
--   agrees                  head and list agree: number 13 is given where they do not
--   blank                   the record 0,0,0
--   ends_of, weights_of     the module numbers of records as words, and their counts
--   copied_record, copied_out     a buffer of words after one record, and after some records, were copied to it
--   word_record, records_in records read from words
--   put_back                a list after its first records were copied back to it
--   RoomAt, FitsAt        words have a place for a record, and what lies there fits one; FitsRecords: so at the first places
--   RoomOut, RoomBack     what the copies ask
-- Assumes nothing: these are definitions.
use Rattle.std.specs.Prelude.{Bool, ◌&&◌, List, [], ◌∷◌, ◌++◌, map, ℕ, ◌+◌, ◌*◌, ◌≤◌, ◌<◌, leb, length, get_or, set, take, drop}
use Rattle.theory.specs.Basics.{table}
use Rattle.theory.specs.Lists as Lists
use Rattle.theory.specs.Lists.{Pairs, is_list}
use Rattle.theory.specs.Words.{put_at}
use Rattle.records.specs.declared.Pair.{Pair}
use Rattle.records.specs.declared.Head.{Head}

-- the pair that a record stands for: it counts as often as its stop count says
unfoldable pub as_pair : Pair → Lists.Pair
as_pair p = record { a = p.a; b = p.b; w = p.w }

-- the pairs that some records stand for
unfoldable pub as_pairs : List Pair → List Lists.Pair
as_pairs ps = map as_pair ps

-- the first M records are held (a graph and its edge list)
unfoldable pub held_list : Head → List Pair → Pairs
held_list h ps = record { n = h.n; pairs = as_pairs (take h.m ps) }

-- N is 1 to 512, M at most 4,096 and at most the list's length, and the first M records are as described
unfoldable pub agrees : Head → List Pair → Bool
agrees h ps = leb h.m (length ps) && is_list (held_list h ps)

-- the record 0,0,0: what a freed record becomes
abbrev pub blank : Pair
blank = record { a = 0; b = 0; w = 0 }

-- the module numbers of records as words: those of record j lie at 2j and 2j + 1
unfoldable pub ends_of : List Pair → List ℕ
ends_of [] = []
ends_of (p ∷ ps) = p.a ∷ p.b ∷ ends_of ps

-- their stop counts
unfoldable pub weights_of : List Pair → List ℕ
weights_of ps = map (λ p. p.w) ps

-- the words after record p was copied to place i
unfoldable pub copied_record : List ℕ → ℕ → Pair → List ℕ
copied_record ws i p = set (set (set ws (2 * i) p.a) (2 * i + 1) p.b) (8192 + i) p.w

-- the words after some records were copied to them: the module numbers from word 0 on, the counts from word 8,192 on
unfoldable pub copied_out : List Pair → List ℕ → List ℕ
copied_out ps ws = put_at 8192 (weights_of ps) (put_at 0 (ends_of ps) ws)

-- the record that lies in words at place j
abbrev pub word_record : List ℕ → ℕ → Pair
word_record ws j = record { a = get_or ws (2 * j) 0; b = get_or ws (2 * j + 1) 0; w = get_or ws (8192 + j) 0 }

-- the first m of them
unfoldable pub records_in : ℕ → List ℕ → List Pair
records_in m ws = table m (word_record ws)

-- a list after its first m records were copied back to it
unfoldable pub put_back : List Pair → List ℕ → ℕ → List Pair
put_back ps ws m = records_in m ws ++ drop m ps

-- the words have a place i
pub record RoomAt (i : ℕ) (words : List ℕ) : Type 0 where
  pub few : i < 4096
  pub long : 12288 ≤ length words

-- what lies at place i fits the 16 bits of a record's numbers
abbrev pub FitsAt : ℕ → List ℕ → Type 0
FitsAt i ws = (get_or ws (2 * i) 0 < 65536) × (get_or ws (2 * i + 1) 0 < 65536) × (get_or ws (8192 + i) 0 < 65536)

-- the words have places for some records; where there are none any words do
pub record RoomOut (records : List Pair) (words : List ℕ) : Type 0 where
  pub few : length records ≤ 4096
  pub long : 0 < length records → 12288 ≤ length words

-- what lies at the first m places fits
unfoldable pub FitsRecords : ℕ → List ℕ → Type 0
FitsRecords m ws = (j : ℕ) → j < m → FitsAt j ws

-- the words have places for as many records as there are, and what lies there fits
pub record RoomBack (records : List Pair) (words : List ℕ) : Type 0 where
  pub room : RoomOut records words
  pub fits : FitsRecords (length records) words
