-- What the functions' answers say, in the terms of the other definitions.
--   again                   the pair is named on an earlier line
--   PairLineRead            what pair_line promises
--   NewPlace                what new_place promises
--   NewPairRead             what new_pair promises
--   NewPut                  what put_new promises
--   SamePast                the words past the first pairs of a list are as they were
--   PairsRead               what read_pairs promises
--   pairs_of, pairs_used    the pairs of an outcome, and of how many the words may have been written
--   WordsRead, FileRead     what a reader of words promises, and what read_words does
--   EndsSmall               what write_pairs asks of the pairs in words
-- Assumes nothing: these are definitions.
use Rattle.std.specs.Prelude.{◌≡◌, List, [], ◌∷◌, ℕ, ◌+◌, ◌*◌, ◌≤◌, ◌<◌, Result, IfOk, OnOk, OnErr, length, get_or, drop}
use Rattle.theory.specs.Lists.{Pair, Pairs}
use Rattle.theory.specs.Refusals.{Cause, cause, refusal}
use Rattle.theory.specs.Words.{laid_pairs, laid_list}
use Rattle.refusals.specs.declared.Refusal.{Refusal}
use Rattle.refusals.specs.Numbers.{number_in}
use Rattle.records.specs.declared.Head.{Head}
use Rattle.pairs.specs.declared.Stops.{Stops}
use Rattle.pairs.specs.Held.{is_held, place_of}
use Rattle.pairs.specs.Counts.{counted}
use Rattle.pairs.specs.Shifts.{insert_at}
use Rattle.lines.specs.Outcomes.{Outcome, refused, taken, ◌>>=◌, ◌>>◌, judge, outcome_of}
use Rattle.pairfile.specs.File.{pair_line, read_pairs, read_file}

-- 10: the pair is named on an earlier line, in either order
abbrev pub again : (p : Pair) → (held : List Pair) → List Cause
again p held = cause 10 (is_held p held) ∷ []

-- PAIR_LINE: the pair that the line in front names, and the bytes after it; whatever pairs are held, it remains to refuse one of them
pub record PairLineRead (bytes : List ℕ) (n : ℕ) (r : Result Stops Refusal) (left : List ℕ) : Type 0 where
  pub found : (held : List Pair) → pair_line n held bytes ≡ (do
    l ← outcome_of (λ s. record { pair = counted s; rest = left }) r
    judge (again l.pair held)
    taken l)

-- 10, or the place of the pair among those held
pub record NewPlace (held : List Pair) (stops : Stops) (r : Result ℕ Refusal) : Type 0 where
  pub judged : number_in r ≡ refusal (again (counted stops) held)
  pub place : IfOk r (λ i. i ≡ place_of (counted stops) held)

-- NEW_PAIR: the pair line in front, some pairs being held: the pair that it names, its place among them, and the bytes after it
pub record NewPairRead (bytes : List ℕ) (n : ℕ) (held : List Pair) (r : Result (Stops × ℕ) Refusal) (left : List ℕ) : Type 0 where
  pub found : pair_line n held bytes ≡ outcome_of (λ p. record { pair = counted p.0; rest = left }) r
  pub place : IfOk r (λ p. p.1 ≡ place_of (counted p.0) held)

-- PUT_NEW: 10, or the pair is put in at its place among the m held
pub record NewPut (m : ℕ) (stops : Stops) (words words' : List ℕ) (r : Result (Unit {0}) Refusal) : Type 0 where
  pub judged : number_in r ≡ refusal (again (counted stops) (laid_pairs m words))
  pub put : OnOk r (words' ≡ insert_at m (place_of (counted stops) (laid_pairs m words)) (counted stops) words)
  pub kept : OnErr r (words' ≡ words)

-- past the first m pairs the words are as they were: those between the ends and the counts, and those from the counts on
pub record SamePast (m : ℕ) (words words' : List ℕ) : Type 0 where
  pub between : (t : ℕ) → 2 * m ≤ t → t < 8192 → get_or words' t 0 ≡ get_or words t 0
  pub beyond : drop (8192 + m) words' ≡ drop (8192 + m) words

-- READ_PAIRS: the m pair lines in front, and the end of the file. After a refusal the words of the first m pairs are free
pub record PairsRead (bytes : List ℕ) (n m : ℕ) (words words' : List ℕ) (r : Result (Unit {0}) Refusal) : Type 0 where
  pub found : read_pairs n m [] bytes ≡ outcome_of (λ u. laid_pairs m words') r
  pub past : SamePast m words words'

-- the pairs of the list that is taken
unfoldable pub pairs_of : Outcome Pairs → List Pair
pairs_of (refused k) = []
pairs_of (taken g) = g.pairs

-- of how many pairs the words may have been written
unfoldable pub pairs_used : Outcome Pairs → ℕ
pairs_used (refused k) = 4096
pairs_used (taken g) = length g.pairs

-- the refusal, or N, M and every pair of an outcome in the words; the words past those used are as they were. After a refusal the words used are free
pub record WordsRead (due : Outcome Pairs) (words words' : List ℕ) (r : Result Head Refusal) : Type 0 where
  pub found : due ≡ outcome_of (λ head. laid_list head.n head.m words') r
  pub past : SamePast (pairs_used due) words words'

-- READ_WORDS: those of a pair file
abbrev pub FileRead : (room : ℕ) → (bytes words words' : List ℕ) → Result Head Refusal → Type 0
FileRead room bytes words words' r = WordsRead (read_file room bytes) words words' r

-- both modules of each of the first m pairs are below 512
pub record EndsSmall (m : ℕ) (words : List ℕ) : Type 0 where
  pub each : (j : ℕ) → j < m → (get_or words (2 * j) 0 < 512) × (get_or words (2 * j + 1) 0 < 512)
