-- What holds after read or read_dimacs has taken a file: head and list agree, and the list holds exactly the pairs that the file names.
--   read_agrees_after     13 never follows
--   read_holds, read_taken    the file says what is held, records past it stay; a file that says a list is taken
--   taken_holds           and what holds of its pairs holds of those held then
--   read_exact, read_dimacs_exact         the bytes are the file of the list that is held
--   every_file_read, every_dimacs_read    every file of different pairs is taken
-- Assumes nothing.
use mathlib.Core.Path.{◌≡◌, sym, ap, ◌∙◌}
use mathlib.Core.Bool.{true}
use mathlib.Core.List.{List}
use Prim.Native.Nat.{ℕ, ◌≤◌}
use lib.ListN.{length, drop}
use lib.Seq.{drop_at}
use Rattle.theory.specs.Lists as Lists
use Rattle.theory.specs.Lists.{Pairs}
use Rattle.pairs.proofs.Keeps.{counts_once}
use Rattle.lines.specs.Outcomes.{Outcome, taken, number_given}
use Rattle.pairfile.specs.Promise.{Names, NamesStops, all_once}
use Rattle.pairfile.specs.Answers.{pairs_of}
use Rattle.pairfile.proofs.Accepts as File
use Rattle.pairfile.proofs.ReadsEvery.{gathered, gathered_read, gathered_ones}
use Rattle.dimacs.proofs.Accepts as Dimacs
use Rattle.dimacs.proofs.ReadsBack.{gathered_back}
use Rattle.records.specs.declared.Pair.{Pair}
use Rattle.records.specs.Records.{held_list, agrees}
use Rattle.kandurzo.specs.declared.Changed.{Changed}
use Rattle.on_words.specs.Edits.{head_of}
use Rattle.kandurzo.specs.Listing.{as_records}
use Rattle.on_words.specs.Reading.{Reader, read_outcome, read_head}
use Rattle.kandurzo.specs.Reading.{records_front, ReadCall}
use Rattle.kandurzo.specs.Keeping.{EveryFileRead, ReadExact}
use Rattle.kandurzo.specs.Exchange.{EveryDimacsRead, ReadDimacsExact}
use Rattle.kandurzo.proofs.Taken.{length_as_records}
use Rattle.on_words.proofs.Readings.{Reads, reads_file, reads_dimacs, outcome_long}
use Rattle.kandurzo.proofs.Readings.{outcome_taken, outcome_zero, read_held, read_agrees}

-- a reader
module _ {read : Reader} (reads : Reads read) {bytes : List ℕ} {ps : List Pair} {work : List ℕ} {r : Changed} {ps' : List Pair} {work' : List ℕ}
    (call : ReadCall read bytes ps work r ps' work') where
  -- where the list g is taken
  module _ (g : Pairs) (due : read_outcome read (length ps) (length work) bytes ≡ taken g) where
    number_is : r.number ≡ 0
    unfolding number_given
    number_is = call.number ∙ ap (number_given {A = Pairs}) due

    head_is : r.head ≡ head_of g.n (length g.pairs)
    unfolding read_head
    head_is = call.head ∙ ap read_head due

    records_are : ps' ≡ records_front g.pairs ps
    unfolding pairs_of
    records_are = call.records ∙ ap (λ (o : Outcome Pairs). records_front (pairs_of o) ps) due

    held_is : held_list r.head ps' ≡ g
    unfolding read_head pairs_of
    held_is = rw (head_is, records_are) (read_held reads bytes ps (length work) g due)

    list_agrees : agrees r.head ps' ≡ true
    unfolding read_head pairs_of
    list_agrees = rw (head_is, records_are) (read_agrees reads bytes ps (length work) g due)

    past_stays : drop r.head.m ps' ≡ drop r.head.m ps
    unfolding head_of records_front
    past_stays =
        let m = length g.pairs in
        rw (head_is, records_are) (drop_at (as_records g.pairs) (drop m ps) m (length_as_records g.pairs))

    -- the file says what is held
    pub file_held : read (length ps) bytes ≡ taken (held_list r.head ps')
    file_held = (outcome_taken read (length ps) (length work) bytes g due).1 ∙ ap taken (sym held_is)

    -- number and head, and what is held
    pub taken_so : (r.number ≡ 0) × (r.head ≡ head_of g.n (length g.pairs)) × (held_list r.head ps' ≡ g) × (agrees r.head ps' ≡ true)
    taken_so = (number_is, head_is, held_is, list_agrees)

  -- number 0: a list is taken
  list_taken : r.number ≡ 0 → (g : Pairs) × (read_outcome read (length ps) (length work) bytes ≡ taken g)
  list_taken z = outcome_zero reads (length ps) (length work) bytes (sym call.number ∙ z)

  -- 13 never follows a taken file: head and list agree then
  pub read_agrees_after : r.number ≡ 0 → agrees r.head ps' ≡ true
  read_agrees_after z = let t = list_taken z in list_agrees t.0 t.1

  -- the file says what is held, and records past it stay
  pub read_holds : r.number ≡ 0 → (read (length ps) bytes ≡ taken (held_list r.head ps')) × (drop r.head.m ps' ≡ drop r.head.m ps)
  read_holds z = let t = list_taken z in (file_held t.0 t.1, past_stays t.0 t.1)

  -- a file that says a list is taken, where the work buffer is long enough
  pub read_taken : (g : Pairs) → 16384 ≤ length work → read (length ps) bytes ≡ taken g →
      (r.number ≡ 0) × (r.head ≡ head_of g.n (length g.pairs)) × (held_list r.head ps' ≡ g) × (agrees r.head ps' ≡ true)
  read_taken g long due = taken_so g (outcome_long read (length ps) (length work) bytes long ∙ due)

  -- and what holds of its pairs holds of those held then
  taken_holds : (P : List Lists.Pair → Type 0) (n m : ℕ) (pairs : List Lists.Pair) → length pairs ≡ m → P pairs → 16384 ≤ length work →
      read (length ps) bytes ≡ taken (record { n = n; pairs = pairs }) →
      (r.number ≡ 0) × (r.head ≡ head_of n m) × P (held_list r.head ps').pairs
  taken_holds P n m pairs size holds long due =
      let s = read_taken (record { n = n; pairs = pairs }) long due in
      (s.0, s.1 ∙ ap (head_of n) size, rw s.2 holds)

-- the pairs held after a file is taken are exactly those that it names
pub read_exact : ReadExact
unfolding ReadExact
read_exact bytes ps work r ps' work' call z =
    let t = read_holds reads_file call z in
    (File.accepted (length ps) bytes (held_list r.head ps') t.0, t.1)

pub read_dimacs_exact : ReadDimacsExact
unfolding ReadDimacsExact
read_dimacs_exact bytes ps work r ps' work' call z =
    let t = read_holds reads_dimacs call z in
    (Dimacs.accepted (length ps) bytes (held_list r.head ps') t.0, t.1)

-- every file of different pairs is taken, in whatever order they come and whichever module stands first on a line
pub every_file_read : EveryFileRead
unfolding EveryFileRead
every_file_read n lines ps work r ps' work' low high short fits long named once call =
    let t = gathered n lines named once in
    taken_holds reads_file call (NamesStops lines) n (length lines) t.pairs t.size t.named long
    (gathered_read (length ps) n lines t low high short fits)

pub every_dimacs_read : EveryDimacsRead
unfolding EveryDimacsRead all_once counts_once
every_dimacs_read n lines ps work r ps' work' low high short fits long two once call =
    let t = gathered_ones n lines two once in
    let s = taken_holds reads_dimacs call (λ qs. Names lines qs × (all_once qs ≡ true)) n (length lines) t.pairs t.size (t.named, t.kept.once) long
    (gathered_back (length ps) n lines t low high short fits) in
    (s.0, s.1, s.2.0, s.2.1)
