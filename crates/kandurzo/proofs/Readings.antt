-- From the words to the lent records: what read and read_dimacs make of a file on words is what they make of it as records.
--   outcome_taken, outcome_zero  what is taken; number 0: a list is
--   read_short, read_refused     the call's promise, where 12 refuses and where the file does
--   read_back, read_done         what the way back asks, and the call's promise where a file is taken
--   read_held, read_agrees       after a taken file the list holds what the file names: 13 never follows
-- Assumes nothing.
use mathlib.Core.Path.{◌≡◌, refl, sym, ap, ◌∙◌}
use mathlib.Core.Bool.{Bool, true, false, cond}
use mathlib.Core.List.{List, ◌++◌}
use Prim.Native.Nat.{ℕ, ◌≤◌}
use native.Mathlib.Omega.{arith}
use lib.ListN.{length, take, drop}
use lib.Seq.{length-take-le}
use Rattle.std.proofs.Common.{Ok, Err}
use Rattle.theory.specs.Lists.{Pairs}
use Rattle.theory.specs.Words.{laid_pairs, laid_list}
use Rattle.theory.proofs.Words.{length_laid, holds_few}
use Rattle.refusals.specs.declared.Refusal.{Refusal}
use Rattle.refusals.specs.declared.Refusal.TheVariants.{BufferTooShort}
use Rattle.refusals.specs.Numbers.{number_of}
use Rattle.lines.specs.Outcomes.{Outcome, refused, taken, outcome_of, number_given}
use Rattle.lines.proofs.Taken.{refused_not_taken}
use Rattle.pairfile.specs.Answers.{pairs_of}
use Rattle.records.specs.declared.Pair.{Pair}
use Rattle.records.specs.declared.Head.{Head}
use Rattle.records.specs.Records.{held_list, agrees, records_in, put_back, RoomBack}
use Rattle.records.proofs.Copies.{put_back_part}
use Rattle.kandurzo.specs.declared.Changed.{Changed}
use Rattle.kandurzo.specs.Listing.{as_records, changed_of}
use Rattle.on_words.specs.Buffers.{any_short, cleared, work_left}
use Rattle.on_words.specs.Edits.{head_of}
use Rattle.on_words.specs.Reading.{Reader, read_buffers, read_outcome, read_head, ReadOn, ReadLent}
use Rattle.kandurzo.specs.Reading.{records_front, ReadCall}
use Rattle.on_words.proofs.Readings.{Reads, outcome_long, lent_short}
use Rattle.on_words.proofs.Enough.{read_enough}
use Rattle.on_words.proofs.Filling.{work_zeros, left_open}
use Rattle.on_words.proofs.Fits.{list_fits}
use Rattle.kandurzo.proofs.Calls.{laid_records}
use Rattle.kandurzo.proofs.Taken.{held_front, agrees_front}

-- what is taken: the work buffer is long enough, and the file is taken
pub outcome_taken : (read : Reader) (room w : ℕ) (bytes : List ℕ) (g : Pairs) → read_outcome read room w bytes ≡ taken g →
    (16384 ≤ w) × (read room bytes ≡ taken g)
unfolding read_outcome
outcome_taken read room w bytes g = go (any_short (read_buffers w)) refl
  where
    go : (t : Bool) → any_short (read_buffers w) ≡ t → cond t (refused 12) (read room bytes) ≡ taken g → (16384 ≤ w) × (read room bytes ≡ taken g)
    go true z e = absurd (refused_not_taken e)
    go false z e = (read_enough w refl z, e)

module _ {read : Reader} (reads : Reads read) where
  -- number 0: a list is taken
  pub outcome_zero : (room w : ℕ) (bytes : List ℕ) → number_given (read_outcome read room w bytes) ≡ 0 →
      (g : Pairs) × (read_outcome read room w bytes ≡ taken g)
  unfolding read_outcome number_given
  outcome_zero room w bytes = go (any_short (read_buffers w)) (read room bytes) refl
    where
      go : (t : Bool) (o : Outcome Pairs) → read room bytes ≡ o → number_given (cond t (refused 12) o) ≡ 0 →
          (g : Pairs) × (cond t (refused 12) o ≡ taken g)
      go true o e z = absurd (omega (arith, z))
      go false (refused k) e z = absurd (omega (arith, (reads.numbers room bytes k e).0, z))
      go false (taken g) e z = (g, refl)

-- ---- the call

-- the head that a refused file gives
abbrev none_read : Head
none_read = record { n = 0; m = 0 }

module _ (read : Reader) (bytes : List ℕ) (ps : List Pair) (work : List ℕ) where
  abbrev due : Outcome Pairs
  due = read_outcome read (length ps) (length work) bytes

  -- what follows of the outcome
  read_says : (o : Outcome Pairs) → due ≡ o → {r : Changed} {ps' : List Pair} {work' : List ℕ} → r.number ≡ number_given o → r.head ≡ read_head o →
      ps' ≡ records_front (pairs_of o) ps → work' ≡ work_left r.number work → ReadCall read bytes ps work r ps' work'
  read_says o e number head records left =
      record {
        number = number ∙ ap (number_given {A = Pairs}) (sym e);
        head = head ∙ ap read_head (sym e);
        records = records ∙ ap (λ (x : Outcome Pairs). records_front (pairs_of x) ps) (sym e);
        left = left;
      }

  -- 12
  pub read_short : {after : List ℕ} → ReadLent read (length ps) bytes work after (Err BufferTooShort) →
      ReadCall read bytes ps work (changed_of (Err BufferTooShort) none_read) ps after
  unfolding number_given read_head head_of pairs_of records_front as_records work_left
  read_short on = let s = lent_short _ _ _ _ _ on in read_says (refused 12) s.0 refl refl refl s.1

  module _ (long : 16384 ≤ length work) {after : List ℕ} where
    -- the file's own
    pub read_refused : (e : Refusal) → ReadOn read (length ps) bytes work after (Err e) →
        ReadCall read bytes ps work (changed_of (Err e) none_read) ps (cleared after)
    unfolding outcome_of number_given read_head head_of pairs_of records_front as_records
    read_refused e on =
        read_says (refused (number_of e)) (outcome_long read (length ps) (length work) bytes long ∙ on.found) refl refl refl
        (on.past ∙ sym (work_zeros (number_of e) work on.own.0 on.own.1))

    module _ {head : Head} (on : ReadOn read (length ps) bytes work after (Ok head)) where
      pub read_back : 16384 ≤ length after → RoomBack (take head.m ps) after
      unfolding laid_list
      read_back room =
          let part : length (take head.m ps) ≡ head.m = length-take-le head.m ps on.fits in
          record {
            room = record { few = omega (arith, part, holds_few head.n head.m after on.holds.listed); long = λ _. omega (arith, room) };
            fits = rw part (list_fits (laid_list head.n head.m after) head.m after on.holds.listed refl);
          }

      -- none
      pub read_done : ReadCall read bytes ps work (changed_of (Ok head) none_read) (records_in (length (take head.m ps)) after ++ drop head.m ps)
          (cleared after)
      unfolding outcome_of number_given read_head head_of pairs_of records_front put_back laid_list
      read_done =
          let count : length (laid_pairs head.m after) ≡ head.m = length_laid head.m after in
          read_says (taken (laid_list head.n head.m after)) (outcome_long read (length ps) (length work) bytes long ∙ on.found) refl
          (λ i. record { n = head.n; m = sym count i })
          (put_back_part ps after head.m on.fits ∙ rw (count, laid_records head.m after))
          (on.past ∙ sym (left_open work refl))

-- ---- afterwards

module _ {read : Reader} (reads : Reads read) where
  -- AFTER A TAKEN FILE the list holds exactly what the file names
  module _ (bytes : List ℕ) (ps : List Pair) (w : ℕ) (g : Pairs) (e : read_outcome read (length ps) w bytes ≡ taken g) where
    pub read_held : held_list (read_head (taken g)) (records_front (pairs_of (taken g)) ps) ≡ g
    unfolding read_head pairs_of records_front
    read_held = held_front g.n (length g.pairs) g.pairs (drop (length g.pairs) ps) refl

    -- 13 never follows a taken file
    pub read_agrees : agrees (read_head (taken g)) (records_front (pairs_of (taken g)) ps) ≡ true
    unfolding read_head pairs_of records_front
    read_agrees =
        agrees_front g.n (length g.pairs) g.pairs (drop (length g.pairs) ps) refl
        (reads.list (length ps) bytes g (outcome_taken read (length ps) w bytes g e).1)
