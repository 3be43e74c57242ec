-- Read and read_dimacs on words: from the bytes to words.
--   Reads, reads_file, reads_dimacs    what is asked of a reader
--   read_on                      what is answered
--   outcome_long                 where the work buffer is long enough the outcome is what the file says
--   lent_short                   with a work buffer of any length, where 12 is answered
-- Assumes nothing.
use mathlib.Core.Path.{◌≡◌, refl}
use mathlib.Core.Bool.{true}
use mathlib.Core.List.{List}
use Prim.Native.Nat.{ℕ, ◌≤◌}
use native.Mathlib.Omega.{arith}
use lib.Dec.{ltb}
use lib.ListN.{length}
use borrow.Author.Tests.{ltb-true, ltb-false, le-ltb}
use Rattle.std.proofs.Common.{Result, Ok, Err}
use Rattle.std.specs.Prelude.{IfOk}
use Rattle.theory.specs.Lists.{Pairs, is_list}
use Rattle.theory.specs.Words.{laid_list, HoldsList}
use Rattle.theory.proofs.Tests.{by_test}
use Rattle.theory.proofs.Words.{length_laid}
use Rattle.refusals.specs.declared.Refusal.{Refusal}
use Rattle.refusals.specs.declared.Refusal.TheVariants.{BufferTooShort}
use Rattle.refusals.specs.Numbers.{number_of}
use Rattle.lines.specs.Outcomes.{refused, taken, outcome_of}
use Rattle.pairfile.specs.File.{read_file}
use Rattle.pairfile.specs.Answers.{WordsRead}
use Rattle.pairfile.proofs.Accepts as File
use Rattle.pairfile.proofs.Readings.{file_numbers, Sound, reading_past}
use Rattle.dimacs.specs.Edges.{read_dimacs}
use Rattle.dimacs.proofs.Given.{dimacs_given, number_range}
use Rattle.dimacs.proofs.Accepts as Dimacs
use Rattle.records.specs.declared.Head.{Head}
use Rattle.on_words.specs.Buffers.{any_short}
use Rattle.on_words.specs.Reading.{Reader, read_outcome, ReadOn, ReadLent}
use Rattle.on_words.proofs.Filling.{cleared_past}

-- ---- a reader

-- what is asked of one: what it takes is a list that fits, and no file is refused by 0, 12 or 13
pub record Reads (read : Reader) : Type 0 where
  pub list : (room : ℕ) (bytes : List ℕ) (g : Pairs) → read room bytes ≡ taken g → is_list g ≡ true
  pub fits : (room : ℕ) (bytes : List ℕ) (g : Pairs) → read room bytes ≡ taken g → length g.pairs ≤ room
  -- 12 is the work buffer's length alone, and 13 is of head and list
  pub numbers : (room : ℕ) (bytes : List ℕ) (k : ℕ) → read room bytes ≡ refused k → (1 ≤ k) × (k ≡ 12 → ⊥) × (k ≡ 13 → ⊥)

pub reads_file : Reads read_file
reads_file = record {
  list = λ room bytes g e. (File.accepted room bytes g e).list;
  fits = λ room bytes g e. (File.accepted room bytes g e).fits;
  numbers = file_numbers;
}

pub reads_dimacs : Reads read_dimacs
reads_dimacs = record {
  list = λ room bytes g e. (Dimacs.accepted room bytes g e).list;
  fits = λ room bytes g e. (Dimacs.accepted room bytes g e).fits;
  numbers = λ room bytes k e. number_range k ((dimacs_given room bytes).by k e);
}

-- ---- what is answered

module _ {read : Reader} (reads : Reads read) (room : ℕ) (bytes work after : List ℕ) where
  sound : Sound (read room bytes)
  sound = record { list = λ g e. reads.list room bytes g e }

  pub read_on : (r : Result Head Refusal) → WordsRead (read room bytes) work after r → IfOk r (λ head. HoldsList head.n head.m after) →
      ReadOn read room bytes work after r
  unfolding outcome_of laid_list
  read_on (Ok head) on held =
      record {
        found = on.found;
        holds = held;
        fits = omega (arith, reads.fits room bytes (laid_list head.n head.m after) on.found, length_laid head.m after);
        own = tt;
        past = cleared_past 12288 after work (omega arith) (reading_past sound on);
      }
  read_on (Err e) on held =
      let n = reads.numbers room bytes (number_of e) on.found in
      record {
        found = on.found;
        holds = tt;
        fits = tt;
        own = (n.1, n.2);
        past = cleared_past 12288 after work (omega arith) (reading_past sound on);
      }

-- where the work buffer is long enough the outcome is what the file says
pub outcome_long : (read : Reader) (room w : ℕ) (bytes : List ℕ) → 16384 ≤ w → read_outcome read room w bytes ≡ read room bytes
unfolding read_outcome any_short
outcome_long read room w bytes long = rw (le-ltb w 16384 long)

-- where 12 is answered it is short, and as it was
pub lent_short : (read : Reader) (room : ℕ) (bytes work after : List ℕ) → ReadLent read room bytes work after (Err BufferTooShort) →
    (read_outcome read room (length work) bytes ≡ refused 12) × (after ≡ work)
unfolding read_outcome any_short
lent_short read room bytes work after on =
    by_test (ltb (length work) 16384) (λ s. (rw s, (on.short (ltb-true (length work) 16384 s)).1))
    (λ l. absurd ((on.long (ltb-false (length work) 16384 l)).own.0 refl))
