-- Document 01, "The list and its calls", and document 02, item 1: what read makes of the bytes of a pair file, and read_dimacs of those of a DIMACS file.
--   records_front    new records in front of the others
--   ReadCall        number, head, every record, and the work buffer; what is read, or the refusal: read_outcome, of crate on_words
-- Assumes nothing: these are definitions.
use Rattle.std.specs.Prelude.{◌≡◌, List, ◌++◌, ℕ, length, drop}
use Rattle.theory.specs.Lists as Lists
use Rattle.lines.specs.Outcomes.{number_given}
use Rattle.pairfile.specs.Answers.{pairs_of}
use Rattle.records.specs.declared.Pair.{Pair}
use Rattle.kandurzo.specs.declared.Changed.{Changed}
use Rattle.kandurzo.specs.Listing.{as_records}
use Rattle.on_words.specs.Buffers.{work_left}
use Rattle.on_words.specs.Reading.{Reader, read_outcome, read_head}

-- the records of some pairs in front; records past them stay
unfoldable pub records_front : (new : List Lists.Pair) → List Pair → List Pair
records_front new ps = as_records new ++ drop (length new) ps

-- what read answers of the bytes, and the lent records and the work buffer after it
pub record ReadCall (read : Reader) (bytes : List ℕ) (ps : List Pair) (work : List ℕ) (r : Changed) (ps' : List Pair) (work' : List ℕ) : Type 0 where
  pub number : r.number ≡ number_given (read_outcome read (length ps) (length work) bytes)
  pub head : r.head ≡ read_head (read_outcome read (length ps) (length work) bytes)
  -- the first M records are the file's pairs in rising order, the others are as before; a refused file has none and leaves the records as they were
  pub records : ps' ≡ records_front (pairs_of (read_outcome read (length ps) (length work) bytes)) ps
  pub left : work' ≡ work_left r.number work
