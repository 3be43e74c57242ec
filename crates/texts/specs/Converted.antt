-- What the programs `from_dimacs` and `to_dimacs` print (document 02, item 1), and what is promised of it.
--   converted                              of a refusal the status line, of a list its file, whatever the kind of file
--   pair_file                              the pair file of a list
--   is_long, from_dimacs_printed           what `from_dimacs` prints; it takes files of up to 1,048,576 bytes
--   to_dimacs_printed                      what `to_dimacs` prints
--   FromDimacsRead, ToDimacsRead       what is right of whatever file was read
--   FromDimacsSame, ToDimacsSame       the file printed names the same list; a DIMACS file without the counts
--   FromThenTo, ToThenFrom             the two programs one after the other
-- proofs/Converting.antt has a theorem for each promise, of the same name in small letters. Assumes nothing: these are definitions.
use Rattle.std.specs.Prelude.{◌≡◌, Bool, false, cond, List, ℕ, ltb, length}
use Rattle.theory.specs.Lists.{Pairs}
use Rattle.lines.specs.Outcomes.{Outcome, refused, taken}
use Rattle.pairfile.specs.File.{read_file, file_of}
use Rattle.dimacs.specs.Edges.{read_dimacs, dimacs_of}
use Rattle.dimacs.specs.Promise.{once_each}
use Rattle.texts.specs.Texts.{refusal_text}
use Rattle.texts.specs.Printed.{ReadOf}

-- of a refused file the status line only, of a list its file and nothing else
unfoldable pub converted : (file_of_list : Pairs → List ℕ) → Outcome Pairs → List ℕ
converted file_of_list (refused k) = refusal_text k
converted file_of_list (taken g) = file_of_list g

-- the pair file of a list: the pairs in list order, the smaller module first, each with its count
unfoldable pub pair_file : Pairs → List ℕ
pair_file g = file_of g.n g.pairs

-- 109: the file has more than 1,048,576 bytes, whatever it holds. Comments have no bound, so `from_dimacs` has one
unfoldable pub is_long : (file : List ℕ) → Bool
is_long file = ltb 1048576 (length file)

-- WHAT `from_dimacs` PRINTS of a DIMACS file: the pair file of the list that it names, or the refusal's text
unfoldable pub from_dimacs_printed : (file : List ℕ) → List ℕ
from_dimacs_printed file = cond (is_long file) (refusal_text 109) (converted pair_file (read_dimacs 4096 file))

-- WHAT `to_dimacs` PRINTS of a pair file: the DIMACS file of the list that it names, or the refusal's text
unfoldable pub to_dimacs_printed : (file : List ℕ) → List ℕ
to_dimacs_printed file = converted dimacs_of (read_file 4096 file)

-- WHATEVER FILE WAS READ, the text of `from_dimacs` is that of the whole file,
pub record FromDimacsRead (bytes text : List ℕ) : Type 0 where
  pub due : (file : List ℕ) → ReadOf 1048577 bytes file → text ≡ from_dimacs_printed file

-- and so is the text of `to_dimacs`
pub record ToDimacsRead (bytes text : List ℕ) : Type 0 where
  pub due : (file : List ℕ) → ReadOf 65536 bytes file → text ≡ to_dimacs_printed file

-- WHAT `from_dimacs` PRINTS OF AN ACCEPTED FILE, the reader of pair files reads as the same list; each pair has the count 1
unfoldable pub FromDimacsSame : Type 0
FromDimacsSame =
    (file : List ℕ) (g : Pairs) → is_long file ≡ false → read_dimacs 4096 file ≡ taken g → read_file 4096 (from_dimacs_printed file) ≡ taken g

-- WHAT `to_dimacs` PRINTS OF AN ACCEPTED FILE, the reader of DIMACS files reads as the same pairs, each with the count 1: of a list of ones, as the same list
unfoldable pub ToDimacsSame : Type 0
ToDimacsSame = (file : List ℕ) (g : Pairs) → read_file 4096 file ≡ taken g → read_dimacs 4096 (to_dimacs_printed file) ≡ taken (once_each g)

-- ONE AFTER THE OTHER they print the file of the list, in list order and the smaller module first: its DIMACS file,
unfoldable pub FromThenTo : Type 0
FromThenTo =
    (file : List ℕ) (g : Pairs) → is_long file ≡ false → read_dimacs 4096 file ≡ taken g → to_dimacs_printed (from_dimacs_printed file) ≡ dimacs_of g

-- and its pair file, in which each pair has the count 1
unfoldable pub ToThenFrom : Type 0
ToThenFrom = (file : List ℕ) (g : Pairs) → read_file 4096 file ≡ taken g → from_dimacs_printed (to_dimacs_printed file) ≡ pair_file (once_each g)
