-- The programs that convert a file print what is due of it.
--   refusal_converted, list_converted       what a file says, printed
--   long_read, from_dimacs_read             FromDimacsRead, of a file that is too long, and of one that is not
--   to_dimacs_read                          ToDimacsRead
--   from_dimacs_same, to_dimacs_same, from_then_to, to_then_from     the promises of specs/Converted.antt
-- Assumes nothing.
use mathlib.Core.Path.{◌≡◌, refl, ap, ◌∙◌}
use mathlib.Core.Bool.{false}
use mathlib.Core.List.{List}
use Prim.Native.Nat.{ℕ, ◌≤◌, ◌<◌}
use native.Mathlib.Omega.{arith}
use borrow.Author.Tests.{lt-ltb, le-ltb}
use lib.ListN.{length, length-take}
use lib.Seq.{take_all}
use Rattle.theory.specs.Lists.{Pairs}
use Rattle.lines.specs.Outcomes.{Outcome, refused, taken}
use Rattle.pairfile.specs.File.{read_file}
use Rattle.pairfile.specs.Promise.{WrittenReadsBack as FileBack, ReadsLists as FileLists}
use Rattle.pairfile.proofs.Promises.{written_reads_back as file_back, reads_lists as file_lists}
use Rattle.dimacs.specs.Edges.{read_dimacs, dimacs_of}
use Rattle.dimacs.specs.Promise.{once_each, WrittenReadsOnce, ReadsLists as DimacsLists, WrittenFits}
use Rattle.dimacs.proofs.Promises.{written_reads_once, reads_lists as dimacs_lists, written_fits}
use Rattle.texts.specs.Texts.{refusal_text}
use Rattle.texts.specs.Printed.{ReadOf}
use Rattle.texts.specs.Converted.{
  converted,
  pair_file,
  is_long,
  from_dimacs_printed,
  to_dimacs_printed,
  FromDimacsRead,
  ToDimacsRead,
  FromDimacsSame,
  ToDimacsSame,
  FromThenTo,
  ToThenFrom,
}
use Rattle.texts.proofs.Whole.{read_as}

-- ---- what a file says

module _ (file_of_list : Pairs → List ℕ) {due : Outcome Pairs} where
  -- a refusal: the status line
  pub refusal_converted : {k : ℕ} → due ≡ refused k → refusal_text k ≡ converted file_of_list due
  unfolding converted
  refusal_converted is = rw is refl

  -- a list: its file
  pub list_converted : {g : Pairs} → due ≡ taken g → file_of_list g ≡ converted file_of_list due
  unfolding converted
  list_converted is = rw is refl

-- ---- the file that was read

module _ {bytes file : List ℕ} (e : ReadOf 1048577 bytes file) where
  -- as many bytes were read as the file has, or as there is room for
  read_many : (length bytes ≤ length file) × (length bytes < e.room → length file ≡ length bytes)
  read_many =
      let k = ap length e.front ∙ length-take e.room file in
      (omega (arith, k), λ h. omega (arith, k))

  -- what is not too long was read whole
  read_whole : length bytes ≤ 1048576 → bytes ≡ file
  read_whole h = e.front ∙ take_all e.room file (omega (arith, read_many.1 (omega (arith, e.enough)), e.enough))

-- a longer file is refused, whatever it holds
pub long_read : {bytes : List ℕ} → 1048576 < length bytes → FromDimacsRead bytes (refusal_text 109)
unfolding from_dimacs_printed is_long
long_read h = record { due = λ file e. rw (lt-ltb 1048576 (length file) (omega (arith, (read_many e).0))) refl }

-- and any other was read whole
pub from_dimacs_read : {bytes text : List ℕ} → length bytes ≤ 1048576 → text ≡ converted pair_file (read_dimacs 4096 bytes) → FromDimacsRead bytes text
unfolding from_dimacs_printed is_long
from_dimacs_read {bytes} h is = record {
  due = λ file e.
      let whole : bytes ≡ file = read_whole e h in
      is ∙ rw (le-ltb 1048576 (length file) (omega (arith, ap length whole)), ← whole) refl;
}

pub to_dimacs_read : {bytes text : List ℕ} → text ≡ converted dimacs_of (read_file 4096 bytes) → ToDimacsRead bytes text
unfolding to_dimacs_printed
to_dimacs_read is = record { due = λ file e. is ∙ ap (converted dimacs_of) (read_as e) }

-- ---- the promises

module _ (file : List ℕ) (g : Pairs) (short : is_long file ≡ false) (e : read_dimacs 4096 file ≡ taken g) where
  from_printed : from_dimacs_printed file ≡ pair_file g
  unfolding from_dimacs_printed converted
  from_printed = rw (short, e)

  from_same : read_file 4096 (from_dimacs_printed file) ≡ taken g
  unfolding DimacsLists FileBack pair_file
  from_same =
      let t = dimacs_lists 4096 file g e in
      ap (read_file 4096) from_printed ∙ file_back 4096 g t.list t.fits

module _ (file : List ℕ) (g : Pairs) (e : read_file 4096 file ≡ taken g) where
  to_printed : to_dimacs_printed file ≡ dimacs_of g
  unfolding to_dimacs_printed converted
  to_printed = rw e

  to_same : read_dimacs 4096 (to_dimacs_printed file) ≡ taken (once_each g)
  unfolding FileLists WrittenReadsOnce
  to_same =
      let t = file_lists 4096 file g e in
      ap (read_dimacs 4096) to_printed ∙ written_reads_once 4096 g t.list t.fits

  -- a file that is printed is not too long
  to_short : is_long (to_dimacs_printed file) ≡ false
  unfolding is_long FileLists WrittenFits
  to_short = rw to_printed (le-ltb 1048576 (length (dimacs_of g)) (omega (arith, written_fits g (file_lists 4096 file g e).list)))

pub from_dimacs_same : FromDimacsSame
unfolding FromDimacsSame
from_dimacs_same = from_same

pub to_dimacs_same : ToDimacsSame
unfolding ToDimacsSame
to_dimacs_same = to_same

pub from_then_to : FromThenTo
unfolding FromThenTo
from_then_to file g short e = to_printed (from_dimacs_printed file) g (from_same file g short e)

pub to_then_from : ToThenFrom
unfolding ToThenFrom
to_then_from file g e = from_printed (to_dimacs_printed file) (once_each g) (to_short file g e) (to_same file g e)
