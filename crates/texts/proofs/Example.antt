-- What `group` prints of the list *tail*.
--   tail_printed    TailPrinted: the file names *tail*, its found group is the paper's, and the text is run
-- Assumes nothing.
use mathlib.Core.Path.{◌≡◌, refl}
use mathlib.Core.Bool.{Bool, true, false, cond}
use mathlib.Core.List.{List, [], ◌∷◌, ◌++◌}
use Prim.Native.Nat.{ℕ}
use native.Mathlib.Omega.{arith}
use lib.ListN.{get_or, drop}
use Rattle.theory.specs.Basics.{table, mark}
use Rattle.theory.specs.Lists.{pair, stands_before, is_list}
use Rattle.theory.specs.Groups.{is_in, size, everyone, inside, Found, found_of}
use Rattle.theory.specs.Leaving.{joins, degree_of, degree}
use Rattle.theory.specs.Cores.{stays, kept, rounds, core}
use Rattle.theory.specs.Splits.{rounded_up}
use Rattle.theory.specs.Promise.{FoundAlone, FoundOutright}
use Rattle.theory.specs.Refusals.{cause, refusal}
use Rattle.theory.specs.Cases.{of_modules, tail, tail_found, row, starred, Meets, Each, Holds, StarredCases}
use Rattle.theory.proofs.Cases.{starred_cases}
use Rattle.theory.proofs.Promises.{found_alone, found_outright}
use Rattle.pairs.specs.Held.{same_ends, is_held, insert_pair, smaller_first_pair, stops_of}
use Rattle.pairs.specs.Causes.{is_module, module_unknown, self_paired, pair_causes, count_outside, count_causes}
use Rattle.lines.specs.Text.{text, between}
use Rattle.lines.specs.Numbers.{is_digit, digits, is_number, value_on, value, number_of, spell, spelled}
use Rattle.pairfile.specs.File.{
  modules_form,
  pairs_form,
  pair_form,
  head_line,
  modules_causes,
  modules_line,
  pairs_causes,
  pairs_line,
  pair_line_causes,
  pair_line,
  end_causes,
  read_pairs,
  read_file,
  group_list,
}
use Rattle.pairfile.proofs.Grouped.{group_taken}
use Rattle.lines.specs.Lines.{is_place, first, second, third, with_numbers, after_number, after_byte, line_of, filled}
use Rattle.lines.specs.Outcomes.{taken, ◌>>=◌, ◌>>◌, passed, judge, line_or, line_due}
use Rattle.sheetfile.specs.Sheet.{head_form, member_form}
use Rattle.sheetfile.specs.Writer.{member_lines}
use Rattle.texts.specs.Texts.{group_text, group_printed}
use Rattle.texts.specs.Example.{tail_file, tail_text, TailPrinted}

-- the file names *tail*
tail_named : read_file 4096 tail_file ≡ taken tail
unfolding tail_file tail of_modules pair stands_before cause refusal same_ends is_held insert_pair smaller_first_pair stops_of is_module module_unknown
    self_paired pair_causes count_outside count_causes text between is_digit digits is_number value_on value number_of modules_form pairs_form pair_form
    is_place first second third with_numbers after_number after_byte line_of ◌>>=◌ ◌>>◌ passed judge line_or line_due head_line modules_causes modules_line
    pairs_causes pairs_line pair_line_causes pair_line end_causes read_pairs read_file
tail_named = refl

-- which has a pair
tail_grouped : group_list tail_file ≡ taken tail
unfolding tail of_modules
tail_grouped = group_taken tail_file tail tail_named (omega arith)

-- the seventh starred case
tail_holds : (is_list tail ≡ true) × Found tail tail_found × (inside tail tail_found ≡ 6) × (size tail_found ≡ 4)
unfolding StarredCases Holds Each starred row Meets
tail_holds = let r = starred_cases.1.1.1.1.1.1.0 in (r.is_held, r.met.0.1, r.met.0.2, r.met.0.3)

-- its found group is the paper's, since a list has only one
tail_group : found_of tail ≡ tail_found
unfolding FoundAlone FoundOutright
tail_group = found_alone tail (found_of tail) tail_found tail_holds.0 (found_outright tail tail_holds.0) tail_holds.1

-- its core of order 2
core_of_two : size (core tail 2) ≡ 4
unfolding tail of_modules pair is_in size everyone core rounds kept stays degree degree_of joins table mark
core_of_two = refl

order_of_two : rounded_up 6 4 ≡ 2
unfolding rounded_up
order_of_two = refl

-- a line one byte after the other: `filled` as it is run, since both arms of `cond` are
run_byte : Bool → (c : ℕ) → (rest : List ℕ → List ℕ) → (numbers : List ℕ) → List ℕ
run_byte true c rest ns = spelled (get_or ns 0 0) ++ rest (drop 1 ns)
run_byte false c rest ns = c ∷ rest ns

run : (form numbers : List ℕ) → List ℕ
run [] ns = []
run (c ∷ cs) ns = run_byte (is_place c) c (run cs) ns

filled_run : (form ns : List ℕ) → filled form ns ≡ run form ns
unfolding filled run run_byte
filled_run [] ns = refl
filled_run (c ∷ cs) ns = go (is_place c) (filled_run cs (drop 1 ns)) (filled_run cs ns)
  where
    go : (b : Bool) → filled cs (drop 1 ns) ≡ run cs (drop 1 ns) → filled cs ns ≡ run cs ns →
        cond b (spelled (get_or ns 0 0) ++ filled cs (drop 1 ns)) (c ∷ filled cs ns) ≡ run_byte b c (run cs) ns
    go true h k = rw h
    go false h k = rw k

-- the lines with these numbers
lines_run : run head_form (6 ∷ 4 ∷ 2 ∷ 4 ∷ []) ++ member_lines 0 tail_found ≡ tail_text
unfolding tail_text tail_found text between run run_byte filled is_place spell spelled head_form member_form member_lines
lines_run = refl

tail_lines : group_text tail tail_found ≡ tail_text
unfolding group_text
tail_lines = rw (tail_holds.2, tail_holds.3, order_of_two, core_of_two, filled_run head_form (6 ∷ 4 ∷ 2 ∷ 4 ∷ [])) lines_run

pub tail_printed : TailPrinted
unfolding TailPrinted group_printed
tail_printed = rw (tail_grouped, tail_group) tail_lines
