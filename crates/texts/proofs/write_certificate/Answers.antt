-- `write_certificate` meets its contract: a file that is refused, and one that names a list.
use Rattle.std.proofs.Common.{◌∙◌, ◌≤◌, length, sym, arith, rules}
use lib.Seq.{length-take-le}
use Rattle.lines.proofs.Found.{handed_on}
use Rattle.lines.proofs.Parts.{left_lent}
use Rattle.texts.proofs.Files.{
  prints_lent,
  text_printed,
  text_refused,
  refusal_due,
  modules_few,
  pairs_few,
  list_held,
  lines_length,
  sheet_due,
}
use Rattle.texts.proofs.Whole.{sheet_read}
use Rattle.texts.proofs.write_certificate.Goals as goal
use Rattle.texts.proofs.write_certificate.Goals.{After-list-list}

pub returns-in_err-found : goal.returns-in_err-found
returns-in_err-found c = rw (handed_on c.from_residual.ensures.1) (text_refused (sheet_read (refusal_due c.in_err-found.ensures.answers)))

pub list-list-requires : goal.list-list-requires
list-list-requires c = list_held c.in_ok-found.ensures (omega (arith, c.sheet_file.auto.words))

-- the words are long
long : (c : After-list-list) → 12288 ≤ length c.sheet_file.new.words
long c = omega (arith, c.sheet_file.auto.words)

-- N and M are within the buffers
within : (c : After-list-list) → let l = c.list-list.result in let new = c.sheet_file.new in
    (l.n ≤ length new.members) × (l.n ≤ length new.cores) × (l.m ≤ length new.shares)
within c =
    let n = modules_few c.in_ok-found.ensures.answers in
    let m = pairs_few c.in_ok-found.ensures (long c) in
    let is = c.list-list.ensures in
    let kept = c.sheet_file.auto in
    (omega (arith, is.modules, n, kept.members), omega (arith, is.modules, n, kept.cores), omega (arith, is.pairs, m, kept.shares))

pub slice_bounds-members-end : goal.slice_bounds-members-end
slice_bounds-members-end c = (within (goal.at.slice_bounds-members-end c).After-list-list).0

pub slice_bounds-write_sheet-end : goal.slice_bounds-write_sheet-end
slice_bounds-write_sheet-end c = sym (length-take-le _ _ (within (goal.at.slice_bounds-write_sheet-end c).After-list-list).0)

pub slice_bounds-cores-end : goal.slice_bounds-cores-end
slice_bounds-cores-end c = (within (goal.at.slice_bounds-cores-end c).After-list-list).1

pub slice_bounds-write_sheet-end-2 : goal.slice_bounds-write_sheet-end-2
slice_bounds-write_sheet-end-2 c = sym (length-take-le _ _ (within (goal.at.slice_bounds-write_sheet-end-2 c).After-list-list).1)

pub slice_bounds-shares-end : goal.slice_bounds-shares-end
slice_bounds-shares-end c = (within (goal.at.slice_bounds-shares-end c).After-list-list).2

pub slice_bounds-write_sheet-end-3 : goal.slice_bounds-write_sheet-end-3
slice_bounds-write_sheet-end-3 c = sym (length-take-le _ _ (within (goal.at.slice_bounds-write_sheet-end-3 c).After-list-list).2)

pub write_sheet-requires-clause-each_pair : goal.write_sheet-requires-clause-each_pair
write_sheet-requires-clause-each_pair c = length-take-le _ _ (within (goal.at.write_sheet-requires-clause-each_pair c).After-list-list).2

pub write_sheet-requires-clause-room : goal.write_sheet-requires-clause-room
write_sheet-requires-clause-room c =
    let is = c.list-list.ensures in
    let few = lines_length c.in_ok-found.ensures (long (goal.at.write_sheet-requires-clause-room c).After-list-list) is.value is.modules is.pairs in
    (left_lent {start = c.new-writer.result} c.new-writer.ensures.unwritten c.new-writer.ensures.start (omega (arith, few, c.requires))).room

pub returns : goal.returns
returns c =
    let is = c.list-list.ensures in
    let l = long (goal.at.returns c).After-list-list in
    let few = lines_length c.in_ok-found.ensures l is.value is.modules is.pairs in
    let due = sheet_due c.in_ok-found.ensures l is.value is.modules is.pairs in
    let names = c.write_sheet.ensures.same_buffer ∙ c.new-writer.ensures.same_buffer in
    text_printed
    (prints_lent c.new-writer.ensures.unwritten c.new-writer.ensures.start c.write_sheet.new.writer c.write_sheet.ensures (search rules)
    (sheet_read due) (omega (arith, few, c.requires)))
