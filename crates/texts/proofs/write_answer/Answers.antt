-- `write_answer` meets its contract: a file that is refused, and one that names a list.
use Rattle.std.proofs.Common.{◌∙◌, ◌≤◌, length, sym, arith, rules}
use lib.Seq.{length-take-le}
use Rattle.lines.proofs.Found.{handed_on}
use Rattle.lines.proofs.Parts.{left_lent}
use Rattle.texts.proofs.Files.{prints_lent, text_printed, text_refused, refusal_printed, modules_few, answer_length, group_lines}
use Rattle.texts.proofs.Whole.{group_read}
use Rattle.texts.proofs.write_answer.Goals as goal

pub returns-in_err-found : goal.returns-in_err-found
returns-in_err-found c = rw (handed_on c.from_residual.ensures.1) (text_refused (group_read (refusal_printed c.in_err-found.ensures)))

pub slice_bounds-members-end : goal.slice_bounds-members-end
slice_bounds-members-end c = omega (arith, modules_few c.in_ok-found.ensures, c.solve_file.auto.members)

pub slice_bounds-write_group-end : goal.slice_bounds-write_group-end
slice_bounds-write_group-end c =
    let within : c.in_ok-found.found.head.n ≤ length c.solve_file.new.members = omega (arith, modules_few c.in_ok-found.ensures, c.solve_file.auto.members) in
    sym (length-take-le _ _ within)

pub write_group-requires-clause-room : goal.write_group-requires-clause-room
write_group-requires-clause-room c =
    (left_lent {start = c.new-writer.result} c.new-writer.ensures.unwritten c.new-writer.ensures.start
    (omega (arith, answer_length c.in_ok-found.ensures, c.requires))).room

pub returns : goal.returns
returns c =
    let names = c.write_group.ensures.same_buffer ∙ c.new-writer.ensures.same_buffer in
    text_printed
    (prints_lent c.new-writer.ensures.unwritten c.new-writer.ensures.start c.write_group.new.writer c.write_group.ensures (search rules)
    (group_read (group_lines c.in_ok-found.ensures)) (omega (arith, answer_length c.in_ok-found.ensures, c.requires)))
