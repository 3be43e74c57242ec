-- `kitting::write_kitted` meets its contract: the file is refused, the argument, the list or the least size, or the kit is made.
use Rattle.std.proofs.Common.{◌∙◌, ◌≤◌, length, refl, take, sym, arith, rules}
use lib.Seq.{length-take-le}
use Rattle.theory.specs.Words.{laid_list}
use Rattle.theory.proofs.Lists.{listed}
use Rattle.lines.specs.Outcomes.{outcome_of}
use Rattle.lines.proofs.Found.{numbered, handed_on}
use Rattle.lines.proofs.Parts.{left_lent}
use Rattle.texts.specs.Kits.{kit_lines}
use Rattle.texts.proofs.Files.{prints_lent, text_printed, text_refused}
use Rattle.texts.proofs.Kits.{number_laid, lines_laid, length_lines, file_refused, argument_refused, size_refused, least_shown, kit_read}
use Rattle.texts.proofs.kitting.write_kitted.Goals as goal
use Rattle.texts.proofs.kitting.write_kitted.Goals.{After-new-writer}

pub returns-in_err-head : goal.returns-in_err-head
unfolding outcome_of
returns-in_err-head c =
    rw (handed_on c.from_residual.ensures.1) (text_refused (kit_read (file_refused c.args.argument.now c.in_err-head.ensures.file.found)))

pub returns-in_err-k : goal.returns-in_err-k
unfolding outcome_of
returns-in_err-k c =
    rw (handed_on c.from_residual-in_err-k.ensures.1)
    (text_refused (kit_read (argument_refused c.args.argument.now c.in_ok-head.ensures.file.found c.in_err-k.ensures)))

pub kit_on_words-requires-clause-members_long : goal.kit_on_words-requires-clause-members_long
unfolding laid_list
kit_on_words-requires-clause-members_long c = omega (arith, (listed (laid_list _ _ _) c.in_ok-head.ensures.held.listed).few)

pub returns-in_err-ratio : goal.returns-in_err-ratio
unfolding outcome_of
returns-in_err-ratio c =
    rw (handed_on c.from_residual-in_err-ratio.ensures.1)
    (text_refused (kit_read (size_refused c.args.argument.now c.in_ok-head.ensures.file.found c.in_ok-k.ensures
    (number_laid c.in_ok-head.head c.in_ok-k.k c.in_err-ratio.ensures) (numbered _))))

-- N is within the buffer
within : (c : After-new-writer) → c.in_ok-head.head.n ≤ length c.kit_on_words.new.members
unfolding laid_list
within c = omega (arith, (listed (laid_list _ _ _) c.in_ok-head.ensures.held.listed).few, c.kit_on_words.auto.members)

pub slice_bounds-members-end : goal.slice_bounds-members-end
slice_bounds-members-end c = within (goal.at.slice_bounds-members-end c).After-new-writer

pub slice_bounds-write_kit-end : goal.slice_bounds-write_kit-end
slice_bounds-write_kit-end c = sym (length-take-le _ _ (within (goal.at.slice_bounds-write_kit-end c).After-new-writer))

-- the lines are short
short : (c : After-new-writer) → let r = c.in_ok-ratio.ratio in length (kit_lines r.p r.q (take c.in_ok-head.head.n c.kit_on_words.new.members)) ≤ 6175
short c = length_lines c.in_ok-head.head c.in_ok-k.k c.in_ok-ratio.ensures refl c.in_ok-head.ensures.held.listed

pub write_kit-requires-clause-room : goal.write_kit-requires-clause-room
write_kit-requires-clause-room c =
    let few = short (goal.at.write_kit-requires-clause-room c).After-new-writer in
    (left_lent {start = c.new-writer.result} c.new-writer.ensures.unwritten c.new-writer.ensures.start (omega (arith, few, c.requires))).room

pub returns : goal.returns
unfolding outcome_of
returns c =
    let names = c.write_kit.ensures.same_buffer ∙ c.new-writer.ensures.same_buffer in
    let on = c.in_ok-ratio.ensures in
    let head = c.in_ok-head.head in
    let k = c.in_ok-k.k in
    let shown = least_shown c.args.argument.now c.in_ok-head.ensures.file.found c.in_ok-k.ensures (number_laid head k on) refl in
    text_printed
    (prints_lent c.new-writer.ensures.unwritten c.new-writer.ensures.start c.write_kit.new.writer c.write_kit.ensures (search rules)
    (kit_read (lines_laid head k on refl ∙ shown)) (omega (arith, short (goal.at.returns c).After-new-writer, c.requires)))
