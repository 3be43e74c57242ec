-- `sheetfile::audit_list` meets its contract: the sheet is read, the group and the shares go to check, and then the head is judged.
use Rattle.std.proofs.Common.{◌≡◌, ◌∙◌, length, length-take-le}
use Rattle.std.proofs.lemmas.List.{take-replicate}
use Rattle.slots.proofs.Words.{held_few}
use Rattle.lines.proofs.Found.{handed_on}
use Rattle.sheetfile.proofs.Auditing.{of_whole, sheet_refused, check_refused, checked_some, head_judged}
use Rattle.sheetfile.proofs.audit_list.Goals as goal
use Rattle.sheetfile.proofs.audit_list.Goals.{After-read_sheet, After-check_words}

pub read_sheet-requires-clause-unmarked : goal.read_sheet-requires-clause-unmarked
read_sheet-requires-clause-unmarked c = take-replicate c.args.list.n 512 0 (held_few c.args.list.held).0

pub returns-in_err-head : goal.returns-in_err-head
returns-in_err-head c = rw (handed_on c.from_residual.ensures.1) (sheet_refused _ _ c.in_err-head.ensures)

-- the buffers are as long as the list asks for
members_size : (c : After-read_sheet) → length c.read_sheet.new.members ≡ c.args.list.n
members_size c = c.read_sheet.auto.members ∙ length-take-le _ _ (held_few c.args.list.held).0

shares_size : (c : After-read_sheet) → length c.read_sheet.new.shares ≡ c.args.list.m
shares_size c = c.read_sheet.auto.shares ∙ length-take-le _ _ (held_few c.args.list.held).1

pub returns-in_err-ratio : goal.returns-in_err-ratio
returns-in_err-ratio c =
    let at = (goal.at.returns-in_err-ratio c).After-read_sheet in
    rw (handed_on c.from_residual-in_err-ratio.ensures.1)
    (check_refused _ _ c.in_ok-head.ensures (of_whole (members_size at) (shares_size at) c.in_err-ratio.ensures))

pub judge_head-requires : goal.judge_head-requires
judge_head-requires c =
    let at = (goal.at.judge_head-requires c).After-read_sheet in
    checked_some _ _ c.in_ok-head.ensures (of_whole (members_size at) (shares_size at) c.in_ok-ratio.ensures)

pub returns : goal.returns
returns c =
    let at = (goal.at.returns c).After-read_sheet in
    rw c.judge_head.ensures
    (head_judged _ _ c.in_ok-head.ensures (of_whole (members_size at) (shares_size at) c.in_ok-ratio.ensures) c.args.list.held.listed
    c.core_numbers-cores.ensures)
