-- `sheetfile::sheet::read_sheet` meets its contract: the head, and then the lines after it, part after part.
use Rattle.std.proofs.Common.{◌≡◌, true, get_or, arith, rules, sym, tests}
use borrow.Author.Tests.{eqb-true, eqb-false}
use Rattle.theory.specs.Basics.{mark}
use Rattle.theory.specs.Words.{list_in}
use Rattle.lines.specs.Text.{text, between}
use Rattle.lines.specs.Lines.{is_place, places}
use Rattle.lines.proofs.Found.{handed_on}
use Rattle.sheetfile.specs.Sheet.{head_form}
use Rattle.sheetfile.proofs.Bodies.{
  members_refused,
  numbers_refused,
  shares_refused,
  bytes_follow,
  body_whole,
  head_missing,
  head_unfit,
  body_refused,
  sheet_whole,
}
use Rattle.sheetfile.proofs.sheet.read_sheet.Goals.{Else-not-contains}
use Rattle.sheetfile.proofs.sheet.read_sheet.Goals as goal

pub line_due-requires : goal.line_due-requires
unfolding places is_place between mark
line_due-requires c = search rules

pub returns-in_err-p : goal.returns-in_err-p
unfolding head_form text
returns-in_err-p c = rw (handed_on c.from_residual.ensures.1) (head_missing _ c.in_err-p.ensures)

pub returns-then-not-contains : goal.returns-then-not-contains
unfolding head_form text list_in between
returns-then-not-contains c = head_unfit _ c.in_ok-p.ensures (search (rules, tests))

-- Q is in its range
size_fits : (c : Else-not-contains) → between 1 c.args.list.n (get_or c.in_ok-p.field-0 1 0) ≡ true
unfolding between
size_fits c = search (rules, tests)

pub returns-in_err-read_members : goal.returns-in_err-read_members
unfolding head_form text list_in
returns-in_err-read_members c =
    rw (handed_on c.from_residual-in_err-read_members.ensures.1)
    (body_refused _ c.in_ok-p.ensures (size_fits (goal.at.returns-in_err-read_members c).Else-not-contains)
    (members_refused _ _ _ c.requires.cores c.requires.unmarked c.in_err-read_members.ensures))

pub returns-in_err-read_numbers : goal.returns-in_err-read_numbers
unfolding head_form text list_in
returns-in_err-read_numbers c =
    rw (handed_on c.from_residual-in_err-read_numbers.ensures.1)
    (body_refused _ c.in_ok-p.ensures (size_fits (goal.at.returns-in_err-read_numbers c).Else-not-contains)
    (numbers_refused _ _ _ c.requires.cores c.requires.unmarked c.in_ok-read_members.ensures c.in_err-read_numbers.ensures))

pub returns-in_err-read_shares : goal.returns-in_err-read_shares
unfolding head_form text list_in
returns-in_err-read_shares c =
    rw (handed_on c.from_residual-in_err-read_shares.ensures.1)
    (body_refused _ c.in_ok-p.ensures (size_fits (goal.at.returns-in_err-read_shares c).Else-not-contains)
    (shares_refused _ _ _ c.requires.cores c.requires.unmarked c.in_ok-read_members.ensures c.in_ok-read_numbers.ensures c.in_err-read_shares.ensures))

pub returns-then-not-is_done : goal.returns-then-not-is_done
unfolding head_form text list_in
returns-then-not-is_done c =
    body_refused _ c.in_ok-p.ensures (size_fits (goal.at.returns-then-not-is_done c).Else-not-contains)
    (bytes_follow _ _ _ c.requires.cores c.requires.unmarked c.in_ok-read_members.ensures c.in_ok-read_numbers.ensures c.in_ok-read_shares.ensures
    (omega (arith, eqb-false _ _ (sym c.if-not-is_done.ensures))))

pub returns : goal.returns
unfolding head_form text list_in
returns c =
    sheet_whole _ c.in_ok-p.ensures (size_fits (goal.at.returns c).Else-not-contains)
    (body_whole _ _ _ c.requires.cores c.requires.unmarked c.in_ok-read_members.ensures c.in_ok-read_numbers.ensures c.in_ok-read_shares.ensures
    (omega (arith, eqb-true _ _ (sym c.if-not-is_done.ensures))))
