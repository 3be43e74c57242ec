-- `arguments::number_of_argument` meets its contract: no number, one with bytes behind it, and one alone.
use Rattle.std.proofs.Common.{sym, ◌∙◌}
use borrow.Author.Tests.{eqb-true, eqb-false}
use Rattle.lines.specs.Outcomes.{outcome_of}
use Rattle.lines.proofs.Found.{none_due}
use Rattle.texts.proofs.Spelled.{argument_none, argument_more, argument_alone}
use Rattle.texts.proofs.arguments.number_of_argument.Goals as goal

pub returns-in_err-number : goal.returns-in_err-number
unfolding outcome_of
returns-in_err-number c =
    let due = none_due c.from_residual.ensures.1 c.in_err-number.ensures.value in
    rw due.0 (argument_none _ (rw due.1 at c.number.ensures.found))

pub returns-then-not-is_done : goal.returns-then-not-is_done
unfolding outcome_of
returns-then-not-is_done c =
    argument_more _ (rw c.in_ok-number.ensures.ok_part at c.number.ensures.found) (eqb-false _ _ (sym c.is_done.ensures ∙ c.if-not-is_done.true))

pub returns : goal.returns
unfolding outcome_of
returns c =
    argument_alone _ (rw c.in_ok-number.ensures.ok_part at c.number.ensures.found) (eqb-true _ _ (sym c.is_done.ensures ∙ c.if-not-is_done.false))
