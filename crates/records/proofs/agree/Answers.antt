-- `records::agree` meets its contract: both tests are those of the list. Assumes nothing.
use mathlib.Core.Path.{sym, ◌∙◌}
use native.Mathlib.Nat.{sub-zero}
use Rattle.records.proofs.Scans.{agrees_by}
use Rattle.records.proofs.agree.Goals as goal

pub returns-then-in_range : goal.returns-then-in_range
returns-then-in_range c =
    let lent = c.in-Some.ensures.lookup.0 in
    rw (c.all_good.ensures, lent.2, sub-zero) (rw (sym c.in_range.ensures ∙ c.if-in_range.true) at (agrees_by c.args.head c.args.list.now lent.1))

pub returns-else-in_range : goal.returns-else-in_range
returns-else-in_range c =
    let lent = c.in-Some.ensures.lookup.0 in
    rw c.if-in_range.false (rw (sym c.in_range.ensures ∙ c.if-in_range.false) at (agrees_by c.args.head c.args.list.now lent.1))
