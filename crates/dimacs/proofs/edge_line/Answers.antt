-- `dimacs::edge_line` meets its contract: the line found, a line left, and its two numbers judged.
use Rattle.std.proofs.Common.{◌≡◌, ◌∷◌, [], Some, get_or, sym, arith, rules}
use Rattle.theory.specs.Basics.{mark, table}
use Rattle.pairs.proofs.Causes.{numbers_known}
use Rattle.lines.specs.Text.{text, between}
use Rattle.lines.specs.Lines.{is_place, places, line_of}
use Rattle.lines.proofs.Found.{line_has, handed_on, none_due}
use Rattle.dimacs.specs.Edges.{edge_form}
use Rattle.dimacs.proofs.Judged.{edge_malformed, edge_many, edge_unfit, edge_named}
use Rattle.dimacs.proofs.edge_line.Goals as goal
use Rattle.dimacs.proofs.edge_line.Goals.{In_ok-a}

pub line-requires : goal.line-requires
unfolding places is_place between mark
line-requires c = search rules

pub returns-in_err-a : goal.returns-in_err-a
unfolding edge_form text
returns-in_err-a c =
    let due = none_due c.from_residual.ensures.1 c.in_err-a.ensures.value in
    rw due.0 (edge_malformed (rw due.1 at c.line.ensures.found))

-- the line's numbers
found : (c : In_ok-a) →
    let ns = c.in_ok-a.field-0 in
    line_of 4 edge_form c.args.reader.now.left.now ≡ Some (record { numbers = get_or ns 0 0 ∷ get_or ns 1 0 ∷ []; rest = c.line.new.self.left.now })
unfolding edge_form text places is_place between mark table
found c = line_has (rw c.in_ok-a.ensures.ok_part at c.line.ensures)

pub returns-then-left-eq0 : goal.returns-then-left-eq0
returns-then-left-eq0 c = edge_many _ _ _ _ _ _ (found (goal.at.returns-then-left-eq0 c).In_ok-a) c.if-left-eq0.true

pub returns-in_err-check_pair : goal.returns-in_err-check_pair
returns-in_err-check_pair c =
    let f = found (goal.at.returns-in_err-check_pair c).In_ok-a in
    rw (handed_on c.from_residual-in_err-check_pair.ensures.1)
    (edge_unfit _ _ _ _ _ _ f c.if-left-eq0.false _ c.in_err-check_pair.ensures)

pub overflow_sub-a : goal.overflow_sub-a
overflow_sub-a c = omega (arith, (numbers_known 1 _ _ _ (sym c.in_ok-check_pair.ensures)).0)

pub overflow_sub-b : goal.overflow_sub-b
overflow_sub-b c = omega (arith, (numbers_known 1 _ _ _ (sym c.in_ok-check_pair.ensures)).1)

pub returns : goal.returns
returns c =
    let f = found (goal.at.returns c).In_ok-a in
    edge_named _ _ _ _ _ _ f c.if-left-eq0.false (sym c.in_ok-check_pair.ensures) c.new.ensures
