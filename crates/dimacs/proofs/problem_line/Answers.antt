-- `dimacs::problem_line` meets its contract: the line's two numbers are judged.
use Rattle.std.proofs.Common.{◌≡◌, ◌∙◌, ◌∷◌, [], Some, get_or, sym, rules}
use Rattle.theory.specs.Basics.{mark, table}
use Rattle.lines.specs.Text.{text, between}
use Rattle.lines.specs.Lines.{is_place, places, line_of}
use Rattle.lines.proofs.Found.{line_has, numbered, handed_on, none_due}
use Rattle.dimacs.specs.Edges.{problem_form}
use Rattle.dimacs.proofs.Taken.{problem_first, problem_second, problem_fit}
use Rattle.dimacs.proofs.Judged.{problem_malformed, problem_unfit, problem_sizes}
use Rattle.dimacs.proofs.problem_line.Goals as goal
use Rattle.dimacs.proofs.problem_line.Goals.{In_ok-n}

pub line-requires : goal.line-requires
unfolding places is_place between mark
line-requires c = search rules

pub returns-in_err-n : goal.returns-in_err-n
unfolding problem_form text
returns-in_err-n c =
    let due = none_due c.from_residual.ensures.1 c.in_err-n.ensures.value in
    rw due.0 (problem_malformed (rw due.1 at c.line.ensures.found))

-- the line's numbers
found : (c : In_ok-n) →
    let ns = c.in_ok-n.field-0 in
    line_of 4 problem_form c.args.reader.now.left.now ≡ Some (record { numbers = get_or ns 0 0 ∷ get_or ns 1 0 ∷ []; rest = c.line.new.self.left.now })
unfolding problem_form text places is_place between mark table
found c = line_has (rw c.in_ok-n.ensures.ok_part at c.line.ensures)

pub returns-in_err-check_modules : goal.returns-in_err-check_modules
returns-in_err-check_modules c =
    let f = found (goal.at.returns-in_err-check_modules c).In_ok-n in
    rw (handed_on c.from_residual-in_err-check_modules.ensures.1)
    (problem_unfit _ _ c.args.room _ _ f _ (problem_first c.args.room _ _ c.in_err-check_modules.ensures (numbered _)))

pub returns-in_err-check_pairs : goal.returns-in_err-check_pairs
returns-in_err-check_pairs c =
    let f = found (goal.at.returns-in_err-check_pairs c).In_ok-n in
    rw (handed_on c.from_residual-in_err-check_pairs.ensures.1)
    (problem_unfit _ _ c.args.room _ _ f _
    (c.in_err-check_pairs.ensures ∙ sym (problem_second c.args.room _ _ (sym c.in_ok-check_modules.ensures))))

pub returns : goal.returns
returns c =
    let f = found (goal.at.returns c).In_ok-n in
    problem_sizes _ _ c.args.room _ _ f (problem_fit c.args.room _ _ (sym c.in_ok-check_modules.ensures) (sym c.in_ok-check_pairs.ensures))
