-- `neighbours::write_record` meets its contract: nothing where there is no such record, else its line.
use Rattle.std.proofs.Common.{◌≤◌, rules}
use Rattle.theory.specs.Words.{list_in}
use Rattle.lines.proofs.Putting.{writes_none}
use Rattle.texts.proofs.Places.{none_there, line_there}
use Rattle.texts.proofs.neighbours.write_record.Goals as goal

pub line-requires : goal.line-requires
unfolding list_in
line-requires c =
    let l = c.args.list in
    let h : (1 ≤ c.args.k) × (c.args.k ≤ l.m) = search rules in
    rw (c.ends_of-a.ensures.first, c.ends_of-a.ensures.second)
    (rw (line_there c.args.form.now l.m l.ends.now l.weights.now c.args.k h.0 h.1) at c.requires)

pub returns-then-contains : goal.returns-then-contains
unfolding list_in
returns-then-contains c =
    let l = c.args.list in
    let h : (1 ≤ c.args.k) × (c.args.k ≤ l.m) = search rules in
    rw (line_there c.args.form.now l.m l.ends.now l.weights.now c.args.k h.0 h.1)
    (rw (c.ends_of-a.ensures.first, c.ends_of-a.ensures.second) at c.line.ensures)

pub returns-else-contains : goal.returns-else-contains
unfolding list_in
returns-else-contains c =
    let l = c.args.list in
    let h : 1 ≤ c.args.k → c.args.k ≤ l.m → ⊥ = search rules in
    rw (none_there c.args.form.now l.m l.ends.now l.weights.now c.args.k h) (writes_none c.args.writer.now)
