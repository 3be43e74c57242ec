-- The loop's invariant is what is `Left` of the lines.
use Rattle.std.proofs.Common.{◌-◌}
use Rattle.lines.specs.Putting.{HasRoom}
use Rattle.lines.proofs.Parts.{Left}
use Rattle.texts.specs.Filling.{Numbers, given_lines, Gives}
use Rattle.texts.proofs.write_lines.Given as goal

abbrev pub invariant-loop-i : goal.invariant-loop-i
invariant-loop-i g l =
    (given : Numbers) → Gives (goal.F-post g l.numbers) l.count given → HasRoom (given_lines l.form given 0 l.count) l.fn.writer →
    Left (given_lines l.form given 0 l.count) l.fn.writer (given_lines l.form given l.i (l.count - l.i)) l.writer
