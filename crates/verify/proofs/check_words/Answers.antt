-- `verify::check_words` meets its contract: what it accepts is best. Assumes nothing.
use mathlib.Core.Path.{sym, ◌∙◌}
use native.Mathlib.Omega.{arith}
use Rattle.verify.proofs.Answers.{accepted}
use Rattle.verify.proofs.check_words.Goals as goal

pub returns : goal.returns
returns c =
    let e = c.in_ok-split.ensures in
    let r = c.ratio_of-ratio.ensures in
    let q = e.2 ∙ sym r.size in
    let top = rw (e.0, e.1, q) at c.greatest_load.ensures in
    accepted _ _ _ c.ratio_of-ratio.result (sym r.ratio) c.args.list.held.listed (rw (e.0, e.1, q) at c.in_ok-split.split.good) (omega arith)
