-- `on_words::kitting::check_least` meets its contract: 20, 21, or neither. Assumes nothing.
use mathlib.Core.Path.{sym, ◌∙◌}
use Prim.Native.Nat.{◌≤◌}
use Rattle.std.proofs.Common.{rules}
use Rattle.theory.proofs.Pairless.{served_some}
use Rattle.theory.proofs.Kits.{least_good, least_bad, kit_pairless, kit_turned, kit_made}
use Rattle.lines.proofs.Found.{handed_on}
use Rattle.on_words.proofs.Pairless.{turned}
use Rattle.on_words.proofs.kitting.check_least.Goals as goal

pub returns-in_err-check_some_pair : goal.returns-in_err-check_some_pair
returns-in_err-check_some_pair c =
    let t = turned c.args.head _ c.in_err-check_some_pair.ensures in
    rw (handed_on c.from_residual.ensures.1) (t.0 ∙ sym (kit_pairless _ _ c.args.k t.1))

pub returns-then-contains : goal.returns-then-contains
returns-then-contains c =
    let in_range : (1 ≤ c.args.k) × (c.args.k ≤ c.args.head.n) = search rules in
    sym (kit_made _ _ _ (served_some _ (sym c.in_ok-check_some_pair.ensures)) (least_good _ c.args.head.m _ in_range.0 in_range.1))

pub returns-else-contains : goal.returns-else-contains
returns-else-contains c =
    let outside : 1 ≤ c.args.k → c.args.k ≤ c.args.head.n → ⊥ = search rules in
    sym (kit_turned _ _ _ (served_some _ (sym c.in_ok-check_some_pair.ensures)) (least_bad _ c.args.head.m _ outside))
