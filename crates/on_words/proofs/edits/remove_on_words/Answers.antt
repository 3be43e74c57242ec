-- `on_words::edits::remove_on_words` meets its contract: each cause in its order, then the change. Assumes nothing.
use Rattle.std.proofs.Common.{refl, sym}
use native.Mathlib.Omega.{arith}
use Rattle.lines.proofs.Found.{handed_on}
use Rattle.on_words.proofs.Changes.{place_below, found_at, remove_unfit, remove_missing, remove_done}
use Rattle.on_words.proofs.edits.remove_on_words.Goals as goal

pub returns-in_err-check_pair : goal.returns-in_err-check_pair
returns-in_err-check_pair c = rw (handed_on c.from_residual.ensures.1) (remove_unfit _ _ _ _ _ c.in_err-check_pair.ensures)

pub returns-in_default : goal.returns-in_default
returns-in_default c =
    remove_missing _ _ _ _ (sym c.in_ok-check_pair.ensures) c.requires _ refl (found_at _ _ _ c.min.ensures c.max.ensures c.in_default.ensures)

pub delete-requires-clause-at_below_m : goal.delete-requires-clause-at_below_m
delete-requires-clause-at_below_m c = (place_below _ _ _ c.requires _ c.in-Ok.ensures).0

pub overflow_sub-result : goal.overflow_sub-result
overflow_sub-result c = omega (arith, place_below _ _ _ c.requires _ c.in-Ok.ensures)

pub returns : goal.returns
returns c =
    remove_done _ _ _ _ (sym c.in_ok-check_pair.ensures) c.requires (found_at _ _ _ c.min.ensures c.max.ensures c.in-Ok.ensures) c.delete.ensures
