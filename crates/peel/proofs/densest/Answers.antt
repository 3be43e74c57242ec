-- `peel::densest` meets its contract: what is left inside when i have left, and the densest remainder so far.
use mathlib.Core.Path.{◌≡◌, refl}
use Prim.Native.Nat.{◌+◌, ◌-◌, ◌<◌}
use native.Mathlib.Omega.{arith}
use lib.ListN.{length, get_or, take}
use Rattle.std.proofs.lemmas.List.{get_or-take, length-take-le}
use Rattle.std.proofs.lemmas.List.Sums.{sum_by-drop_more}
use Rattle.peel.specs.Steps.{remaining}
use Rattle.peel.proofs.Remainders.{best_next}
use Rattle.peel.proofs.densest.Goals as goal

pub loop-i-preserved : goal.loop-i-preserved
loop-i-preserved c =
    let f = c.args.finals.now in
    let n = length f - c.args.least in
    let low : c.loop-i.i < n = omega (arith, length-take-le n f (omega arith)) in
    let less : c.loop-i.left - get_or (take n f) c.loop-i.i 0 ≡ remaining f (c.loop-i.i + 1) =
    omega (arith, c.loop-i.invariant.0, get_or-take n f c.loop-i.i 0 low, sum_by-drop_more (λ x. x) f c.loop-i.i 0 (omega arith)) in (
      less,
      (rw c.denser-best.ensures (best_next f c.loop-i.i _ _ c.loop-i.invariant.1 (record { at_is = refl; p_is = less; q_is = omega arith }))),
    )
