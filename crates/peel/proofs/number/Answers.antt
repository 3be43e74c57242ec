-- `peel::number` meets its contract: one more module is numbered, and top is the greatest degree so far.
use mathlib.Core.Path.{◌≡◌, refl}
use Prim.Native.Nat.{suc}
use native.Mathlib.Omega.{arith}
use native.Mathlib.Numerals.{add-one}
use Rattle.theory.specs.Basics.{greatest}
use Rattle.theory.proofs.Tables.{greatest_suc}
use Rattle.slots.specs.Buffers.{entry}
use Rattle.peel.proofs.Numbers.{numbered_next}
use Rattle.peel.proofs.number.Goals as goal

pub loop-i-preserved : goal.loop-i-preserved
loop-i-preserved c =
    let a = c.args in
    let top : c.max-top.result ≡ greatest (suc c.loop-i.i) (entry a.finals.now) =
    unfold entry in omega (arith, c.max-top.ensures, greatest_suc c.loop-i.i (entry a.finals.now), c.loop-i.invariant.1) in (
      numbered_next a.order.now a.finals.now a.cores.now a.place.now c.requires c.loop-i.i (omega arith)
          c.loop-i.cores c.loop-i.place c.loop-i.invariant.0 _ _ refl top,
      rw add-one top,
    )
