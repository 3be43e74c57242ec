-- `verify::split::Split::greatest_load` meets its contract: the chain's greatest is that of the loads. Assumes nothing.
use mathlib.Core.Path.{◌≡◌, sym, ◌∙◌}
use native.Mathlib.Omega.{arith}
use Prim.Native.Nat.{max}
use lib.ListN.{take}
use Rattle.std.proofs.Common.{rules, length-take-le}
use Rattle.std.specs.List.{fold}
use Rattle.verify.proofs.Bounds.{few}
use Rattle.verify.proofs.Chains.{fold_load}
use Rattle.verify.proofs.split.Split.greatest_load.Goals as goal

pub slice_bounds-iter-end : goal.slice_bounds-iter-end
slice_bounds-iter-end c =
    let l = c.args.self.now.list in
    sym (length-take-le l.n c.loads-loads.result (omega (arith, few l.n l.m l.ends.now l.weights.now l.held)))

pub returns : goal.returns
returns c =
    let l = c.args.self.now.list in
    let ls = c.loads-loads.result in
    let f : c.fold.result ≡ fold max 0 (take l.n ls) = search rules in
    f ∙ fold_load l.n l.m l.ends.now l.weights.now _ _ ls (omega (arith, few l.n l.m l.ends.now l.weights.now l.held)) c.loads-loads.ensures
