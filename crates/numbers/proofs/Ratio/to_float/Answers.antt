-- `Ratio::to_float` meets its contract: a float holds both numbers exactly.
use Rattle.std.proofs.Common.{refl}
use Rattle.theory.specs.Ratio.{float_ratio}
use Rattle.numbers.proofs.Ratio.to_float.Goals as goal

pub returns : goal.returns
unfolding float_ratio
returns c = rw (c.from.ensures, c.from-2.ensures) refl
