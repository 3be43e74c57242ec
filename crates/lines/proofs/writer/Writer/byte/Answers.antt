-- `Writer::byte` meets its contract.
use Rattle.std.proofs.Common.{arith, refl}
use Rattle.lines.proofs.Putting.{puts_one}
use Rattle.lines.proofs.writer.Writer.byte.Goals as goal

pub returns : goal.returns
returns c = record { puts = puts_one _ _ _ (omega (arith, c.requires)); same_buffer = refl }
