-- `flow::drain::drain` meets its contract. Assumes nothing.
use Rattle.std.proofs.Common.{◌∙◌}
use Rattle.flow.proofs.Draining.{draining_on}
use Rattle.flow.proofs.drain.drain.Goals as goal

pub loop-u-preserved : goal.loop-u-preserved
loop-u-preserved c = record {
  staying = draining_on c.loop-u.invariant.staying c.release.ensures.drains;
  same = c.release.ensures.same ∙ c.loop-u.invariant.same;
}
