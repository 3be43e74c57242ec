-- `flow::staying::Staying::start` meets its contract. Assumes nothing.
use Rattle.std.proofs.Common.{Bool, cond, ap, ◌∙◌, arith}
use Rattle.chains.proofs.Zeros.{zeros_upto}
use Rattle.flow.proofs.Draining.{drain_start_next}
use Rattle.flow.proofs.staying.Staying.start.Goals as goal

pub loop-v-preserved : goal.loop-v-preserved
loop-v-preserved c =
    let q = c.push_if.ensures in
    rw (q.modules, q.tail)
    (drain_start_next c.loop-v.invariant (omega arith) (omega arith) _ _ c.stays.ensures
    (ap (λ (b : Bool). cond b 1 0) c.is_sink.ensures))

pub invariant_of-result : goal.invariant_of-result
invariant_of-result c = record { long = c.loop-v.auto.rank ∙ c.fill.ensures.len ∙ c.requires.long; count = omega (arith, c.loop-v.invariant.count, zeros_upto c.loop-v.v 512 c.loop-v.rank (omega arith)) }
