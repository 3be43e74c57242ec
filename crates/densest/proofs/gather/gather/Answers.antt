-- `densest::gather::gather` meets its contract: the pairs passed are packed, and gathered. Assumes nothing.
use Rattle.std.proofs.Common.{◌≡◌, cond, refl, arith, rules}
use borrow.Author.Rules.{part_to_end}
use Rattle.theory.specs.Words.{counts_of}
use Rattle.densest.proofs.Gathering.{pair_read, gathering_start, gathering_next, gathering_end, gathered_held}
use Rattle.densest.proofs.gather.gather.Goals as goal

pub loop-j-init : goal.loop-j-init
loop-j-init c = gathering_start _ _ _ _ _ c.requires refl

pub new-pair-requires-clause-a_bound : goal.new-pair-requires-clause-a_bound
new-pair-requires-clause-a_bound c = omega (arith, pair_read c.loop-j.invariant (omega arith))

pub new-pair-requires-clause-b_bound : goal.new-pair-requires-clause-b_bound
new-pair-requires-clause-b_bound c = omega (arith, pair_read c.loop-j.invariant (omega arith))

pub new-pair-requires-clause-w_bound : goal.new-pair-requires-clause-w_bound
new-pair-requires-clause-w_bound c = (pair_read c.loop-j.invariant (omega arith)).light

pub is_inner-requires-clause-first_in_bounds : goal.is_inner-requires-clause-first_in_bounds
is_inner-requires-clause-first_in_bounds c = rw c.new-pair.ensures (omega (arith, pair_read c.loop-j.invariant (omega arith)))

pub is_inner-requires-clause-second_in_bounds : goal.is_inner-requires-clause-second_in_bounds
is_inner-requires-clause-second_in_bounds c = rw c.new-pair.ensures (omega (arith, pair_read c.loop-j.invariant (omega arith)))

pub loop-j-preserved : goal.loop-j-preserved
loop-j-preserved c =
    let step : c.from-i.result ≡ cond c.is_inner.result 1 0 = search rules in
    gathering_next c.loop-j.invariant _ _ _ (omega arith) c.new-pair.ensures c.is_inner.ensures step

pub invariant_of-result : goal.invariant_of-result
unfolding counts_of
invariant_of-result c =
    let i = c.loop-j.invariant in
    record { held = rw (part_to_end c.loop-j.words 8192) (gathered_held i.held i.few.1 i.words_long (gathering_end i (omega arith)).0) }

pub returns-clause-gathered : goal.returns-clause-gathered
unfolding counts_of
returns-clause-gathered c = rw (part_to_end c.loop-j.words 8192) (gathering_end c.loop-j.invariant (omega arith)).0
