-- `chains::search::settle` meets its contract. Assumes nothing.
use Rattle.std.proofs.Common.{arith}
use Rattle.std.proofs.lemmas.Grind.{common_steps}
use Rattle.theory.proofs.Tests.{no}
use Rattle.chains.proofs.Settling.{stuck}
use Rattle.chains.proofs.search.settle.Goals as goal

pub returns-in_default-clause-settled : goal.returns-in_default-clause-settled
returns-in_default-clause-settled c =
    let i = c.loop-units.invariant in
    let found = rw i.kept.same.graph at c.in_default.ensures in
    record {
      kept = i.kept.kept;
      good = λ e. no e;
      bad = λ e. stuck _ c.args.units.now.graph.pairs found (omega arith) c.loop-units-test.true
          (λ v l. grind (arith, common_steps, c.copy_from_slice.ensures.after, (found.tree 0).rank_long));
    }
