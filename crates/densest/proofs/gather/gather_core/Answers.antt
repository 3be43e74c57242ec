-- `densest::gather::gather_core` meets its contract. Assumes nothing.
use Rattle.std.proofs.Common.{◌∙◌, length, arith}
use Rattle.theory.specs.Words.{counts_of, laid_list, laid_pairs, list_in}
use Rattle.theory.proofs.Words.{holds_few, holds_held}
use Rattle.rounds.proofs.Scopes.{marked_core}
use Rattle.densest.specs.Gather.{CoreGathered}
use Rattle.densest.proofs.InnerSearch.{inner_candidate, inner_cored}
use Rattle.densest.proofs.gather.gather_core.Goals as goal

pub mark_core-k-requires-clause-n_bound : goal.mark_core-k-requires-clause-n_bound
mark_core-k-requires-clause-n_bound c = (holds_few _ _ _ c.requires.holds_list.listed).0

pub mark_core-k-requires-clause-cores_len : goal.mark_core-k-requires-clause-cores_len
unfolding laid_list
mark_core-k-requires-clause-cores_len c = omega (arith, c.requires.cored.long)

pub returns : goal.returns
unfolding laid_list laid_pairs list_in
returns c =
    let r = c.requires in
    let long = c.mark_core-k.auto.core in
    let marked = c.mark_core-k.ensures in
    let few = r.cored.long in
    let n = length c.args.core.now in
    let m = length c.args.shares.now in
    let list = c.gather.result in
    let x : CoreGathered n m c.args.start.p c.args.start.q c.args.words.now (counts_of c.args.words.now) c.mark_core-k.new.core
    list.ends.now list.weights.now list.m =
    record {
      held = holds_held _ _ _ r.holds_list;
      at_hand = r.at_hand;
      order = c.mark_core-k.result;
      low = omega (arith, marked.order, c.rounded_up.ensures);
      members_are = marked_core (laid_list n m c.args.words.now) c.mark_core-k.result c.args.cores.now _
          r.holds_list.listed r.cored long marked.marked;
      gathered = rw long at c.gather.ensures.gathered;
    } in
    record {
      modules = c.gather.ensures.modules ∙ long;
      gathered = x;
      at_hand = rw (c.gather.ensures.modules, long) (inner_candidate x);
      cored = rw (c.gather.ensures.modules, long)
          (inner_cored x r.cored (omega (arith, c.keep_at_least.auto.kept)) (λ v h. c.keep_at_least.ensures v (omega arith)));
      packed = c.gather.ensures.packed;
    }
