-- `densest::solve_in` meets its contract. Assumes nothing.
use Rattle.std.proofs.Common.{length, refl, sym, ◌∙◌, arith, length-take-le}
use Rattle.theory.specs.Words.{list_in, laid_pairs, laid_list}
use Rattle.theory.proofs.Words.{holds_few}
use Rattle.densest.proofs.Gathering.{gathered_few}
use Rattle.densest.proofs.InnerSearch.{gathering_found}
use Rattle.densest.proofs.Solving.{peeled_cored, peeled_candidate, peeled_by_place, peeled_last, peelable_zeros, room_zeros, gathering_candidate, gathering_unpacks, gathering_small, solution_written}
use Rattle.densest.proofs.solve_in.Goals as goal

pub peel-requires : goal.peel-requires
peel-requires c = peelable_zeros c.in_words-all.result c.args.cores.now (omega arith)

pub gather_core-list-requires-clause-at_hand : goal.gather_core-list-requires-clause-at_hand
gather_core-list-requires-clause-at_hand c =
    peeled_candidate c.requires.holds_list.listed (rw c.in_words-all.ensures.value at c.peel.ensures)

pub gather_core-list-requires-clause-cored : goal.gather_core-list-requires-clause-cored
unfolding laid_list
gather_core-list-requires-clause-cored c = peeled_cored c.requires.holds_list.listed (rw c.in_words-all.ensures.value at c.peel.ensures)

pub gather_core-list-requires-clause-kept_len : goal.gather_core-list-requires-clause-kept_len
gather_core-list-requires-clause-kept_len c =
    omega (arith, holds_few _ _ _ c.requires.holds_list.listed, length-take-le (length c.args.core.now) c.peel.new.cores (omega arith))

pub find-found-requires : goal.find-found-requires
find-found-requires c =
    let g = c.gather_core-list.ensures in
    let few = holds_few _ _ _ c.requires.holds_list.listed in
    record {
      scope_long = c.requires.scope_len ∙ sym g.modules;
      group_long = c.requires.members_len ∙ sym g.modules;
      room = room_zeros c.gather_core-list.result.m 8192 (omega (arith, few, gathered_few g.gathered.gathered));
    }

pub write_shares-requires-clause-q_bound : goal.write_shares-requires-clause-q_bound
unfolding list_in
write_shares-requires-clause-q_bound c =
    let g = c.gather_core-list.ensures in
    let few = holds_few _ _ _ c.requires.holds_list.listed in
    let f = gathering_candidate (gathering_found g.gathered (rw g.modules at c.find-found.ensures) g.packed) in
    omega (arith, few, f.small)

pub write_shares-requires-clause-last : goal.write_shares-requires-clause-last
unfolding laid_list laid_pairs list_in
write_shares-requires-clause-last c =
    let g = c.gather_core-list.ensures in
    let cores = (gathering_found g.gathered (rw g.modules at c.find-found.ensures) g.packed).cores in
    let peeled = rw c.in_words-all.ensures.value at c.peel.ensures in
    (peeled_last c.requires.holds_list.listed peeled cores.0, peeled_last c.requires.holds_list.listed peeled cores.1)

pub write_shares-requires-clause-unpacks : goal.write_shares-requires-clause-unpacks
write_shares-requires-clause-unpacks c =
    let g = c.gather_core-list.ensures in
    rw (c.find-found.auto.scope, c.requires.scope_len, c.gather_core-list.auto.shares)
    (gathering_unpacks (gathering_found g.gathered (rw g.modules at c.find-found.ensures) g.packed))

pub write_shares-requires-clause-small : goal.write_shares-requires-clause-small
write_shares-requires-clause-small c =
    let g = c.gather_core-list.ensures in
    rw c.gather_core-list.auto.shares (gathering_small (gathering_found g.gathered (rw g.modules at c.find-found.ensures) g.packed))

pub rounded_up-requires : goal.rounded_up-requires
rounded_up-requires c =
    let g = c.gather_core-list.ensures in
    (gathering_candidate (gathering_found g.gathered (rw g.modules at c.find-found.ensures) g.packed)).some

pub returns-clause-cores_after : goal.returns-clause-cores_after
unfolding laid_list
returns-clause-cores_after c = (rw c.in_words-all.ensures.value at c.peel.ensures).cores_are

pub returns-clause-is_solution : goal.returns-clause-is_solution
unfolding laid_list laid_pairs list_in
returns-clause-is_solution c =
    let g = c.gather_core-list.ensures in
    solution_written (gathering_found g.gathered (rw g.modules at c.find-found.ensures) g.packed)
    (peeled_by_place c.requires.holds_list.listed (rw c.in_words-all.ensures.value at c.peel.ensures))
    (c.write_shares.auto.shares ∙ c.gather_core-list.auto.shares)
    (rw c.gather_core-list.auto.shares at c.write_shares.ensures) refl refl c.rounded_up.ensures c.group_size.ensures
