-- `rounds::round::balance` meets its contract: units move in `move_until_stuck` alone, and a set is counted before it is believed. Assumes nothing.
use Rattle.std.proofs.Common.{◌∙◌, arith}
use Rattle.rounds.proofs.Rounds.{opened_few, opened_long, marked_denser}
use Rattle.rounds.proofs.round.balance.Goals as goal

pub is_near_forest-requires : goal.is_near_forest-requires
is_near_forest-requires c = opened_few c.requires.opened

pub move_until_stuck-requires-clause-n_in_bounds : goal.move_until_stuck-requires-clause-n_in_bounds
move_until_stuck-requires-clause-n_in_bounds c = omega (arith, opened_long c.requires.opened)

pub returns-clause-denser : goal.returns-clause-denser
returns-clause-denser c =
    rw c.then_some.ensures
    (marked_denser c.args.known _ c.move_until_stuck.new.marks c.mark_at_least.new.group c.count-ratio.result c.is_below.result
    (c.mark_at_least.auto.group ∙ c.requires.group_len) (rw c.requires.group_len at c.mark_at_least.ensures) c.count-ratio.ensures c.is_below.ensures)
