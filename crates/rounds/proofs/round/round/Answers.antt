-- `rounds::round::round` meets its contract. Assumes nothing.
use Rattle.rounds.proofs.Rounds.{opened_kept, opened_room, opened_covers}
use Rattle.rounds.proofs.round.round.Goals as goal

pub invariant_of-units : goal.invariant_of-units
invariant_of-units c =
    let g = c.from.ensures in
    let o = c.open_round.ensures in
    record { room = rw g.pairs (opened_room o); covers = rw (g.modules, g.pairs, g.ends) (opened_covers o) }

pub decide-requires-clause-opened : goal.decide-requires-clause-opened
decide-requires-clause-opened c = opened_kept (record { graph = c.from.ensures; opened = c.open_round.ensures }) c.prepare.ensures
