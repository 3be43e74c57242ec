-- `rounds::round::decide` meets its contract. Assumes nothing.
use Rattle.std.proofs.Common.{arith}
use Rattle.rounds.proofs.Rounds.{opened_kept, opened_long, opened_loads, stuck_made, round_of}
use Rattle.rounds.proofs.round.decide.Goals as goal

pub returns-in-Some-clause-round : goal.returns-in-Some-clause-round
returns-in-Some-clause-round c = stuck_made (opened_kept c.requires.opened c.balance.ensures.kept).opened c.in-Some.ensures.denser

pub flow-ended-requires-clause-scope_len : goal.flow-ended-requires-clause-scope_len
flow-ended-requires-clause-scope_len c =
    let o = opened_kept c.requires.opened c.balance.ensures.kept in
    (opened_long o, omega (arith, o.graph.modules, c.balance.auto.group, c.requires.group_len))

pub returns-clause-round : goal.returns-clause-round
returns-clause-round c =
    let o = opened_kept c.requires.opened c.balance.ensures.kept in
    round_of o (c.flow-ended.ensures.flowed _ (opened_loads o)) c.count.ensures
