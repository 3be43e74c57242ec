-- `rounds::search::find` meets its contract: from round to round `Searching` holds, and `steps` falls. Assumes nothing.
use Rattle.std.proofs.Common.{sym, ◌∙◌}
use Rattle.std.proofs.lemmas.Bool.{not-true}
use Rattle.rounds.proofs.Rounds.{next_candidate, next_round, next_fewer}
use Rattle.rounds.proofs.search.find.Goals as goal

pub at-known-requires : goal.at-known-requires
at-known-requires c =
    let known = c.loop-hints.known in
    let r = c.round-reached.ensures in
    next_candidate known.list.held known.at_hand r.round r.counted

pub loop-hints-smaller : goal.loop-hints-smaller
loop-hints-smaller c =
    let e = c.at-known.ensures in
    next_fewer c.round-reached.ensures c.at-known.result e.list e.ratio c.loop-hints.last (not-true _ (sym c.ne.ensures ∙ c.loop-hints-test.true))

pub loop-hints-preserved : goal.loop-hints-preserved
loop-hints-preserved c =
    let e = c.at-known.ensures in
    let i = c.loop-hints.invariant in
    let r = c.round-reached in
    next_round r.ensures c.at-known.result e.list e.ratio i.same_list (r.auto.scope ∙ i.going.asks.scope_long) (r.auto.group ∙ i.going.asks.group_long)
