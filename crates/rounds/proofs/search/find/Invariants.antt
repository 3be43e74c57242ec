-- `rounds::search::find`: from round to round `Searching` holds, and `steps` falls.
use Rattle.lists.specs.Listed.{listed}
use Rattle.rounds.proofs.Rounds.{steps, stays, Searching}
use Rattle.rounds.proofs.search.find.Given as goal

abbrev pub invariant-loop-hints : goal.invariant-loop-hints
invariant-loop-hints l = Searching l.fn.known l.known l.last l.scope l.hold l.group

abbrev pub decreases-loop-hints : goal.decreases-loop-hints
decreases-loop-hints l = steps (listed l.known.list) l.known.ratio.p l.known.ratio.q (stays l.last l.known.ratio)
