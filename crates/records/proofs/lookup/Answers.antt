-- `records::lookup` meets its contract: the records are searched by their module numbers. Assumes nothing.
use Rattle.std.proofs.Common.{rules, of_calls}
use Rattle.std.proofs.lemmas.Fn.{always_returns_same}
use Rattle.theory.specs.Lists.{pair}
use Rattle.pairs.proofs.Finding.{compared}
use Rattle.records.specs.declared.Pair.{Pair}
use Rattle.records.proofs.Scans.{searched_records}
use Rattle.records.proofs.lookup.Goals as goal

pub returns : goal.returns
unfolding pair
returns c =
    let p = pair c.args.a c.args.b in
    let found = c.search.ensures in
    searched_records p c.args.records.now _ c.requires found.bound
    (found.position (compared (λ (q : Pair). q.a) (λ q. q.b) p) (always_returns_same _ _ _ (λ x r f called. search (rules, of_calls))))
