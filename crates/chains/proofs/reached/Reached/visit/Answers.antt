-- `chains::reached::Reached::visit`: a slot that leads out leads to a module that was not reached. Assumes nothing.
use Rattle.std.proofs.Common.{arith}
use Rattle.chains.proofs.Leads.{leads_out}
use Rattle.chains.proofs.Ranking.{next}
use Rattle.chains.proofs.reached.Reached.visit.Goals as goal

pub push-requires-clause-room : goal.push-requires-clause-room
push-requires-clause-room c =
    let w = leads_out c.args.units.now.graph.pairs (omega arith) c.requires.k_bound c.requires.leads in
    (next w c.requires.n_bound c.other.ensures.value c.module-v.ensures.value (omega arith) c.args.self.now.count).room

pub invariant_of-self : goal.invariant_of-self
invariant_of-self c =
    let w = leads_out c.args.units.now.graph.pairs (omega arith) c.requires.k_bound c.requires.leads in
    let x = next w c.requires.n_bound c.other.ensures.value c.module-v.ensures.value (omega arith) c.args.self.now.count in
    record { count = x.count _ c.push.ensures.tail; high = x.high c.args.self.now.high _ c.push.ensures.tail }
