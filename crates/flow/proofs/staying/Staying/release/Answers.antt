-- `flow::staying::Staying::release`: the module of a slot that leads out stayed so far. Assumes nothing.
use Rattle.std.proofs.Common.{refl, arith, length-set}
use Rattle.chains.proofs.Leads.{leads_out}
use Rattle.flow.proofs.Draining.{release_room, release_count, release_drains}
use Rattle.flow.proofs.staying.Staying.release.Goals as goal

pub push-requires-clause-room : goal.push-requires-clause-room
push-requires-clause-room c =
    let w = leads_out c.args.units.now.graph.pairs (omega arith) c.requires.k_bound c.requires.leads in
    release_room w 512 _ c.module-v.result c.requires.n_bound (omega arith) c.module-v.ensures.value c.args.self.now.count

pub invariant_of-self : goal.invariant_of-self
invariant_of-self c =
    let w = leads_out c.args.units.now.graph.pairs (omega arith) c.requires.k_bound c.requires.leads in
    record {
      long = simp length-set c.args.self.now.long;
      count = omega (arith, release_count w 512 _ c.module-v.result c.requires.n_bound (omega arith) c.module-v.ensures.value c.args.self.now.count);
    }

pub returns-clause-drains : goal.returns-clause-drains
returns-clause-drains c =
    let w = leads_out c.args.units.now.graph.pairs (omega arith) c.requires.k_bound c.requires.leads in
    rw c.push.ensures.tail
    (release_drains w (omega (arith, c.push.ensures.tail)) (record { ranks = rw c.module-v.ensures.value refl; queues = rw c.module-v.ensures.value at c.push.ensures.modules }))
