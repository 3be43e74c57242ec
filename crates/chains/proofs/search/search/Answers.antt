-- `chains::search::search` meets its contract. Assumes nothing.
use Rattle.std.proofs.Common.{arith}
use Rattle.chains.proofs.Visiting.{scan_start, scan_on, scan_found}
use Rattle.chains.proofs.search.search.Goals.{in-Some-exit_along+else-units-v, in_default-exit_along}
use Rattle.chains.proofs.search.search.Goals as goal

pub scan-init : goal.scan-init
scan-init c =
    let r = c.requires in
    scan_start _ _ _ c.begin.ensures.root (λ v l. c.begin.ensures.rest v (omega arith)) (omega (arith, r.n_bound)) (omega (arith, r.n_bound)) r.root.1

pub loop-arc-preserved : goal.loop-arc-preserved
loop-arc-preserved c =
    let i = c.loop-arc.invariant in
    elim c.match-exit_along.branch [
      | in-Some-exit_along+else-units-v w ↦
          let e = c.new-cut.ensures in let out = rw (e.graph, e.hold, e.rank) at w.in-Some-exit_along.ensures in rw w.reached-is (record {
            scan = scan_on i.scan c.args.units.now.graph.pairs c.requires.n_bound c.loop-arc.reached.high c.requires.root.0 out.0 out.1
                w.visit-v.ensures.visited w.if-units-v.false;
            at = omega arith;
            tail = omega arith;
          })
      | in_default-exit_along w ↦ rw w.reached-is i
    ]

pub scan-preserved : goal.scan-preserved
scan-preserved c =
    let e = c.new.ensures in
    let out = rw (e.graph, e.hold, e.rank) at c.in-Some-exit.ensures.found in
    scan_on c.scan.invariant c.args.units.now.graph.pairs c.requires.n_bound (λ x l. omega (arith, c.scan.reached.high x l)) c.requires.root.0 out.0 out.1
    c.visit-v-in-Some-exit.ensures.visited c.if-units-v-2.false

pub returns-then-units-v : goal.returns-then-units-v
returns-then-units-v c =
    let e = c.new-cut.ensures in
    let out = rw (e.graph, e.hold, e.rank) at c.in-Some-exit_along.ensures in
    scan_found c.loop-arc.invariant.scan c.args.units.now.graph.pairs c.requires.n_bound c.loop-arc.reached.high c.requires.root.0 out.0 out.1
    c.visit-v.ensures.visited c.if-units-v.true

pub returns-then-units-v-2 : goal.returns-then-units-v-2
returns-then-units-v-2 c =
    let e = c.new.ensures in
    let out = rw (e.graph, e.hold, e.rank) at c.in-Some-exit.ensures.found in
    scan_found c.scan.invariant c.args.units.now.graph.pairs c.requires.n_bound (λ x l. omega (arith, c.scan.reached.high x l)) c.requires.root.0 out.0 out.1
    c.visit-v-in-Some-exit.ensures.visited c.if-units-v-2.true
