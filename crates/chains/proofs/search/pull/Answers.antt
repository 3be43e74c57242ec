-- `chains::search::pull` meets its contract. Assumes nothing.
use Rattle.std.proofs.Common.{get_or, rules}
use Rattle.chains.proofs.Pulling.{chain_next, chain_end}
use Rattle.chains.proofs.search.pull.Goals as goal

pub loop-units-init : goal.loop-units-init
loop-units-init c = let t = c.requires.found.tree (get_or c.args.reached.now.rank c.args.found 0) in search rules

pub returns-then-p-units-clause-pulled : goal.returns-then-p-units-clause-pulled
returns-then-p-units-clause-pulled c =
    let s = c.shift.ensures in
    chain_end c.loop-units.invariant c.from-k.ensures c.module-u.ensures.value c.min-d.ensures s.kept s.hold_after s.load_after c.then-p-units.either

pub loop-units-preserved : goal.loop-units-preserved
loop-units-preserved c =
    let s = c.shift.ensures in
    chain_next c.loop-units.invariant c.from-k.ensures c.module-u.ensures.value c.min-d.ensures s.kept s.hold_after s.load_after c.if-p-units.false
    c.if-u-root.false
