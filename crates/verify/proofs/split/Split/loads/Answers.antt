-- `verify::split::Split::loads` meets its contract. Assumes nothing.
use Rattle.verify.proofs.Loading.{loading_starts, loading_goes_on}
use Rattle.verify.proofs.split.Split.loads.Goals as goal

pub loop-j-init : goal.loop-j-init
loop-j-init c = loading_starts _ _ _ _

pub loop-j-preserved : goal.loop-j-preserved
loop-j-preserved c =
    let s = c.args.self.now in
    let e = c.from-graph.ensures.ends in
    loading_goes_on s.list.n s.list.m _ _ _ _ _ _ _ _ s.list.held s.complete c.loop-j-test.true (cc) (cc) c.loop-j.invariant
