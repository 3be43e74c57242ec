-- What the loop of `verify::split::Split::loads` keeps true.
use Rattle.verify.proofs.Loading.{Loading}
use Rattle.verify.proofs.split.Split.loads.Given as goal

abbrev pub invariant-loop-j : goal.invariant-loop-j
invariant-loop-j l = Loading l.list.ends.now l.list.weights.now l.self.shares.now l.loads l.self.q l.j
