-- What the loop of `densest::sheet::core_start` keeps: the place is that of the modules passed.
use Rattle.densest.specs.Gather.{FirstPlace}
use Rattle.densest.proofs.sheet.core_start.Given as goal

abbrev pub invariant-loop-v : goal.invariant-loop-v
invariant-loop-v l = FirstPlace l.v l.group l.place l.first
