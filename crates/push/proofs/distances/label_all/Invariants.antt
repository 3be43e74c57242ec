-- The measure: the places not yet looked at.
use Rattle.std.proofs.Common.{◌-◌}
use Rattle.push.proofs.distances.label_all.Given as goal

abbrev pub decreases-loop-v : goal.decreases-loop-v
decreases-loop-v l = 640 - l.reached.at
