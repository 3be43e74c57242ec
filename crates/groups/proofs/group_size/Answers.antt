-- `groups::group_size` meets its contract: the sum of the bytes is the size. Assumes nothing.
use Rattle.std.proofs.Common.{rules}
use Rattle.groups.proofs.Counts.{sum_size}
use Rattle.groups.proofs.group_size.Goals as goal

pub returns : goal.returns
returns c = rw (← sum_size c.args.group.now) (search rules)
