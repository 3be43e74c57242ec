-- `rounds::round::count` meets its contract. Assumes nothing.
use Rattle.std.proofs.Common.{arith}
use Rattle.slots.proofs.Words.{few_modules}
use Rattle.rounds.proofs.round.count.Goals as goal

pub group_size-requires : goal.group_size-requires
group_size-requires c = omega (arith, few_modules _ _ _ _ c.args.list.held.listed)
