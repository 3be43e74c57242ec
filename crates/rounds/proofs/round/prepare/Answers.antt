-- `rounds::round::prepare` meets its contract: it moves units by `leavers` alone. Assumes nothing.
use Rattle.rounds.proofs.Rounds.{opened_few}
use Rattle.rounds.proofs.round.prepare.Goals as goal

pub much_above-requires : goal.much_above-requires
much_above-requires c = opened_few c.requires.opened
