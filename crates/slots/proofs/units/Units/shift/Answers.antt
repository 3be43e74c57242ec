-- `Units::shift` meets its contract: what moves within pairs keeps room and loads.
use Rattle.std.proofs.Common.{refl}
use Rattle.slots.proofs.Moves.{kept_room, kept_covers}
use Rattle.slots.proofs.units.Units.shift.Goals as goal

pub invariant_of-self : goal.invariant_of-self
invariant_of-self c =
    let k = c.shift_within.ensures.kept in
    record { room = kept_room k c.args.self.now.room; covers = kept_covers k c.args.self.now.covers }

pub returns-clause-kept : goal.returns-clause-kept
returns-clause-kept c = record { same = record { graph = refl; hold = refl; load = refl }; kept = c.shift_within.ensures.kept }
