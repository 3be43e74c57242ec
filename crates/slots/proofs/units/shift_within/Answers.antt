-- `slots::shift_within` meets its contract: the first module has the load, and the second has room for it.
use Rattle.slots.proofs.Moves.{shift_part, shift_fits, shift_keeps}
use Rattle.slots.proofs.units.shift_within.Goals as goal

pub carry-requires-2-clause-d_bound : goal.carry-requires-2-clause-d_bound
carry-requires-2-clause-d_bound c =
    rw c.module.ensures.value (shift_part _ _ _ _ _ _ _ c.args.graph.pairs c.requires.room.long c.requires.covers c.requires.s_bound c.requires.d_bound)

pub carry-requires-2-clause-d_bound_2 : goal.carry-requires-2-clause-d_bound_2
carry-requires-2-clause-d_bound_2 c =
    rw (c.module-2.ensures.value, c.other-o.ensures.value)
    (shift_fits _ _ _ _ _ _ _ c.args.graph.pairs c.requires.room c.requires.covers c.requires.s_bound c.requires.d_bound)

pub returns-clause-kept : goal.returns-clause-kept
returns-clause-kept c =
    shift_keeps _ _ _ _ _ _ _ c.args.graph.pairs c.requires.room.long c.requires.covers c.requires.s_bound c.requires.d_bound _ _
    (rw c.other-o.ensures.value at c.carry.ensures)
    (rw (c.module.ensures.value, c.module-2.ensures.value, c.other-o.ensures.value) at c.carry-2.ensures)
