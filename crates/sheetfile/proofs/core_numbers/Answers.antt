-- `sheetfile::core_numbers` meets its contract: peel's core numbers stand in front of the array.
use Rattle.std.proofs.Common.{◌∙◌, ap, drop, take, replicate, arith}
use lib.Seq.{take_at}
use Rattle.theory.specs.Cores.{core_number, core_numbers}
use Rattle.theory.specs.Words.{list_in}
use Rattle.theory.proofs.Lists.{listed as listing}
use Rattle.theory.proofs.Tables.{length_table}
use Rattle.lists.specs.Listed.{listed}
use Rattle.sheetfile.proofs.core_numbers.Goals as goal

pub peel-requires : goal.peel-requires
unfolding list_in
peel-requires c =
    let l = listing _ c.args.list.held.listed in
    record { some = omega arith; few = l.some; order_long = l.few; cores_long = l.few; place_long = l.few }

pub returns : goal.returns
unfolding core_numbers list_in
returns c =
    let l = c.args.list in
    ap (take l.n) c.peel.ensures.cores_are
    ∙ take_at (core_numbers (listed l)) (drop l.n (replicate 512 0)) l.n (length_table l.n (core_number (listed l)))
