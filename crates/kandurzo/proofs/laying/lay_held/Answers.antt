-- `kandurzo::laying::lay_held` meets its contract. Assumes nothing.
use mathlib.Core.Path.{◌≡◌}
use mathlib.Core.Bool.{true}
use mathlib.Core.List.{List}
use Prim.Native.Nat.{ℕ, ◌≤◌}
use native.Mathlib.Omega.{arith}
use lib.ListN.{length, take}
use Rattle.records.specs.declared.Pair.{Pair}
use Rattle.records.specs.declared.Head.{Head}
use Rattle.records.specs.Records.{agrees, copied_out}
use Rattle.records.proofs.Copies.{length_copied_out, copied_out_past, copied_out_list, agrees_room, copied_out_holds}
use Rattle.records.proofs.Scans.{agrees_count}
use Rattle.on_words.proofs.Filling.{cleared_past}
use Rattle.kandurzo.specs.Laying.{Laid}
use Rattle.kandurzo.proofs.laying.lay_held.Goals as goal

-- the words hold the held records
laid : (h : Head) (ps : List Pair) (words : List ℕ) → agrees h ps ≡ true → 12288 ≤ length words → Laid h ps words (copied_out (take h.m ps) words)
laid h ps words agreed enough =
    let room = agrees_room h ps words agreed enough in
    let count = agrees_count h ps agreed in
    record {
      agreed = agreed;
      some = count.0;
      holds = copied_out_holds h ps words agreed enough;
      list = copied_out_list h ps words count.0 room;
      long = length_copied_out (take h.m ps) words room;
      left = cleared_past 12288 _ _ (omega arith) (copied_out_past (take h.m ps) words room);
    }

pub copy_out-requires : goal.copy_out-requires
copy_out-requires c =
    let held = c.in_ok-held_beside.ensures in
    rw held.records (agrees_room _ _ _ held.agreed (c.requires held.long))

pub returns-clause-laid : goal.returns-clause-laid
returns-clause-laid c =
    let held = c.in_ok-held_beside.ensures in
    rw (c.copy_out.ensures, held.records) (laid _ _ _ held.agreed (c.requires held.long))
