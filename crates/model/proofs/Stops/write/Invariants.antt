use Rattle.std.proofs.Common.{◌+◌, ◌<◌, ◌≡◌, map}
use Prim.Native.Nat.{◌^◌}
use Rattle.model.specs.Counts.{record_at, written}
use Rattle.model.proofs.Stops.write.Given as goal

-- what is still to be written makes of the list what the whole makes of it; the places stay below 2^64
abbrev pub invariant-loop-j : goal.invariant-loop-j
invariant-loop-j l = (l.j + (goal.iterator-loop-j).remaining l.a-iterator < 2 ^ 64)
    × (written l.j (map record_at l.a-iterator) l.list ≡ written 0 (map record_at l.self.counts.entries) l.initial.list)
