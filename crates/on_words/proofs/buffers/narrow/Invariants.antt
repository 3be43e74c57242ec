-- What the loop of `on_words::buffers::narrow` keeps: the entries before i are the words.
use mathlib.Core.Path.{◌≡◌}
use mathlib.Core.List.{◌++◌}
use lib.ListN.{take, drop}
use Rattle.on_words.proofs.buffers.narrow.Given as goal

abbrev pub invariant-loop-i : goal.invariant-loop-i
invariant-loop-i l = l.to ≡ take l.i l.words ++ drop l.i l.fn.to
