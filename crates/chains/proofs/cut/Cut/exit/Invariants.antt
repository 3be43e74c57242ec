-- `chains::cut::Cut::exit`: no slot of the pairs passed leads out.
use Rattle.std.proofs.Common.{◌≡◌, ℕ, ◌*◌, ◌<◌, false}
use Rattle.chains.specs.Search.{leads}
use Rattle.chains.proofs.cut.Cut.exit.Given as goal

abbrev pub invariant-loop-j : goal.invariant-loop-j
invariant-loop-j l = (k : ℕ) → k < 2 * l.j → leads l.self.graph.ends.now l.self.hold.now l.self.rank.now k ≡ false
