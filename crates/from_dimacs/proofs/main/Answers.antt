-- `main` meets its contract: the buffers have the room that `run` asks for. The length of the longer one is had by a law, with its level and type written
-- out: computed, it takes more of the checker's stack than there is.
use mathlib.Core.Path.{◌≡◌, sym}
use Prim.Native.Nat.{ℕ, ◌≤◌}
use native.Mathlib.Nat.{le_of_eq, le_trans}
use native.Mathlib.Omega.{arith}
use lib.ListN.{length, replicate, length-replicate}
use Rattle.from_dimacs.proofs.main.Goals as goal

-- a buffer of n zeros is n bytes long
zeros_length : (n : ℕ) → n ≡ length {0} {A = ℕ} (replicate {0} {A = ℕ} n 0)
zeros_length n = sym (length-replicate {0} {A = ℕ} n 0)

-- so it has room for as many and for fewer
zeros_room : (m n : ℕ) → m ≤ n → m ≤ length {0} {A = ℕ} (replicate {0} {A = ℕ} n 0)
zeros_room m n fits = le_trans fits (le_of_eq (zeros_length n))

pub run-requires-clause-input_room : goal.run-requires-clause-input_room
run-requires-clause-input_room c = zeros_room _ 1048577 (omega arith)

pub slice_bounds-run-end : goal.slice_bounds-run-end
slice_bounds-run-end c = zeros_length _
