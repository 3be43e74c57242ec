-- Words that hold a list.
--   sizes    it has 1 to 512 modules, and at most 4,096 pairs
-- Assumes nothing.
use Rattle.std.proofs.Common.{ℕ, ◌≤◌, List}
use Rattle.theory.specs.Words.{HoldsList, laid_list}
use Rattle.theory.proofs.Lists.{listed}
use Rattle.theory.proofs.Words.{holds_few}

module _ {n m : ℕ} {ws : List ℕ} (h : HoldsList n m ws) where
  pub sizes : (1 ≤ n) × ((n ≤ 512) × (m ≤ 4096))
  unfolding laid_list
  sizes = ((listed (laid_list n m ws) h.listed).some, holds_few n m ws h.listed)
