-- `chains::reached::Reached::new`: all ranks are 0. Assumes nothing.
use Rattle.std.proofs.Common.{ℕ, replicate, arith}
use Rattle.std.proofs.lemmas.List.{get_or-replicate}
use Rattle.chains.proofs.Zeros.{zeros_all}
use Rattle.chains.proofs.reached.Reached.new.Goals as goal

pub invariant_of-result : goal.invariant_of-result
invariant_of-result c = record {
  count = omega (arith, zeros_all 512 (replicate {A = ℕ} 512 0) (λ v l. get_or-replicate 512 v 0 0 l));
  high = λ v l. omega (arith, get_or-replicate {A = ℕ} 512 v 0 0 l);
}
