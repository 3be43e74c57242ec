-- Words lent to `solve`: a copy, or the front, of words that hold a list.
--   alike_list     words that are alike up to word 12,288 have the same list
--   alike_holds    and hold it
-- Assumes nothing.
use Rattle.std.proofs.Common.{◌≡◌, ℕ, ◌+◌, ◌<◌, ◌≤◌, List, length, get_or, drop, sym, ap, ◌∙◌, arith, get_or-drop}
use Rattle.theory.specs.Lists.{Pair}
use Rattle.theory.specs.Words.{counts_of, laid_pairs, laid_list, HoldsList}
use Rattle.theory.proofs.Words.{pairs_ext, holds_few}

module _ (n m : ℕ) (words lent : List ℕ) (h : HoldsList n m words) (alike : (k : ℕ) → k < 12288 → get_or lent k 0 ≡ get_or words k 0) where
  pub alike_list : laid_list n m lent ≡ laid_list n m words
  unfolding laid_list laid_pairs counts_of
  alike_list =
      let few = (holds_few n m words h.listed).1 in
      ap (λ (ps : List Pair). record { n = n; pairs = ps })
      (pairs_ext m lent (drop 8192 lent) words (drop 8192 words) (λ k l. alike k (omega arith))
      (λ j l. get_or-drop 8192 lent j 0 ∙ alike (8192 + j) (omega arith) ∙ sym (get_or-drop 8192 words j 0)))

  pub alike_holds : 12288 ≤ length lent → HoldsList n m lent
  alike_holds long = record { listed = rw alike_list h.listed; long = long }
