-- `List::in_words` meets its contract: the counts are all words from word 8,192 on.
use Rattle.std.proofs.Common.{refl}
use borrow.Author.Rules.{part_to_end}
use Rattle.theory.specs.Words.{counts_of, laid_list, laid_pairs, list_in}
use Rattle.theory.proofs.Words.{holds_held}
use Rattle.lists.proofs.list.List.in_words.Goals as goal

pub invariant_of-result : goal.invariant_of-result
unfolding counts_of
invariant_of-result c = record { held = rw (part_to_end c.args.words.now 8192) (holds_held _ _ _ c.requires) }

pub returns-clause-value : goal.returns-clause-value
unfolding laid_list laid_pairs list_in counts_of
returns-clause-value c = rw (part_to_end c.args.words.now 8192) refl
