-- `on_words::buffers::any_short` meets its contract: the chain compares each buffer's lengths. Assumes nothing.
use Rattle.std.proofs.Common.{rules, tests, ltb}
use Rattle.std.proofs.lemmas.Iterator.{YieldsList-from_slice}
use Rattle.std.proofs.lemmas.Iterator.Search.{any_from_yields_List}
use Rattle.on_words.specs.Buffers.{any_short}
use Rattle.on_words.proofs.buffers.any_short.Goals as goal

pub returns : goal.returns
unfolding any_short
returns c =
    any_from_yields_List (λ b. ltb b.has b.needs) _ _ _ c.any.ensures.ran (YieldsList-from_slice c.args.lent.now cc) (λ x b q k. search (rules, tests))
