-- `verify::bytes_good` meets its contract: the chain tests each byte. Assumes nothing.
use mathlib.Core.Path.{◌∙◌}
use Rattle.std.proofs.Common.{rules, tests, leb}
use Rattle.std.proofs.lemmas.Iterator.{YieldsList-from_slice}
use Rattle.std.proofs.lemmas.Iterator.Search.{all_from_yields_List}
use Rattle.verify.proofs.Chains.{bytes_all}
use Rattle.verify.proofs.bytes_good.Goals as goal

pub returns : goal.returns
returns c =
    let s = c.args.members.now in
    all_from_yields_List (λ x. leb x 1) _ _ _ c.all.ensures.ran (YieldsList-from_slice s cc) (λ x b q k. search (rules, tests)) ∙ bytes_all s
