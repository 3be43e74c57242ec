-- `verify::split::shares_fit` meets its contract: the chain tests each share, and all units fit. Assumes nothing.
use mathlib.Core.Path.{◌∙◌}
use Rattle.std.proofs.Common.{rules, tests, leb, ◌*◌, ◌≤◌, take}
use Rattle.std.proofs.lemmas.Iterator.{YieldsList-from_slice, YieldsList-from_zip}
use Rattle.std.proofs.lemmas.Iterator.Adapters.{serves_from_places}
use Rattle.std.proofs.lemmas.Iterator.Search.{all_from_yields_List}
use Rattle.verify.proofs.Chains.{shares_all, zip_small}
use Rattle.verify.proofs.split.shares_fit.Goals as goal

pub all-requires-clause-callable : goal.all-requires-clause-callable
all-requires-clause-callable c =
    let l = c.args.list in
    let xs = c.args.shares.now in
    serves_from_places
    (YieldsList-from_zip (YieldsList-from_slice (take l.m l.weights.now) cc) (YieldsList-from_slice xs cc))
    (λ x q r. search (rules, tests))
    (λ x k h e.
    let small : x.0.now * c.args.q ≤ 512000 = zip_small l.n l.m l.ends.now l.weights.now l.held c.args.q xs c.requires.shares_len k _ c.requires.q_bound h e in
    search rules)

pub returns : goal.returns
returns c =
    let l = c.args.list in
    let xs = c.args.shares.now in
    all_from_yields_List (λ p. leb p.1 (p.0 * c.args.q)) c.all.new.self _ _ c.all.ensures.ran
    (YieldsList-from_zip (YieldsList-from_slice (take l.m l.weights.now) cc) (YieldsList-from_slice xs cc))
    (λ x b q k. search (rules, tests))
    ∙ shares_all l.n l.m l.ends.now l.weights.now l.held c.args.q xs c.requires.shares_len
