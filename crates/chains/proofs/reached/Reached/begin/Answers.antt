-- `chains::reached::Reached::begin`: the root alone has a rank. Assumes nothing.
use Rattle.std.proofs.Common.{arith}
use Rattle.chains.proofs.Ranking.{alone_rest, alone_count, alone_high}
use Rattle.chains.proofs.reached.Reached.begin.Goals as goal

pub invariant_of-self : goal.invariant_of-self
invariant_of-self c =
    let e = c.fill.ensures.after (λ y h. h) in record {
      count = omega (arith, alone_count 512 c.args.root c.fill.new.self c.requires (omega arith) e);
      high = λ v l. omega (arith, alone_high 512 c.args.root c.fill.new.self c.requires (omega arith) e v l);
    }

pub returns-clause-rest : goal.returns-clause-rest
returns-clause-rest c = alone_rest 512 c.args.root c.fill.new.self c.requires (omega arith) (c.fill.ensures.after (λ y h. h))
