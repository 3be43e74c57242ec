-- `rounds::round::open_round` meets its contract. Assumes nothing.
use Rattle.std.proofs.Common.{◌∙◌, arith}
use Rattle.theory.specs.Words.{list_in}
use Rattle.rounds.proofs.Units.{none_own}
use Rattle.rounds.proofs.Rounds.{known_few, known_small, known_weights, core_marked}
use Rattle.rounds.proofs.round.open_round.Goals as goal

pub mark_at_least-requires : goal.mark_at_least-requires
unfolding list_in
mark_at_least-requires c = omega (arith, c.args.known.cored.long)

pub spread-requires-clause-weights : goal.spread-requires-clause-weights
spread-requires-clause-weights c = rw c.from.ensures.pairs (known_weights c.args.known)

pub spread-requires-clause-q_bound : goal.spread-requires-clause-q_bound
spread-requires-clause-q_bound c = known_small c.args.known

pub spread-requires-clause-own : goal.spread-requires-clause-own
spread-requires-clause-own c = record {
  long = omega (arith, c.from.ensures.modules, known_few c.args.known);
  small = rw c.requires.no_load (λ v h. omega (arith, none_own v));
}

pub returns : goal.returns
returns c =
    let g = c.from.ensures in
    record {
      scope_is =
          core_marked c.args.known _ _ (c.mark_at_least.auto.group ∙ c.requires.scope_len) c.rounded_up.ensures
          (rw c.requires.scope_len at c.mark_at_least.ensures);
      split = rw (g.pairs, g.ends) at c.spread.ensures.split;
      loads = rw (c.requires.no_load, g.modules, g.pairs, g.ends) at c.spread.ensures.loads;
      load_long = omega arith;
    }
