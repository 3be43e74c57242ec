-- `peel::peel` meets its contract.
use native.Mathlib.Omega.{arith}
use Rattle.theory.specs.Groups.{everyone}
use Rattle.theory.specs.Words.{list_in}
use Rattle.lists.specs.Listed.{listed}
use Rattle.slots.proofs.Words.{held_few}
use Rattle.peel.proofs.Degrees.{adjacency_degrees}
use Rattle.peel.proofs.Ranks.{ranked_buildable, ranked_built}
use Rattle.peel.proofs.Remainders.{all_light}
use Rattle.peel.proofs.Answers.{answer_numberable, answer_comparable, answer}
use Rattle.peel.proofs.peel.Goals as goal

pub new-ranking-requires : goal.new-ranking-requires
new-ranking-requires c =
    let l = c.args.list in
    let few = held_few l.held in
    ranked_buildable l _ (adjacency_degrees _ l.held c.new-adjacency.ensures.degrees_are) (omega arith)

pub turns-requires-clause-ranking_of : goal.turns-requires-clause-ranking_of
turns-requires-clause-ranking_of c =
    let l = c.args.list in
    let few = held_few l.held in
    rw c.new-adjacency.ensures.same_list
    (ranked_built l _ (adjacency_degrees _ l.held c.new-adjacency.ensures.degrees_are) (omega arith)
    c.new-ranking.ensures)

pub number-requires : goal.number-requires
unfolding list_in
number-requires c =
    let l = c.args.list in
    let few = held_few l.held in
    answer_numberable (listed l) l.held.listed _ _ _ _ (rw c.new-adjacency.ensures.same_list at c.turns.ensures)
    c.requires.order_long (omega arith) _ _ c.requires.cores_long c.requires.place_long

pub densest-requires : goal.densest-requires
unfolding list_in
densest-requires c =
    let l = c.args.list in
    let few = held_few l.held in
    answer_comparable (listed l) l.held.listed _ _ _ _ (rw c.new-adjacency.ensures.same_list at c.turns.ensures)
    c.requires.order_long (omega arith) c.args.least c.requires.some c.requires.few
    (all_light l.n l.m l.ends.now l.weights.now l.held.listed (everyone (listed l)))

pub returns : goal.returns
unfolding list_in
returns c =
    let l = c.args.list in
    let few = held_few l.held in
    answer (listed l) l.held.listed _ _ _ _ (rw c.new-adjacency.ensures.same_list at c.turns.ensures)
    c.requires.order_long (omega arith) _ _ _ _ c.number.ensures c.args.least _ c.requires.cores_long c.requires.place_long c.densest.ensures
