-- `answer::sheet_file` meets its contract: what the reader and solve say, one after the other.
use Rattle.std.proofs.Common.{refl, ◌∙◌, arith}
use Rattle.theory.proofs.Words.{holds_few}
use Rattle.lines.proofs.Found.{handed_on}
use Rattle.answer.proofs.Answering.{refused_as, turned_as, taken_as}
use Rattle.answer.proofs.sheet_file.Goals as goal

pub returns-in_err-head : goal.returns-in_err-head
returns-in_err-head c = rw (handed_on c.from_residual.ensures.1) (refused_as _ _ _ _ _ c.in_err-head.ensures.file)

pub solve_on_words-requires-clause-members_long : goal.solve_on_words-requires-clause-members_long
solve_on_words-requires-clause-members_long c =
    omega (arith, holds_few _ _ _ c.in_ok-head.ensures.held.listed, c.requires.members_long)

pub solve_on_words-requires-clause-cores_long : goal.solve_on_words-requires-clause-cores_long
solve_on_words-requires-clause-cores_long c =
    omega (arith, holds_few _ _ _ c.in_ok-head.ensures.held.listed, c.requires.cores_long)

pub solve_on_words-requires-clause-shares_long : goal.solve_on_words-requires-clause-shares_long
solve_on_words-requires-clause-shares_long c =
    omega (arith, holds_few _ _ _ c.in_ok-head.ensures.held.listed, c.requires.shares_long)

pub returns-in_err-found : goal.returns-in_err-found
returns-in_err-found c =
    rw (handed_on c.from_residual-in_err-found.ensures.1)
    (turned_as _ _ _ _ _ c.in_ok-head.ensures.file _ c.in_err-found.ensures (λ z. c.lay.ensures.none (c.list.ensures.pairs ∙ z)))

pub returns : goal.returns
returns c =
    taken_as _ _ _ _ _ c.in_ok-head.ensures.file c.in_ok-head.ensures.held c.in_ok-found.ensures refl
    (rw (c.list.ensures.modules, c.list.ensures.pairs) at (c.lay.ensures.pairs ∙ c.list.ensures.value))
    (rw c.list.ensures.pairs at c.lay.ensures.past)
