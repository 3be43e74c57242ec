-- `densest::solve` meets its contract. Assumes nothing.
use Rattle.std.proofs.Common.{ℕ, replicate, sym, ◌∙◌, length-take-le}
use Rattle.theory.proofs.Words.{holds_few}
use Rattle.densest.proofs.Solving.{solves_of}
use Rattle.densest.proofs.solve.Goals as goal

pub slice_bounds-solve_in-end : goal.slice_bounds-solve_in-end
slice_bounds-solve_in-end c = sym (length-take-le c.args.n (replicate {A = ℕ} 512 0) (holds_few _ _ _ c.requires.holds_list.listed).0)

pub slice_bounds-solve_in-end-2 : goal.slice_bounds-solve_in-end-2
slice_bounds-solve_in-end-2 c = sym (length-take-le c.args.n (replicate {A = ℕ} 512 0) (holds_few _ _ _ c.requires.holds_list.listed).0)

pub solve_in-requires-clause-holds_list : goal.solve_in-requires-clause-holds_list
solve_in-requires-clause-holds_list c =
    rw (
      length-take-le c.args.n (replicate {A = ℕ} 512 0) (holds_few _ _ _ c.requires.holds_list.listed).0,
      length-take-le c.args.m c.args.shares.now c.requires.n_in_bounds.2,
    ) c.requires.holds_list

pub solve_in-requires-clause-members_len : goal.solve_in-requires-clause-members_len
solve_in-requires-clause-members_len c =
    length-take-le c.args.n c.args.members.now c.requires.n_in_bounds.0
    ∙ sym (length-take-le c.args.n (replicate {A = ℕ} 512 0) (holds_few _ _ _ c.requires.holds_list.listed).0)

pub returns : goal.returns
returns c =
    let i = c.solve_in in
    let a = c.args in
    let r = c.requires.n_in_bounds in
    let n = length-take-le a.n (replicate {A = ℕ} 512 0) (holds_few _ _ _ c.requires.holds_list.listed).0 in
    let m = length-take-le a.m a.shares.now r.2 in
    let x = rw (n, m) at i.ensures.cores_after in
    let y = rw (n, m) at i.ensures.is_solution in
    solves_of a.n a.m a.words.now a.members.now a.cores.now a.shares.now i.new.members _ i.new.shares _ r.0 r.2
    (i.auto.members ∙ length-take-le a.n a.members.now r.0) (i.auto.shares ∙ m) x y
