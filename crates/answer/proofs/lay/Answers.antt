-- `answer::lay` meets its contract: the ends are copied, and the counts behind them.
use Rattle.std.proofs.Common.{refl, sym, arith}
use Rattle.answer.proofs.Laying.{ends_count, ends_within, words_count, ends_room, lays_pairs, lays_past, lays_none}
use Rattle.answer.proofs.lay.Goals as goal

pub slice_bounds-copy_from_slice-end : goal.slice_bounds-copy_from_slice-end
slice_bounds-copy_from_slice-end c =
    let l = c.args.list in
    ends_within l.n l.m l.ends.now l.weights.now c.args.words.now l.held c.requires

pub slice_bounds-copy_from_slice-end-2 : goal.slice_bounds-copy_from_slice-end-2
slice_bounds-copy_from_slice-end-2 c =
    let l = c.args.list in
    sym (words_count l.n l.m l.ends.now l.weights.now c.args.words.now l.held c.requires)

pub copy_from_slice-requires : goal.copy_from_slice-requires
copy_from_slice-requires c =
    let l = c.args.list in
    omega (
      arith,
      words_count l.n l.m l.ends.now l.weights.now c.args.words.now l.held c.requires,
      ends_count l.n l.m l.ends.now l.weights.now c.args.words.now l.held c.requires,
    )

pub slice_bounds-copy_from_slice-end-4 : goal.slice_bounds-copy_from_slice-end-4
slice_bounds-copy_from_slice-end-4 c =
    let l = c.args.list in
    ends_room l.n l.m l.ends.now l.weights.now c.args.words.now l.held c.requires c.copy_from_slice.ensures.after refl

pub returns-clause-pairs : goal.returns-clause-pairs
returns-clause-pairs c =
    let l = c.args.list in
    lays_pairs l.n l.m l.ends.now l.weights.now c.args.words.now l.held c.requires c.copy_from_slice.ensures.after c.copy_from_slice-2.ensures.after

pub returns-clause-past : goal.returns-clause-past
returns-clause-past c =
    let l = c.args.list in
    lays_past l.n l.m l.ends.now l.weights.now c.args.words.now l.held c.requires c.copy_from_slice.ensures.after c.copy_from_slice-2.ensures.after

pub returns-clause-none : goal.returns-clause-none
returns-clause-none c =
    let l = c.args.list in
    lays_none l.n l.m l.ends.now l.weights.now c.args.words.now l.held c.requires c.copy_from_slice.ensures.after c.copy_from_slice-2.ensures.after
