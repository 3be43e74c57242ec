-- `on_words::edits::check_room` meets its contract: the count at a held pair's place, and whether a record is free for a new one. Assumes nothing.
use Rattle.std.proofs.Common.{◌+◌, ◌≤◌, sym, ◌∙◌}
use native.Mathlib.Omega.{arith}
use Rattle.theory.specs.Refusals.{cause, refusal}
use Rattle.on_words.proofs.Changes.{place_below, count_there, is_there, not_there, count_none, passes, stays}
use Rattle.on_words.proofs.edits.check_room.Goals as goal

pub overflow_add-at : goal.overflow_add-at
overflow_add-at c = omega (arith, place_below _ _ _ c.requires.holds_list _ (rw c.in-Ok.is at c.requires.found))

pub offset_bounds-words-at : goal.offset_bounds-words-at
offset_bounds-words-at c = omega (arith, place_below _ _ _ c.requires.holds_list _ (rw c.in-Ok.is at c.requires.found))

pub bounds-words-at : goal.bounds-words-at
bounds-words-at c = omega (arith, place_below _ _ _ c.requires.holds_list _ (rw c.in-Ok.is at c.requires.found))

pub returns-in-Ok : goal.returns-in-Ok
unfolding refusal cause
returns-in-Ok c = rw (passes _ _ _ (count_there _ _ _ c.requires.holds_list _ (rw c.in-Ok.is at c.requires.found)) c.if-words-at-gt1000.true)

pub returns-in-Ok-2 : goal.returns-in-Ok-2
unfolding refusal cause
returns-in-Ok-2 c =
    let found = rw c.in-Ok.is at c.requires.found in
    rw (stays _ _ _ (count_there _ _ _ c.requires.holds_list _ found) c.if-words-at-gt1000.false, is_there _ _ _ c.requires.holds_list _ found)

pub returns-in-Err : goal.returns-in-Err
unfolding refusal cause
returns-in-Err c =
    let found = rw c.in-Err.is at c.requires.found in
    let few : 0 + c.args.stops.w ≤ 1000 = omega (arith, c.requires.few) in
    rw (
      stays _ _ _ (count_none _ _ _ c.requires.holds_list _ found) few,
      not_there _ _ _ c.requires.holds_list _ found,
      sym c.is_full.ensures ∙ c.if-is_full.true,
    )

pub returns-in-Err-2 : goal.returns-in-Err-2
unfolding refusal cause
returns-in-Err-2 c =
    let found = rw c.in-Err-2.is at c.requires.found in
    let few : 0 + c.args.stops.w ≤ 1000 = omega (arith, c.requires.few) in
    rw (
      stays _ _ _ (count_none _ _ _ c.requires.holds_list _ found) few,
      not_there _ _ _ c.requires.holds_list _ found,
      sym c.is_full.ensures ∙ c.if-is_full.false,
    )
