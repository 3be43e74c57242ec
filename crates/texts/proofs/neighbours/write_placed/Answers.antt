-- `neighbours::write_placed` meets its contract: the file is refused, an argument, the two modules, or their pair is looked up.
use Rattle.std.proofs.Common.{◌≡◌, ◌≤◌, length, sym, arith}
use Rattle.theory.specs.Lists.{pair}
use Rattle.theory.specs.Words.{laid_list, laid_pairs}
use Rattle.theory.proofs.Words.{length_laid, holds_few}
use Rattle.pairs.specs.Located.{place_in, located}
use Rattle.pairs.proofs.Words.{holds_rising}
use Rattle.lines.specs.Outcomes.{outcome_of}
use Rattle.lines.proofs.Found.{handed_on}
use Rattle.texts.specs.Neighbours.{place_text}
use Rattle.texts.proofs.Places.{
  found_within,
  found_there,
  place_length,
  file_refused,
  first_refused,
  second_refused,
  modules_refused,
  modules_placed,
  refused_written,
  text_written,
}
use Rattle.texts.proofs.neighbours.write_placed.Goals as goal
use Rattle.texts.proofs.neighbours.write_placed.Goals.{After-lookup-place}

pub returns-in_err-head : goal.returns-in_err-head
unfolding outcome_of
returns-in_err-head c = rw (handed_on c.from_residual.ensures.1) (refused_written _ _ _ (file_refused _ _ _ c.in_err-head.ensures.file.found))

pub returns-in_err-a : goal.returns-in_err-a
unfolding outcome_of
returns-in_err-a c =
    rw (handed_on c.from_residual-in_err-a.ensures.1) (refused_written _ _ _ (first_refused _ _ _ c.in_ok-head.ensures.file.found c.in_err-a.ensures))

pub returns-in_err-b : goal.returns-in_err-b
unfolding outcome_of
returns-in_err-b c =
    rw (handed_on c.from_residual-in_err-b.ensures.1)
    (refused_written _ _ _ (second_refused _ _ _ c.in_ok-head.ensures.file.found c.in_ok-a.ensures c.in_err-b.ensures))

pub returns-in_err-check_pair : goal.returns-in_err-check_pair
unfolding outcome_of laid_list
returns-in_err-check_pair c =
    rw (handed_on c.from_residual-in_err-check_pair.ensures.1)
    (refused_written _ _ _
    (modules_refused _ _ _ c.in_ok-head.ensures.file.found c.in_ok-a.ensures c.in_ok-b.ensures _ c.in_err-check_pair.ensures))

pub lookup-place-requires : goal.lookup-place-requires
lookup-place-requires c = rw c.list-list.ensures.pairs (holds_rising _ _ _ c.in_ok-head.ensures.held)

-- the pair's place among the records
found : (c : After-lookup-place) →
    place_in c.lookup-place.result ≡ located (pair c.min.result c.max.result) (laid_pairs c.in_ok-head.head.m c.read_words.new.words)
found c = rw c.list-list.ensures.pairs at c.lookup-place.ensures

-- the place is among the M records, or behind them
within : (c : After-lookup-place) → (place_in c.lookup-place.result).at ≤ c.in_ok-head.head.m
within c = omega (arith, found_within _ _ (found c), length_laid c.in_ok-head.head.m c.read_words.new.words)

pub write_place-requires-clause-at_le_m : goal.write_place-requires-clause-at_le_m
write_place-requires-clause-at_le_m c =
    omega (arith, within (goal.at.write_place-requires-clause-at_le_m c).After-lookup-place, c.list-list.ensures.pairs)

-- the text of the place is short
short : (c : After-lookup-place) → let head = c.in_ok-head.head in
    length (place_text (place_in c.lookup-place.result) (laid_list head.n head.m c.read_words.new.words).pairs) ≤ 64
short c =
    let list = c.in_ok-head.ensures.held.listed in
    place_length (laid_list _ _ _) (place_in c.lookup-place.result) list (omega (arith, within c, holds_few _ _ _ list))

pub write_place-requires-clause-room : goal.write_place-requires-clause-room
write_place-requires-clause-room c =
    rw c.list-list.ensures.value (omega (arith, short (goal.at.write_place-requires-clause-room c).After-lookup-place, c.requires))

pub returns : goal.returns
unfolding outcome_of laid_list
returns c =
    let is = found_there c.in_ok-a.a c.in_ok-b.b (laid_pairs c.in_ok-head.head.m c.read_words.new.words) c.min.ensures c.max.ensures
    (found (goal.at.returns c).After-lookup-place) in
    text_written _ _ _
    (modules_placed _ _ _ c.in_ok-head.ensures.file.found c.in_ok-a.ensures c.in_ok-b.ensures (sym c.in_ok-check_pair.ensures) is)
    (rw c.list-list.ensures.value at c.write_place.ensures)
    (omega (arith, short (goal.at.returns c).After-lookup-place, c.requires))
