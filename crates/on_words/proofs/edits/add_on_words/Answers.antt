-- `on_words::edits::add_on_words` meets its contract: each cause in its order, then the change. Assumes nothing.
use Rattle.std.proofs.Common.{sym}
use Rattle.lines.proofs.Found.{handed_on}
use Rattle.on_words.proofs.Changes.{add_unfit, add_miscounted, add_full, add_done, stops_few, raise_fits}
use Rattle.on_words.proofs.edits.add_on_words.Goals as goal

pub returns-in_err-check_pair : goal.returns-in_err-check_pair
returns-in_err-check_pair c = rw (handed_on c.from_residual.ensures.1) (add_unfit _ _ _ _ _ _ _ c.in_err-check_pair.ensures)

pub returns-in_err-check_count : goal.returns-in_err-check_count
returns-in_err-check_count c =
    rw (handed_on c.from_residual-in_err-check_count.ensures.1)
    (add_miscounted _ _ _ _ _ _ (sym c.in_ok-check_pair.ensures) _ c.in_err-check_count.ensures)

pub check_room-requires-clause-few : goal.check_room-requires-clause-few
check_room-requires-clause-few c = stops_few _ _ _ c.new-stops.ensures (sym c.in_ok-check_count.ensures)

pub returns-in_err-check_room : goal.returns-in_err-check_room
returns-in_err-check_room c =
    rw (handed_on c.from_residual-in_err-check_room.ensures.1)
    (add_full _ _ _ _ _ _ (sym c.in_ok-check_pair.ensures) (sym c.in_ok-check_count.ensures) c.new-stops.ensures _ c.in_err-check_room.ensures)

pub raise-count-requires : goal.raise-count-requires
raise-count-requires c =
    raise_fits _ _ _ _ _ _ (sym c.in_ok-check_pair.ensures) (sym c.in_ok-check_count.ensures) c.new-stops.ensures c.in_ok-check_room.ensures
    c.lookup-place.ensures c.requires.holds_list c.requires.fits

pub returns : goal.returns
returns c =
    add_done _ _ _ _ _ _ (sym c.in_ok-check_pair.ensures) (sym c.in_ok-check_count.ensures) c.new-stops.ensures c.in_ok-check_room.ensures
    c.lookup-place.ensures c.raise-count.ensures.held c.raise-count.ensures.after
