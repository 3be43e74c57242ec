-- `kandurzo::changes::found` meets its contract: what the lookup finds among the held records. Assumes nothing.
use Rattle.theory.specs.Basics.{mark}
use Rattle.lines.proofs.Found.{handed_on}
use Rattle.kandurzo.proofs.Placings.{place_disagrees, place_unfit, place_done}
use Rattle.kandurzo.proofs.changes.found.Goals as goal

pub returns-in_err-held : goal.returns-in_err-held
returns-in_err-held c = rw (handed_on c.from_residual.ensures.1) (place_disagrees _ _ _ _ _ c.in_err-held.ensures.number)

pub returns-in_err-check_pair : goal.returns-in_err-check_pair
returns-in_err-check_pair c =
    rw (handed_on c.from_residual-in_err-check_pair.ensures.1)
    (place_unfit _ _ _ _ c.in_ok-held.ensures.agreed _ c.in_err-check_pair.ensures)

pub returns-in-Ok : goal.returns-in-Ok
unfolding mark
returns-in-Ok c =
    place_done _ _ _ _ c.in_ok-held.ensures.agreed c.in_ok-check_pair.ensures c.min.ensures c.max.ensures c.in_ok-held.ensures.records
    c.in-Ok.ensures

pub returns-in-Err : goal.returns-in-Err
unfolding mark
returns-in-Err c =
    place_done _ _ _ _ c.in_ok-held.ensures.agreed c.in_ok-check_pair.ensures c.min.ensures c.max.ensures c.in_ok-held.ensures.records
    c.in-Err.ensures
