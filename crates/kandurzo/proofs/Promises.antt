-- One theorem for each statement of specs/Promise.antt, specs/Keeping.antt, specs/Twice.antt, specs/Placing.antt and specs/Exchange.antt, in their order.
--   lent_held, every_list_peeled, every_list_solved, every_list_judged, every_list_compared, no_stops_no_group    every list
--   every_list_kitted, kit_turned_down    kits
--   refusals_keep, unsplit_never, fifteen_never    refusals
--   peel_exact, check_exact, solve_alone, solve_accepted, records_in_order    answers
--   held_once, either_way_round, add_exactly, remove_exactly, add_holds, remove_drops, thirteen_never_follows    one pair more, one pair less
--   arrival_traceless, any_order_taken, one_at_a_time, every_list_added, same_pairs_same_records, add_undone    the order of arrival
--   every_file_read, read_exact    read
--   five_before_four, otherwise_as_before    5 before 4
--   add_puts_there, add_raises_there, remove_takes_there, refused_as_remove, every_place_answered    where a pair stands
--   every_list_written, written_read, read_rewritten, comments_unread, read_dimacs_exact, every_dimacs_read    read_dimacs and write_dimacs
-- Assumes nothing.
use Rattle.kandurzo.specs.Promise.{LentHeld, EveryListPeeled, EveryListSolved, EveryListJudged, EveryListCompared, NoStopsNoGroup, RefusalsKeep, UnsplitNever}
use Rattle.kandurzo.specs.Promise.{EveryListKitted, KitTurnedDown, FifteenNever, PeelExact, CheckExact, SolveAlone, SolveAccepted, RecordsInOrder}
use Rattle.kandurzo.specs.Keeping.{HeldOnce, EitherWayRound, AddExactly, RemoveExactly, AddHolds, RemoveDrops, ThirteenNeverFollows, EveryFileRead, ReadExact}
use Rattle.kandurzo.specs.Keeping.{ArrivalTraceless, AnyOrderTaken, OneAtATime, EveryListAdded, SamePairsSameRecords, AddUndone}
use Rattle.kandurzo.specs.Twice.{FiveBeforeFour, OtherwiseAsBefore}
use Rattle.kandurzo.specs.Placing.{AddPutsThere, AddRaisesThere, RemoveTakesThere, RefusedAsRemove, EveryPlaceAnswered}
use Rattle.kandurzo.specs.Exchange.{EveryListWritten, WrittenRead, ReadRewritten, CommentsUnread, ReadDimacsExact, EveryDimacsRead}
use Rattle.on_words.proofs.Readings.{reads_file, reads_dimacs}
use Rattle.kandurzo.proofs.Exchanges as exchange
use Rattle.kandurzo.proofs.Demands as demands
use Rattle.kandurzo.proofs.Exact as exact
use Rattle.kandurzo.proofs.Solves as solves
use Rattle.kandurzo.proofs.Kits as kits
use Rattle.kandurzo.proofs.Keeping as keeping
use Rattle.kandurzo.proofs.Arrivals as arrivals
use Rattle.kandurzo.proofs.ReadKeeps as reading
use Rattle.kandurzo.proofs.Twice as twice
use Rattle.kandurzo.proofs.AtPlace as placing

-- ---- every list

pub lent_held : LentHeld
lent_held = demands.lent_held

pub every_list_peeled : EveryListPeeled
every_list_peeled = demands.every_list_peeled

pub every_list_solved : EveryListSolved
every_list_solved = demands.every_list_solved

pub every_list_judged : EveryListJudged
every_list_judged = demands.every_list_judged

pub every_list_compared : EveryListCompared
every_list_compared = demands.every_list_compared

pub no_stops_no_group : NoStopsNoGroup
no_stops_no_group = demands.no_stops_no_group

-- ---- kits

pub every_list_kitted : EveryListKitted
every_list_kitted = kits.every_list_kitted

pub kit_turned_down : KitTurnedDown
kit_turned_down = kits.kit_turned_down

-- ---- refusals

pub refusals_keep : RefusalsKeep
refusals_keep = demands.refusals_keep

pub unsplit_never : UnsplitNever
unsplit_never = solves.unsplit_never

pub fifteen_never : FifteenNever
fifteen_never = demands.fifteen_never

-- ---- answers

pub peel_exact : PeelExact
peel_exact = exact.peel_exact

pub check_exact : CheckExact
check_exact = exact.check_exact

pub solve_alone : SolveAlone
solve_alone = exact.solve_alone

pub solve_accepted : SolveAccepted
solve_accepted = exact.solve_accepted

pub records_in_order : RecordsInOrder
records_in_order = solves.records_in_order

-- ---- one pair more, one pair less

pub held_once : HeldOnce
held_once = keeping.held_once

pub either_way_round : EitherWayRound
either_way_round = keeping.either_way_round

pub add_exactly : AddExactly
add_exactly = keeping.add_exactly

pub remove_exactly : RemoveExactly
remove_exactly = keeping.remove_exactly

pub add_holds : AddHolds
add_holds = keeping.add_holds

pub remove_drops : RemoveDrops
remove_drops = keeping.remove_drops

pub thirteen_never_follows : ThirteenNeverFollows
thirteen_never_follows =
    record {
      start = keeping.start_agrees;
      add = keeping.add_agrees;
      remove = keeping.remove_agrees;
      read = λ bytes ps work r ps' work' call z. reading.read_agrees_after reads_file call z;
      read_dimacs = λ bytes ps work r ps' work' call z. reading.read_agrees_after reads_dimacs call z;
    }

-- ---- the order of arrival

pub arrival_traceless : ArrivalTraceless
arrival_traceless = arrivals.arrival_traceless

pub any_order_taken : AnyOrderTaken
any_order_taken = arrivals.any_order_taken

pub one_at_a_time : OneAtATime
one_at_a_time = arrivals.one_at_a_time

pub every_list_added : EveryListAdded
every_list_added = arrivals.every_list_added

pub same_pairs_same_records : SamePairsSameRecords
same_pairs_same_records = keeping.same_pairs_same_records

pub add_undone : AddUndone
add_undone = keeping.add_undone

-- ---- read

pub every_file_read : EveryFileRead
every_file_read = reading.every_file_read

pub read_exact : ReadExact
read_exact = reading.read_exact

-- ---- 5 before 4

pub five_before_four : FiveBeforeFour
five_before_four = twice.five_before_four

pub otherwise_as_before : OtherwiseAsBefore
otherwise_as_before = twice.otherwise_as_before

-- ---- where a pair stands

pub add_puts_there : AddPutsThere
add_puts_there = placing.add_puts_there

pub add_raises_there : AddRaisesThere
add_raises_there = placing.add_raises_there

pub remove_takes_there : RemoveTakesThere
remove_takes_there = placing.remove_takes_there

pub refused_as_remove : RefusedAsRemove
refused_as_remove = placing.refused_as_remove

pub every_place_answered : EveryPlaceAnswered
every_place_answered = placing.every_place_answered

-- ---- read_dimacs and write_dimacs

pub every_list_written : EveryListWritten
every_list_written = exchange.every_list_written

pub written_read : WrittenRead
written_read = exchange.written_read

pub read_rewritten : ReadRewritten
read_rewritten = exchange.read_rewritten

pub comments_unread : CommentsUnread
comments_unread = exchange.comments_unread

pub read_dimacs_exact : ReadDimacsExact
read_dimacs_exact = reading.read_dimacs_exact

pub every_dimacs_read : EveryDimacsRead
every_dimacs_read = reading.every_dimacs_read
