-- One theorem for each statement of specs/Promise.antt, in its order, and of specs/Cases.antt.
--   weak_duality, equal_best, check_best, accepted_exactly, accepted_optimal, best_accepted    ratio and greatest load over share size
--   found_there, found_alone, found_outright, found_largest, found_no_pairs, union_densest, shared_densest    the found group
--   split_densest, split_there    its split
--   found_in_core, core_exact, core_members    cores
--   leaver_fewest to outside_first    the leaving order
--   first_given, none_given    refusals
--   floats_in_order, ratios_in_order, rounded_once, surplus_signed    ratios
--   starred_cases    the ten starred cases
-- Assumes nothing.
use Rattle.theory.specs.Promise.{WeakDuality, EqualBest, CheckBest, AcceptedExactly, AcceptedOptimal, BestAccepted, FoundThere, FoundAlone}
use Rattle.theory.specs.Promise.{FoundOutright, FoundLargest, FoundNoPairs}
use Rattle.theory.specs.Promise.{SplitDensest, SplitThere, FoundInCore, CoreExact, CoreMembers, UnionDensest, SharedDensest, LeaverFewest}
use Rattle.theory.specs.Promise.{LeaverLowest, LeaverThere, LeavingSteps, LeavingEveryone, LeaverCore, CoresNeverFall, OutsideFirst}
use Rattle.theory.specs.Promise.{FirstGiven, NoneGiven, FloatsInOrder, RatiosInOrder, RoundedOnce, SurplusSigned}
use Rattle.theory.specs.Cases.{StarredCases}
use Rattle.theory.proofs.Densest as densest
use Rattle.theory.proofs.Duality as duality
use Rattle.theory.proofs.Best as best
use Rattle.theory.proofs.Cores as cores
use Rattle.theory.proofs.Leaving as order
use Rattle.theory.proofs.Peeling as peeling
use Rattle.theory.proofs.Splits as splits
use Rattle.theory.proofs.Refusals as refusals
use Rattle.theory.proofs.Floats as floats
use Rattle.theory.proofs.Bounds as bounds
use Rattle.theory.proofs.Surplus as difference
use Rattle.theory.proofs.Cases as cases

-- ---- ratio and greatest load over share size

pub weak_duality : WeakDuality
weak_duality = duality.weak_duality

pub equal_best : EqualBest
equal_best = duality.equal_best best.found_there splits.split_there

pub check_best : CheckBest
check_best = duality.check_best

pub accepted_exactly : AcceptedExactly
accepted_exactly = duality.accepted_exactly

pub accepted_optimal : AcceptedOptimal
accepted_optimal = duality.accepted_optimal

pub best_accepted : BestAccepted
best_accepted = duality.best_accepted best.found_there splits.split_there

-- ---- the found group

pub found_there : FoundThere
found_there = best.found_there

pub found_alone : FoundAlone
found_alone = densest.found_alone

pub found_outright : FoundOutright
found_outright = best.found_outright

pub found_largest : FoundLargest
found_largest = densest.found_largest

pub found_no_pairs : FoundNoPairs
found_no_pairs = densest.found_no_pairs

pub union_densest : UnionDensest
union_densest = densest.union_densest

pub shared_densest : SharedDensest
shared_densest = densest.shared_densest

-- ---- its split

pub split_densest : SplitDensest
split_densest = splits.split_densest

pub split_there : SplitThere
split_there = splits.split_there

-- ---- cores

pub found_in_core : FoundInCore
found_in_core = cores.found_in_core

pub core_exact : CoreExact
core_exact = cores.core_exact

pub core_members : CoreMembers
core_members = cores.core_members

-- ---- the leaving order

pub leaver_fewest : LeaverFewest
leaver_fewest = order.leaver_fewest

pub leaver_lowest : LeaverLowest
leaver_lowest = order.leaver_lowest

pub leaver_there : LeaverThere
leaver_there = order.leaver_there

pub leaving_steps : LeavingSteps
leaving_steps = order.leaving_steps

pub leaving_everyone : LeavingEveryone
leaving_everyone = order.leaving_everyone

pub leaver_core : LeaverCore
leaver_core = peeling.leaver_core

pub cores_never_fall : CoresNeverFall
cores_never_fall = peeling.cores_never_fall

pub outside_first : OutsideFirst
outside_first = order.outside_first

-- ---- refusals

pub first_given : FirstGiven
first_given = refusals.first_given

pub none_given : NoneGiven
none_given = refusals.none_given

-- ---- ratios

pub floats_in_order : FloatsInOrder
floats_in_order = floats.floats_in_order

pub ratios_in_order : RatiosInOrder
ratios_in_order = bounds.ratios_in_order

pub rounded_once : RoundedOnce
rounded_once = floats.rounded_once

pub surplus_signed : SurplusSigned
surplus_signed = difference.surplus_signed

-- ---- the ten starred lists

pub starred_cases : StarredCases
starred_cases = cases.starred_cases
