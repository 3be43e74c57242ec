-- `kits::kit` meets its contract: peel, and the modules whose place is not below the number of those that have left. Assumes nothing.
use native.Mathlib.Omega.{arith}
use Prim.Native.Nat.{◌≤◌}
use lib.Seq.{length-take-le}
use Rattle.theory.specs.Words.{list_in}
use Rattle.theory.proofs.Lists.{listed}
use Rattle.lists.specs.declared.list.List.{List}
use Rattle.kits.proofs.Kits.{kitted}
use Rattle.kits.proofs.kit.Goals as goal

-- a list has at most 512 modules
few : (l : List) → l.n ≤ 512
unfolding list_in
few l = (listed _ l.held.listed).few

pub peel-rest-requires : goal.peel-rest-requires
peel-rest-requires c =
    let l = few c.args.list in
    record { some = c.requires.some; few = c.requires.few; order_long = l; cores_long = l; place_long = l }

pub mark_at_least-requires : goal.mark_at_least-requires
mark_at_least-requires c =
    omega (arith, few c.args.list, c.peel-rest.auto.place, length-take-le c.args.list.n c.args.members.now c.requires.members_len)

pub returns : goal.returns
unfolding list_in
returns c =
    let long = length-take-le c.args.list.n c.args.members.now c.requires.members_len in
    kitted _ _ c.args.list.held.listed c.requires.some c.requires.few c.peel-rest.ensures _
    (omega (arith, c.mark_at_least.auto.group, long))
    (λ v l. c.mark_at_least.ensures v (omega (arith, long)))
    _
