-- `densest::sheet::core_start` meets its contract: the place is that of the modules passed. Assumes nothing.
use Rattle.std.proofs.Common.{◌≡◌, cond, min, max, get_or, rules}
use Rattle.theory.specs.Groups.{is_in}
use Rattle.densest.proofs.Lasting.{first_start, first_next}
use Rattle.densest.proofs.sheet.core_start.Goals as goal

pub loop-v-init : goal.loop-v-init
loop-v-init c = first_start _ _

pub loop-v-preserved : goal.loop-v-preserved
unfolding is_in
loop-v-preserved c =
    let floor : c.if-byte-eq1.floor ≡ cond (is_in c.args.group.now c.loop-v.v) 0 1024 = search rules in
    let first : c.min-first.result ≡ min c.loop-v.first (max (get_or c.args.place.now c.loop-v.v 0) c.if-byte-eq1.floor) = search rules in
    rw first (first_next _ c.loop-v.invariant floor)
