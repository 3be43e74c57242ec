-- `densest::sheet::write_shares` meets its contract: the shares of the pairs passed are written. Assumes nothing.
use Rattle.std.proofs.Common.{◌≡◌, ◌*◌, ◌<◌, ◌≤◌, true, cond, leb, min, max, length, get_or, refl, sym, ◌∙◌, arith, rules}
use Rattle.theory.specs.Splits.{units}
use Rattle.densest.specs.Gather.{first_left}
use Rattle.densest.proofs.Lasting.{last_pair}
use Rattle.densest.proofs.Sheets.{packed_at, packed_same, writing_start, writing_next, share_of}
use Rattle.densest.proofs.sheet.write_shares.Goals as goal

pub loop-share-init : goal.loop-share-init
loop-share-init c = writing_start _ _ _ _ _ _

pub loop-share-preserved : goal.loop-share-preserved
loop-share-preserved c =
    let w = c.loop-share.invariant in
    let r = c.requires in
    let j = c.loop-share.share-index in
    let pair = packed_at c.loop-share.shares j in
    let same = packed_same (omega arith) w in
    let a : pair.a < length c.args.scope.now = rw same (r.unpacks.first j (omega arith)) in
    let b : pair.b < length c.args.scope.now = rw same (r.unpacks.second j (omega arith)) in
    let inside = rw (← c.leaves_at-first.ensures) at (last_pair r.last.1 c.core_start-scope_from.ensures pair a b) in
    let counted = last_pair r.last.0 c.core_start-core_from.ensures pair (omega (arith, a)) (omega (arith, b)) in
    let test = leb c.core_start-scope_from.result c.leaves_at-first.result in
    let held = get_or c.args.hold.now (2 * c.loop-share.i) 0 in
    let small : test ≡ true → held ≤ 524288 = λ y. rw w.passed.place (r.small.small j (omega arith) (rw (← same) (inside ∙ y))) in
    let whole : c.forced.result ≡ cond (first_left c.args.place.now pair) (units (cond test 0 c.args.q) pair) 0 = search rules in
    let share : c.max.result ≡ max (min held (cond test 524288 0)) c.forced.result = search rules in
    let step : c.from-i.result ≡ cond (leb c.core_start-core_from.result c.leaves_at-first.result) 1 0 = search rules in
    writing_next (omega arith) w _ _ _ test _ (sym inside) refl (share_of test _ held _ _ _ pair small whole share)
    (rw c.leaves_at-first.ensures (sym counted)) step
