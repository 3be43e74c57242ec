-- `read_full` meets its contract: each read gives the file's next bytes.
use Rattle.std.proofs.Common.{◌≡◌, ◌+◌, ◌-◌, ◌≤◌, subst, length, take, arith}
use Rattle.std.specs.Io.KnownBytes.{Consumes}
use borrow.Rule.Slice.PartMut.{put_mid}
use Rattle.texts.proofs.Consumed.{read_more, read_ends}
use Rattle.texts.proofs.reading.read_full.Goals as goal
use Rattle.texts.proofs.reading.read_full.Goals.{In_ok-n}

-- what has been consumed is in front of the buffer
consumed : (g : _) (c : In_ok-n g) →
    let from = c.loop-done.done in
    let after = put_mid from (length c.loop-done.buffer - from) c.loop-done.buffer c.read.new.buf in
    (from + c.in_ok-n.n ≤ length c.args.buffer.now)
    × Consumes (g.R.Read.remaining c.args.input.now) (g.R.Read.remaining c.read.new.self) (take (from + c.in_ok-n.n) after)
consumed g c = (
  omega (arith, c.loop-done.invariant.0, c.in_ok-n.ensures.bound.0, c.read.auto.buf, c.loop-done.auto.buffer),
  read_more _ _ _ c.loop-done.done c.in_ok-n.n c.loop-done.buffer c.read.new.buf (omega (arith, c.loop-done.invariant.0, c.loop-done.auto.buffer))
      c.in_ok-n.ensures.bound.0 c.loop-done.invariant.1 c.in_ok-n.ensures.bytes.0,
)

pub loop-done-preserved : goal.loop-done-preserved
loop-done-preserved g c = consumed g (goal.at.loop-done-preserved g c).In_ok-n

pub returns-then-n-eq0-clause-read : goal.returns-then-n-eq0-clause-read
returns-then-n-eq0-clause-read g c =
    let from = c.loop-done.done in
    let all = consumed g (goal.at.returns-then-n-eq0-clause-read g c).In_ok-n in
    let same : from + c.in_ok-n.n ≡ from = omega (arith, c.if-n-eq0.true) in
    let after = put_mid from (length c.loop-done.buffer - from) c.loop-done.buffer c.read.new.buf in
    read_ends g.row.DECIDE (length c.args.buffer.now) from _ _ after c.requires.decides (omega (arith, all.0))
    (subst (λ k. Consumes (g.R.Read.remaining c.args.input.now) (g.R.Read.remaining c.read.new.self) (take k after)) same all.1)
    (c.in_ok-n.ensures.bytes.1 c.if-n-eq0.true (omega (arith, c.loop-done-test.true, c.read.auto.buf)))
