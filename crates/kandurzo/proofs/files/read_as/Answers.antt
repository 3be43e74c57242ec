-- `kandurzo::files::read_as` meets its contract: what is read to words is what comes into the lent records. Assumes nothing.
use mathlib.Core.Path.{◌≡◌}
use native.Mathlib.Omega.{arith}
use Prim.Native.Nat.{◌≤◌}
use lib.ListN.{length}
use Rattle.std.proofs.Common.{rules, Err}
use Rattle.refusals.specs.declared.Refusal.TheVariants.{BufferTooShort}
use Rattle.kandurzo.proofs.Readings.{read_short, read_refused, read_back, read_done}
use Rattle.kandurzo.proofs.files.read_as.Goals as goal
use Rattle.kandurzo.proofs.files.read_as.Goals.{in-Err, in-Ok}

pub returns-in-Err-BufferTooShort : goal.returns-in-Err-BufferTooShort
returns-in-Err-BufferTooShort g c =
    let short : c.read_on_words-read.result ≡ Err BufferTooShort = search rules in
    rw short (read_short _ _ _ _ (rw short at c.read_on_words-read.ensures))

pub copy_in-requires : goal.copy_in-requires
copy_in-requires g c =
    let long : 16384 ≤ length c.args.work.now = grind arith in
    read_back _ _ _ _ long (c.in-Ok.ensures.long long) (omega arith)

pub returns : goal.returns
returns g c =
    let long : 16384 ≤ length c.args.work.now = grind arith in
    elim c.match-read.branch [
      | in-Err w ↦ rw (w.in-Err.is, w.list-is, c.clear.ensures) (read_refused _ _ _ _ long _ (w.in-Err.ensures.long long))
      | in-Ok w ↦ rw (w.in-Ok.is, w.list-is, w.copy_in.ensures.read, c.clear.ensures) (read_done _ _ _ _ long (w.in-Ok.ensures.long long))
    ]
