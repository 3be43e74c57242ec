-- What the loop of `densest::sheet::write_shares` keeps: the shares of the pairs passed are written.
use Rattle.std.proofs.Common.{length}
use Rattle.densest.proofs.Sheets.{Writing}
use Rattle.densest.proofs.sheet.write_shares.Given as goal

abbrev pub invariant-loop-share : goal.invariant-loop-share
invariant-loop-share l = Writing (length l.initial.shares) l.share-index l.i l.q l.core l.scope l.place l.hold l.initial.shares l.shares
