-- What is right of the bytes that were read is right of the whole file.
--   read_as, grouped_as                    of a pair file
--   group_read, sheet_read, audit_read     GroupRead, SheetRead, AuditRead
--   sheet_answered                         SheetAnswered: `audit` accepts what `sheet` prints
--   pairless_turned                        PairlessTurned: of a file without pairs all three print 20
-- Assumes nothing.
use mathlib.Core.Path.{◌≡◌, refl, ap, ◌∙◌}
use mathlib.Core.List.{List}
use Prim.Native.Nat.{ℕ}
use lib.ListN.{length}
use Rattle.theory.specs.Lists.{Pairs}
use Rattle.lines.specs.Outcomes.{refused, ◌>>=◌}
use Rattle.pairfile.specs.File.{read_file, group_list}
use Rattle.pairfile.specs.Promise.{ReadsFirst}
use Rattle.pairfile.proofs.Promises.{reads_first}
use Rattle.pairfile.proofs.Grouped.{group_pairless, group_first}
use Rattle.sheetfile.specs.Audit.{audit}
use Rattle.sheetfile.specs.Promise.{AuditFirst}
use Rattle.sheetfile.proofs.Prefix.{audit_first}
use Rattle.texts.specs.Texts.{group_printed, certificate, audit_text}
use Rattle.texts.specs.Printed.{SheetDue, SheetPrinted, ReadOf, GroupRead, SheetRead, AuditRead, SheetAnswered, PairlessTurned}

module _ {bytes file : List ℕ} (e : ReadOf 65536 bytes file) where
  -- what was read is taken or refused as the whole file is
  pub read_as : read_file 4096 bytes ≡ read_file 4096 file
  unfolding ReadsFirst
  read_as = ap (read_file 4096) e.front ∙ reads_first 4096 e.room file e.enough

  -- and its group is asked for alike
  grouped_as : group_list bytes ≡ group_list file
  grouped_as = ap group_list e.front ∙ group_first file e.room e.enough

  sheet_same : {s text : List ℕ} → (g : Pairs) → SheetDue bytes g s text → SheetDue file g s text
  unfolding audit
  sheet_same g d = record {
    shares = d.shares;
    optimal = d.optimal;
    outside = d.outside;
    is = d.is;
    accepted = rw (← grouped_as) d.accepted;
  }

pub group_read : {bytes text : List ℕ} → text ≡ group_printed (group_list bytes) → GroupRead bytes text
group_read is = record { due = λ file e. is ∙ ap group_printed (grouped_as e) }

pub sheet_read : {bytes text : List ℕ} → SheetPrinted bytes text → SheetRead bytes text
sheet_read o = record {
  due = λ file e. record { taken = λ g t. sheet_same e g (o.taken g (grouped_as e ∙ t)); refused = λ k t. o.refused k (grouped_as e ∙ t) };
}

pub audit_read : {bytes bytes' text : List ℕ} → text ≡ audit_text (audit bytes bytes') → AuditRead bytes bytes' text
unfolding AuditFirst
audit_read is = record {
  due = λ file sheet e f. is ∙ rw (e.front, f.front) (ap audit_text (audit_first e.room f.room file sheet e.enough f.enough));
}

pub sheet_answered : SheetAnswered
unfolding SheetAnswered audit_text certificate
sheet_answered bytes out out' r p file h g e = rw (p.front, ((p.right.due file h).taken g e).accepted)

pub pairless_turned : PairlessTurned
unfolding PairlessTurned group_printed audit_text audit ◌>>=◌
pairless_turned file g e none =
    let turned : group_list file ≡ refused 20 = group_pairless file g e (ap length none) in
    record {
      group = rw turned refl;
      sheet = λ text printed. printed.refused 20 turned;
      audit = λ sheet. rw turned refl;
    }
