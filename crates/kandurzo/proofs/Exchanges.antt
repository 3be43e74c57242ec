-- Lists that are written and read as DIMACS files: theorems of specs/Exchange.antt.
--   every_list_written     write_dimacs writes every list
--   written_read           a list of ones that is written and read is the same list
--   read_rewritten         an accepted file without comments, in list order and with the smaller module first, is rewritten byte for byte
--   comments_unread        taking the comments out of a file changes neither its number nor its list
-- Assumes nothing.
use mathlib.Core.Path.{◌≡◌, refl, sym, ap, ◌∙◌}
use mathlib.Core.Bool.{true}
use mathlib.Core.List.{List, []}
use Prim.Native.Nat.{ℕ}
use native.Mathlib.Omega.{arith}
use lib.ListN.{length, take}
use lib.Seq.{take_at}
use Rattle.theory.specs.Lists.{Pairs}
use Rattle.theory.specs.Refusals.{refusal, if_taken}
use Rattle.lines.specs.Outcomes.{taken}
use Rattle.dimacs.specs.Comments.{without_comments}
use Rattle.dimacs.specs.Edges.{read_lines, read_dimacs, dimacs_of}
use Rattle.dimacs.proofs.ReadsBack.{written_back}
use Rattle.dimacs.proofs.Accepts.{same_bytes}
use Rattle.dimacs.proofs.Lined.{comments_out}
use Rattle.records.specs.declared.Pair.{Pair}
use Rattle.records.specs.declared.Head.{Head}
use Rattle.records.specs.Records.{held_list, agrees}
use Rattle.on_words.specs.declared.Written.{Written}
use Rattle.on_words.specs.Buffers.{any_short, in_front}
use Rattle.on_words.specs.Gate.{gate_number}
use Rattle.kandurzo.specs.Listing.{as_records}
use Rattle.on_words.specs.Reading.{read_outcome}
use Rattle.on_words.specs.Writing.{write_buffers}
use Rattle.kandurzo.specs.Writing.{write_call_causes, WriteCall}
use Rattle.kandurzo.specs.Exchange.{EveryListWritten, WrittenRead, ReadRewritten, CommentsUnread}
use Rattle.kandurzo.proofs.Gates.{gate_open}
use Rattle.kandurzo.proofs.Taken.{held_is_list, length_held, held_records}
use Rattle.kandurzo.proofs.Demands.{lent_list, lent_passes, held_head, held_lent}
use Rattle.on_words.proofs.Readings.{reads_dimacs}
use Rattle.kandurzo.proofs.ReadKeeps.{read_agrees_after, read_holds, read_taken}

-- what is written of the list that is held
module _ {h : Head} {ps : List Pair} {text : List ℕ} {w : Written} {text' : List ℕ} (call : WriteCall h ps text w text') (z : w.number ≡ 0) where
  abbrev file : List ℕ
  file = dimacs_of (held_list h ps)

  counted : w.length ≡ length file
  unfolding if_taken
  counted = rw z at call.counted

  in_text : text' ≡ in_front file text
  unfolding if_taken
  in_text = rw z at call.bytes

  -- the first bytes are the file
  pub front : take w.length text' ≡ file
  unfolding in_front
  front = rw (counted, in_text) (take_at file _ (length file) refl)

  -- head and list agree
  pub agreed : agrees h ps ≡ true
  unfolding write_call_causes gate_number
  agreed = (gate_open (agrees h ps) (any_short (write_buffers (length text))) (sym call.number ∙ z)).0

pub every_list_written : EveryListWritten
unfolding EveryListWritten write_call_causes refusal
every_list_written g h ps text w text' lent long call =
    let z : w.number ≡ 0 = call.number ∙ lent_passes lent (write_buffers (length text)) [] long in
    (z, rw (lent_list lent) at (counted call z), rw (lent_list lent) at (in_text call z))

pub written_read : WrittenRead
unfolding WrittenRead
written_read h ps text w text' qs work r qs' work' call z once room long read =
    let ok = agreed call z in
    let g = held_list h ps in
    let due : read_dimacs (length qs) (take w.length text') ≡ taken g =
    rw (front call z) (written_back (length qs) g (held_is_list h ps ok) once (omega (arith, length_held h ps ok, room))) in
    let s = read_taken reads_dimacs read g long due in
    let same : r.head ≡ h = s.1 ∙ sym (held_head h ps ok) in
    (s.0, same, records same s.2 s.3 ok)
  where
    records : r.head ≡ h → held_list r.head qs' ≡ held_list h ps → agrees r.head qs' ≡ true → agrees h ps ≡ true → take h.m qs' ≡ take h.m ps
    records same held now ok =
        ap (λ (i : Head). take i.m qs') (sym same) ∙ sym (held_records r.head qs' now)
        ∙ ap (λ (x : Pairs). as_records x.pairs) held ∙ held_records h ps ok

pub read_rewritten : ReadRewritten
unfolding ReadRewritten write_call_causes refusal
read_rewritten bytes ps work r ps' work' text w text' read z plain order first long call =
    let g = held_list r.head ps' in
    let same : dimacs_of g ≡ bytes = same_bytes (length ps) bytes g (read_holds reads_dimacs read z).0 plain order first in
    let lent = held_lent r.head ps' (read_agrees_after reads_dimacs read z) in
    let n : w.number ≡ 0 = call.number ∙ lent_passes lent (write_buffers (length text)) [] long in
    (n, counted call n ∙ ap length same, front call n ∙ same)

-- what a file says without its comments
same_outcome : (room w : ℕ) (bytes : List ℕ) → read_outcome read_dimacs room w (without_comments bytes) ≡ read_outcome read_dimacs room w bytes
unfolding read_outcome read_dimacs
same_outcome room w bytes = rw (ap (read_lines room) (comments_out bytes))

pub comments_unread : CommentsUnread
unfolding CommentsUnread
comments_unread bytes ps work r ps' work' =
    let s = same_outcome (length ps) (length work) bytes in (
      λ c. record { number = rw s c.number; head = rw s c.head; records = rw s c.records; left = c.left },
      λ c. record { number = rw s at c.number; head = rw s at c.head; records = rw s at c.records; left = c.left },
    )
