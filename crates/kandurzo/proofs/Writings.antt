-- From the records to the words: what write_dimacs says of the words is what it says of the lent records.
--   write_refused, write_done    the call's promise, where it refuses and where it does not
-- Assumes nothing.
use mathlib.Core.Path.{◌≡◌, sym}
use mathlib.Core.Bool.{Bool}
use mathlib.Core.List.{List, []}
use Prim.Native.Nat.{ℕ}
use lib.ListN.{length}
use Rattle.std.proofs.Common.{Ok, Err}
use Rattle.theory.specs.Refusals.{if_taken}
use Rattle.theory.proofs.Refusals.{if_taken_old}
use Rattle.refusals.specs.declared.Refusal.{Refusal}
use Rattle.refusals.specs.Numbers.{number_of}
use Rattle.lines.proofs.Found.{numbered}
use Rattle.records.specs.declared.Pair.{Pair}
use Rattle.records.specs.declared.Head.{Head}
use Rattle.records.specs.Records.{agrees}
use Rattle.on_words.specs.declared.buffers.Buffer.{Buffer}
use Rattle.on_words.specs.Buffers.{any_short}
use Rattle.on_words.specs.Gate.{gate_number}
use Rattle.on_words.specs.Writing.{write_buffers, written_of, WriteOn}
use Rattle.kandurzo.specs.Laying.{Laid}
use Rattle.kandurzo.specs.Writing.{write_call_causes, WriteCall}
use Rattle.kandurzo.proofs.Gates.{gate_first}

module _ (h : Head) (ps : List Pair) (text : List ℕ)
    {lent : List Buffer} (is : lent ≡ write_buffers (length text)) where
  abbrev short : Bool
  short = any_short lent

  pub write_refused : (e : Refusal) → number_of e ≡ gate_number (agrees h ps) short → WriteCall h ps text (written_of (Err e)) text
  unfolding write_call_causes
  write_refused e f =
      record {
        number = rw is at (gate_first (agrees h ps) short [] f (numbered e));
        counted = sym (if_taken_old (number_of e) _ 0 (numbered e));
        bytes = sym (if_taken_old (number_of e) _ text (numbered e));
      }

  pub write_done : 0 ≡ gate_number (agrees h ps) short → {work words : List ℕ} → Laid h ps work words → {k : ℕ} {text' : List ℕ} →
      WriteOn h text words k text' → WriteCall h ps text (written_of (Ok k)) text'
  unfolding write_call_causes gate_number if_taken
  write_done f laid on = record { number = rw is at f; counted = rw laid.list at on.counted; bytes = rw laid.list at on.bytes }
