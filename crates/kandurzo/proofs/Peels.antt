-- From the records to the words: what peel says of the words is what it says of the lent records.
--   peel_refused, peel_done    the call's promise, where it refuses and where it does not
-- Assumes nothing.
use mathlib.Core.Path.{◌≡◌, refl, sym, ◌∙◌}
use mathlib.Core.Bool.{Bool}
use mathlib.Core.List.{List}
use Prim.Native.Nat.{ℕ}
use lib.ListN.{length}
use Rattle.theory.specs.Refusals.{if_taken}
use Rattle.theory.proofs.Refusals.{if_taken_old}
use Rattle.refusals.specs.declared.Refusal.{Refusal}
use Rattle.refusals.specs.Numbers.{number_of}
use Rattle.lines.proofs.Found.{numbered}
use Rattle.records.specs.declared.Pair.{Pair}
use Rattle.records.specs.declared.Head.{Head}
use Rattle.records.specs.Records.{agrees}
use Rattle.on_words.specs.declared.buffers.Buffer.{Buffer}
use Rattle.on_words.specs.Buffers.{any_short}
use Rattle.on_words.specs.Gate.{gate_number}
use Rattle.on_words.specs.Peeling.{peel_buffers, PeelOn}
use Rattle.on_words.proofs.Filling.{left_open}
use Rattle.kandurzo.specs.Laying.{Laid}
use Rattle.kandurzo.specs.Peeling.{peel_call_causes, PeelCall}
use Rattle.kandurzo.proofs.Gates.{gate_left}

module _ (h : Head) (ps : List Pair) (order cores work : List ℕ)
    {lent : List Buffer} (is : lent ≡ peel_buffers h (length order) (length cores) (length work)) where
  abbrev short : Bool
  short = any_short lent

  pub peel_refused : (e : Refusal) → number_of e ≡ gate_number (agrees h ps) short → PeelCall h ps order cores work (number_of e) order cores work
  unfolding peel_call_causes gate_number
  peel_refused e f =
      record {
        number = rw is at f;
        order_is = sym (if_taken_old (number_of e) _ order (numbered e));
        cores_are = sym (if_taken_old (number_of e) _ cores (numbered e));
        left = gate_left (agrees h ps) short work f (numbered e);
      }

  pub peel_done : 0 ≡ gate_number (agrees h ps) short → {words order' cores' work' : List ℕ} → Laid h ps work words →
      PeelOn h order cores words order' cores' work' → PeelCall h ps order cores work 0 order' cores' work'
  unfolding peel_call_causes gate_number if_taken
  peel_done f laid on =
      record {
        number = rw is at f;
        order_is = rw laid.list at on.order_is;
        cores_are = rw laid.list at on.cores_are;
        left = on.left ∙ laid.left ∙ sym (left_open work refl);
      }
