-- What start answers: a number of modules outside 1 to 512 is refused.
--   started_refused, started_done    where N is refused, and where it is not
-- Assumes nothing.
use mathlib.Core.Path.{◌≡◌, refl}
use Prim.Native.Nat.{ℕ}
use Rattle.theory.specs.Refusals.{refusal}
use Rattle.theory.proofs.Refusals.{if_taken_new, if_taken_old}
use Rattle.refusals.specs.declared.Refusal.{Refusal}
use Rattle.refusals.specs.Numbers.{number_of}
use Rattle.pairfile.specs.File.{modules_causes}
use Rattle.lines.proofs.Found.{numbered}
use Rattle.on_words.specs.Edits.{head_of}
use Rattle.kandurzo.specs.Listing.{started}

pub started_refused : (n : ℕ) (e : Refusal) → number_of e ≡ refusal (modules_causes n) →
    record { number = number_of e; head = record { n = 0; m = 0 } } ≡ started n
unfolding started head_of
started_refused n e f = rw (← f, if_taken_old (number_of e) (head_of n 0) (head_of 0 0) (numbered e))

pub started_done : (n : ℕ) → 0 ≡ refusal (modules_causes n) → record { number = 0; head = record { n = n; m = 0 } } ≡ started n
unfolding started head_of
started_done n f = rw (← f, if_taken_new 0 (head_of n 0) (head_of 0 0) refl)
