-- Add and remove by their contracts alone.
--   Call                                   what a call's contract speaks of, at its arguments
--   Outcome, add_outcome, remove_outcome   the one answer and the one list that a call's contract allows
-- Assumes nothing.
use mathlib.Core.Path.{◌≡◌, refl}
use mathlib.Core.List.{List}
use Prim.Native.Nat.{ℕ, ◌-◌}
use Rattle.theory.specs.Refusals.{if_taken}
use Rattle.records.specs.declared.Pair.{Pair}
use Rattle.records.specs.declared.Head.{Head}
use Rattle.kandurzo.specs.declared.Changed.{Changed}
use Rattle.on_words.specs.Edits.{head_of}
use Rattle.kandurzo.specs.Listing.{add_number, pairs_then, added, AddSays, remove_number, removed, RemoveSays}

-- what a call's contract speaks of, at its arguments: the answer, and the list after it
abbrev pub Call : Type 1
Call = Changed → List Pair → Type 0

-- what a call is: what it answers and leaves, and that its contract allows nothing else
pub record Outcome (Says : Call) : Type 0 where
  pub answer : Changed
  pub left : List Pair
  pub says : Says answer left
  pub only : (r : Changed) (qs : List Pair) → Says r qs → (r ≡ answer) × (qs ≡ left)

pub add_outcome : (h : Head) (ps : List Pair) (a b w : ℕ) → Outcome (AddSays h ps a b w)
add_outcome h ps a b w = record {
  answer = record { number = add_number h ps a b w; head = if_taken (add_number h ps a b w) (head_of h.n (pairs_then h ps a b)) h };
  left = if_taken (add_number h ps a b w) (added h ps a b w) ps;
  says = record { number = refl; head = refl; list = refl };
  only = λ r qs e. (λ i. record { number = e.number i; head = e.head i }, e.list);
}

pub remove_outcome : (h : Head) (ps : List Pair) (a b : ℕ) → Outcome (RemoveSays h ps a b)
remove_outcome h ps a b = record {
  answer = record { number = remove_number h ps a b; head = if_taken (remove_number h ps a b) (head_of h.n (h.m - 1)) h };
  left = if_taken (remove_number h ps a b) (removed h ps a b) ps;
  says = record { number = refl; head = refl; list = refl };
  only = λ r qs e. (λ i. record { number = e.number i; head = e.head i }, e.list);
}
