-- What the contract of the test of shares cites.
--   IsSplitOf    the split that shares make, or the refusal of shares that make none
-- Assumes nothing: this is a definition.
use Rattle.std.specs.Prelude.{◌≡◌, false, List as Listing, ℕ, Result, Ok, Err}
use Rattle.theory.specs.Splits.{shares_good}
use Rattle.lists.specs.declared.list.List.{List}
use Rattle.lists.specs.Listed.{listed}
use Rattle.refusals.specs.declared.Refusal.{Refusal}
use Rattle.refusals.specs.declared.Refusal.TheVariants.{ShareTooLarge}
use Rattle.verify.specs.declared.split.Split.{Split}

-- shares of the list's pairs at share size q make this split, or refusal 8 says that one is above its pair's units
abbrev pub IsSplitOf : List → (shares : Listing ℕ) → (q : ℕ) → Result Split Refusal → Type 0
IsSplitOf l xs q (Ok s) = (s.list ≡ l) × (s.shares.now ≡ xs) × (s.q ≡ q)
IsSplitOf l xs q (Err e) = (e ≡ ShareTooLarge) × (shares_good q (listed l).pairs xs ≡ false)
