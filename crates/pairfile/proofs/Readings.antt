-- What a reader of words hands over, for its callers.
--   file_numbers       a pair file is refused by 1 to 6, 10, 11 and 18 alone
--   Sound, file_sound  what a reader takes is a list
--   reading_holds      it lies in the words as a list is held
--   reading_past       the words past those of 4,096 pairs are as they were
-- Assumes nothing.
use mathlib.Core.Path.{◌≡◌, refl}
use mathlib.Core.Bool.{true}
use mathlib.Core.List.{List, []}
use Prim.Native.Nat.{ℕ, zero, suc, ◌+◌, ◌≤◌}
use native.Mathlib.Omega.{arith}
use lib.ListN.{length, drop}
use Rattle.std.proofs.Common.{Result, Ok}
use Rattle.theory.specs.Basics.{all}
use Rattle.theory.specs.Lists.{Pair, Pairs, is_list}
use Rattle.theory.specs.Words.{laid_list, HoldsList}
use Rattle.theory.specs.Refusals.{cause}
use Rattle.theory.proofs.Lists.{listed}
use Rattle.pairs.specs.Held.{insert_pair}
use Rattle.pairs.proofs.General.{drop_more}
use Rattle.lines.specs.Text.{between}
use Rattle.lines.specs.Outcomes.{Outcome, refused, taken, outcome_of}
use Rattle.lines.specs.Lines.{first}
use Rattle.lines.proofs.Taken.{Given, given_taken, given_bind, given_judge}
use Rattle.pairfile.specs.File.{
  modules_form,
  pairs_form,
  modules_causes,
  modules_line,
  pairs_causes,
  pairs_line,
  pair_line,
  end_causes,
  read_pairs,
  read_file,
}
use Rattle.refusals.specs.declared.Refusal.{Refusal}
use Rattle.records.specs.declared.Head.{Head}
use Rattle.pairfile.specs.Answers.{pairs_used, WordsRead}
use Rattle.pairfile.proofs.Taken.{is_file_number, number_range, head_given, pair_given}
use Rattle.pairfile.proofs.Accepts.{accepted}

-- the refusal numbers of the pair lines, and of the whole file
pairs_given : (n left : ℕ) (held : List Pair) (bs : List ℕ) → Given is_file_number (read_pairs n left held bs)
unfolding read_pairs
pairs_given n zero held bs =
    given_judge (end_causes bs) (taken held) (unfold end_causes cause all is_file_number between in refl) (given_taken held)
pairs_given n (suc left) held bs =
    given_bind (pair_line n held bs) _ (pair_given n held bs) (λ l. pairs_given n left (insert_pair l.pair held) l.rest)

file_given : (room : ℕ) (bs : List ℕ) → Given is_file_number (read_file room bs)
unfolding read_file modules_line pairs_line
file_given room bs =
    given_bind (modules_line bs) _
    (head_given modules_form bs modules_causes (λ n. unfold modules_causes cause all is_file_number between in refl))
    (λ l. given_bind (pairs_line room l.rest) _
    (head_given pairs_form l.rest (pairs_causes room) (λ m. unfold pairs_causes cause all is_file_number between in refl))
    (λ k. given_bind (read_pairs (first l) (first k) [] k.rest) _ (pairs_given (first l) (first k) [] k.rest)
    (λ ps. given_taken _)))

-- none of them is 0, 12 or 13
pub file_numbers : (room : ℕ) (bs : List ℕ) (k : ℕ) → read_file room bs ≡ refused k → (1 ≤ k) × (k ≡ 12 → ⊥) × (k ≡ 13 → ⊥)
file_numbers room bs k e = number_range k ((file_given room bs).by k e)

-- what every reader takes is a list
pub record Sound (due : Outcome Pairs) : Type 0 where
  pub list : (g : Pairs) → due ≡ taken g → is_list g ≡ true

pub file_sound : (room : ℕ) (bs : List ℕ) → Sound (read_file room bs)
file_sound room bs = record { list = λ g e. (accepted room bs g e).list }

module _ {due : Outcome Pairs} {old words : List ℕ} (s : Sound due) where
  -- what is taken lies in the words as a list is held
  pub reading_holds : {head : Head} → WordsRead due old words (Ok head) → 12288 ≤ length words → HoldsList head.n head.m words
  unfolding outcome_of
  reading_holds {head} f l = record { listed = s.list (laid_list head.n head.m words) f.found; long = l }

  -- the words past those of 4,096 pairs are as they were
  pub reading_past : {r : Result Head Refusal} → WordsRead due old words r → drop 12288 words ≡ drop 12288 old
  unfolding pairs_used
  reading_past f = drop_more (8192 + pairs_used due) 12288 words old (omega (arith, used_few due refl)) f.past.beyond
    where
      used_few : (o : Outcome Pairs) → due ≡ o → pairs_used o ≤ 4096
      used_few (refused k) e = omega arith
      used_few (taken g) e = (listed g (s.list g e)).short
