-- Lines of one form, as the parts of a text.
--   all_given, next_there, next_absent, no_given  all lines are left; a line in front of those that are left, or none; no line is left
--   member_numbers, number_numbers, share_numbers the numbers of a line for each member, of each core number and of each share
--   members_given, numbers_given, shares_given    the lines of these numbers
-- Assumes nothing.
use Rattle.std.proofs.Common.{◌≡◌, refl, ap, ◌∙◌, ℕ, zero, suc, ◌+◌, ◌*◌, ◌-◌, ◌≤◌, ◌<◌, Bool, true, false, cond, eqb, List, [], ◌∷◌, ◌++◌, Some, None, length, get_or, drop, add-one, arith}
use Rattle.std.specs.Bool.{then_some}
use lib.ListN.{drop_of_length-le}
use lib.Seq.{drop-cons}
use Rattle.theory.specs.Lists.{Pair, pair}
use Rattle.theory.specs.Words.{word_pair, pairs_in}
use Rattle.theory.proofs.Words.{length_pairs_in, pairs_in_at}
use Rattle.lines.specs.Text.{text, between}
use Rattle.lines.specs.Lines.{is_place, filled}
use Rattle.sheetfile.specs.Sheet.{member_form, number_form, share_form}
use Rattle.sheetfile.specs.Writer.{member_lines, number_lines, share_lines}
use Rattle.texts.specs.Filling.{Numbers, given_line, given_lines}

pub all_given : (form : List ℕ) (f : Numbers) (count : ℕ) → given_lines form f 0 (count - 0) ≡ given_lines form f 0 count
all_given form f count = ap (λ (k : ℕ). given_lines form f 0 k) (omega arith)

module _ (form : List ℕ) (f : Numbers) (i count : ℕ) where
  -- line i is in front of those that are left
  next_given : i < count → given_lines form f i (count - i) ≡ given_line form (f i) ++ given_lines form f (i + 1) (count - (i + 1))
  unfolding given_lines
  next_given h =
      let more : count - i ≡ suc (count - (i + 1)) = omega arith in
      rw (more, add-one i) refl

  -- it is there, or not
  pub next_there : {ns : List ℕ} → i < count → f i ≡ Some ns →
      given_lines form f i (count - i) ≡ filled form ns ++ given_lines form f (i + 1) (count - (i + 1))
  unfolding given_line
  next_there h e = next_given h ∙ rw e refl

  pub next_absent : i < count → f i ≡ None → given_lines form f i (count - i) ≡ given_lines form f (i + 1) (count - (i + 1))
  unfolding given_line
  next_absent h e = next_given h ∙ rw e refl

  -- no line is left
  pub no_given : count ≤ i → given_lines form f i (count - i) ≡ []
  unfolding given_lines
  no_given h =
      let none : count - i ≡ 0 = omega arith in
      rw none refl

-- ---- a line for each member byte that is 1

abbrev pub member_numbers : (members : List ℕ) → Numbers
member_numbers ms v = then_some (eqb (get_or ms v 0) 1) (v ∷ 0 ∷ 0 ∷ [])

member_line : (b : Bool) (v : ℕ) → given_line member_form (then_some b (v ∷ 0 ∷ 0 ∷ [])) ≡ cond b (filled member_form (v ∷ [])) []
unfolding given_line filled member_form text is_place between
member_line true v = refl
member_line false v = refl

members_from : (ms : List ℕ) (v left : ℕ) → v + left ≡ length ms → given_lines member_form (member_numbers ms) v left ≡ member_lines v (drop v ms)
unfolding given_lines member_lines
members_from ms v zero e = rw (drop_of_length-le ms {i = v} (omega (arith, e))) refl
members_from ms v (suc left) e =
    rw (drop-cons ms v 0 (omega (arith, e)), member_line (eqb (get_or ms v 0) 1) v, members_from ms (suc v) left (omega (arith, e))) refl

pub members_given : (ms : List ℕ) → given_lines member_form (member_numbers ms) 0 (length ms) ≡ member_lines 0 ms
members_given ms = members_from ms 0 (length ms) (omega arith)

-- ---- a line for each core number

abbrev pub number_numbers : (cores : List ℕ) → Numbers
number_numbers cs v = Some (get_or cs v 0 ∷ 0 ∷ 0 ∷ [])

number_line : (c : ℕ) → given_line number_form (Some (c ∷ 0 ∷ 0 ∷ [])) ≡ filled number_form (c ∷ [])
unfolding given_line filled number_form text is_place between
number_line c = refl

numbers_from : (cs : List ℕ) (v left : ℕ) → v + left ≡ length cs → given_lines number_form (number_numbers cs) v left ≡ number_lines (drop v cs)
unfolding given_lines number_lines
numbers_from cs v zero e = rw (drop_of_length-le cs {i = v} (omega (arith, e))) refl
numbers_from cs v (suc left) e =
    rw (drop-cons cs v 0 (omega (arith, e)), number_line (get_or cs v 0), numbers_from cs (suc v) left (omega (arith, e))) refl

pub numbers_given : (cs : List ℕ) → given_lines number_form (number_numbers cs) 0 (length cs) ≡ number_lines cs
numbers_given cs = numbers_from cs 0 (length cs) (omega arith)

-- ---- a line for each pair

abbrev pub share_numbers : (ends shares : List ℕ) → Numbers
share_numbers es xs j = Some (get_or es (2 * j) 0 ∷ get_or es (2 * j + 1) 0 ∷ get_or xs j 0 ∷ [])

module _ (m : ℕ) (es ws xs : List ℕ) where
  abbrev pairs : List Pair
  pairs = pairs_in m es ws

  shares_from : (j left : ℕ) → j + left ≡ length xs → length xs ≡ m →
      given_lines share_form (share_numbers es xs) j left ≡ share_lines (drop j pairs) (drop j xs)
  unfolding given_lines given_line share_lines word_pair
  shares_from j zero e h =
      rw (drop_of_length-le pairs {i = j} (omega (arith, e, h, length_pairs_in m es ws))) refl
  shares_from j (suc left) e h =
      rw (
        drop-cons pairs j (pair 0 0) (omega (arith, e, h, length_pairs_in m es ws)),
        pairs_in_at m es ws j (pair 0 0) (omega (arith, e, h)),
        drop-cons xs j 0 (omega (arith, e)),
        shares_from (suc j) left (omega (arith, e)) h,
      )
      refl

  pub shares_given : length xs ≡ m → given_lines share_form (share_numbers es xs) 0 (length xs) ≡ share_lines pairs xs
  shares_given h = shares_from 0 (length xs) (omega arith) h
