-- How long the texts are.
--   refusal_length, ratio_length       a refusal, and a ratio
--   members_length                     the members' lines
--   group_length, sheet_length         the group's lines of a sheet that can be written, and the whole sheet
-- Assumes nothing.
use mathlib.Core.Path.{◌≡◌, refl}
use mathlib.Core.Bool.{Bool, true, false, cond}
use mathlib.Core.List.{List, [], ◌∷◌, ◌++◌}
use Prim.Native.Nat.{ℕ, zero, suc, ◌+◌, ◌*◌, ◌^◌, ◌≤◌, ◌<◌}
use native.Mathlib.Omega.{arith}
use lib.Dec.{eqb}
use lib.ListN.{length, get_or, length-append}
use Rattle.theory.specs.Basics.{all, mark}
use Rattle.theory.specs.Lists.{Pair, Pairs, ends_in_range, is_list}
use Rattle.theory.specs.Groups.{is_group}
use Rattle.theory.specs.Cores.{core_number, core_numbers}
use Rattle.theory.proofs.Bounds.{size_bound}
use Rattle.theory.proofs.Lists.{listed}
use Rattle.theory.proofs.Tables.{length_table}
use Rattle.theory.proofs.Tests.{tests}
use Rattle.lines.specs.Text.{text, between}
use Rattle.lines.specs.Numbers.{spelled}
use Rattle.lines.specs.Lines.{is_place, places, filled}
use Rattle.lines.proofs.Spelling.{spell_length}
use Rattle.lines.proofs.Lengths.{no_more, and_small, filled_length}
use Rattle.sheetfile.specs.Sheet.{head_form, member_form, number_form, share_form, Sheet}
use Rattle.sheetfile.specs.Writer.{member_lines, number_lines, share_lines, sheet_file, seven_digits, Writable}
use Rattle.texts.specs.Texts.{refusal_text, ratio_form, ratio_lines}

-- ---- lines

pub refusal_length : (k : ℕ) → length (refusal_text k) ≤ 18
unfolding refusal_text filled is_place between text spelled
refusal_length k = simp length-append (omega (arith, (spell_length 9 k).1))

-- numbers of at most seven digits
seven_each : (ns : List ℕ) → seven_digits ns → (k : ℕ) → get_or ns k 0 < 10 ^ 7
unfolding seven_digits all
seven_each [] h k = omega arith
seven_each (n ∷ ns) h zero = omega (arith, (simp tests at h).0)
seven_each (n ∷ ns) h (suc k) = seven_each ns (simp tests at h).1 k

seven_length : (form ns : List ℕ) → seven_digits ns → length (filled form ns) ≤ length form + 6 * places form
seven_length form ns h = filled_length 6 (omega arith) form ns (seven_each ns h)

pub ratio_length : (p q : ℕ) → seven_digits (p ∷ q ∷ []) → length (ratio_lines p q) ≤ 31
unfolding ratio_lines ratio_form text places is_place between mark
ratio_length p q h = seven_length ratio_form (p ∷ q ∷ []) h

head_length : (ns : List ℕ) → seven_digits ns → length (filled head_form ns) ≤ 52
unfolding head_form text places is_place between mark
head_length ns h = seven_length head_form ns h

-- a line at most, for each module
member_length : (b : Bool) (v : ℕ) → v ≤ 9999 → length (cond b (filled member_form (v ∷ [])) []) ≤ 12
unfolding member_form text places is_place between mark
member_length true v h = filled_length 3 (omega arith) member_form (v ∷ []) (and_small v h no_more).each
member_length false v h = omega arith

pub members_length : (v : ℕ) (s : List ℕ) → v + length s ≤ 9999 → length (member_lines v s) ≤ 12 * length s
unfolding member_lines
members_length v [] h = omega arith
members_length v (b ∷ bs) h =
    simp length-append (omega (arith, member_length (eqb b 1) v (omega arith), members_length (suc v) bs (omega arith)))

numbers_length : (cs : List ℕ) → seven_digits cs → length (number_lines cs) ≤ 15 * length cs
unfolding number_lines number_form text places is_place between mark seven_digits all
numbers_length [] h = omega arith
numbers_length (c ∷ cs) h =
    let h' = simp tests at h in
    simp length-append (omega (arith, seven_length number_form (c ∷ []) (simp tests (h'.0, refl)), numbers_length cs h'.1))

shares_length : (n : ℕ) (ps : List Pair) (xs : List ℕ) → n ≤ 9999 → all (ends_in_range n) ps ≡ true → seven_digits xs →
    length (share_lines ps xs) ≤ 30 * length ps
unfolding share_lines share_form text places is_place between mark seven_digits all ends_in_range
shares_length n [] xs l e h = omega arith
shares_length n (p ∷ ps) [] l e h = omega arith
shares_length n (p ∷ ps) (x ∷ xs) l e h =
    let e' = simp tests at e in
    let h' = simp tests at h in
    let s : seven_digits (p.a ∷ p.b ∷ x ∷ []) = simp tests (omega (arith, e'.0), (omega (arith, e'.0), (h'.0, refl))) in
    simp length-append (omega (arith, seven_length share_form (p.a ∷ p.b ∷ x ∷ []) s, shares_length n ps xs l e'.1 h'.1))

-- ---- a sheet that can be written

module _ (g : Pairs) (s : Sheet) (list : is_list g ≡ true) (w : Writable g s) where
  group_size : length s.members ≡ g.n
  unfolding is_group
  group_size = (simp tests at w.group).0

  -- the group's lines
  pub group_length : length (filled head_form (s.p ∷ s.q ∷ s.k ∷ s.coresize ∷ []) ++ member_lines 0 s.members) ≤ 52 + 12 * g.n
  unfolding seven_digits all
  group_length =
      let d = w.head_digits in
      let few = (listed g list).few in
      let q_few : s.q ≤ 9999999 = omega (arith, w.members_size, size_bound g s.members list w.group) in
      let head = head_length (s.p ∷ s.q ∷ s.k ∷ s.coresize ∷ []) (simp tests (d.0, (q_few, (d.1, (d.2, refl))))) in
      simp length-append (omega (arith, head, members_length 0 s.members (omega (arith, group_size, few)), group_size))

  -- the whole sheet
  pub sheet_length : length (sheet_file g s) ≤ 136756
  unfolding sheet_file core_numbers
  sheet_length =
      let l = listed g list in
      let n : length (core_numbers g) ≡ g.n = length_table g.n (core_number g) in
      simp length-append
      (omega (
        arith,
        simp length-append at group_length,
        numbers_length (core_numbers g) w.numbers_digits,
        n,
        shares_length g.n g.pairs s.shares (omega (arith, l.few)) l.ends w.shares_digits,
        l.few,
        l.short,
      ))
