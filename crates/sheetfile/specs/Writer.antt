-- The text of a sheet, as the program `sheet` prints it, and that it reads back.
--   member_lines, number_lines, share_lines, sheet_file      the lines of a sheet of a list
--   Writable                                                 a sheet that can be written: a group, a share for each pair, numbers of at most seven digits
--   SheetBack, AcceptsBack                                 what is written reads back, and every best sheet is accepted; the theorems are `sheet_back`
--                                                            and `accepts_back`
-- Assumes nothing: these are definitions.
use Rattle.std.specs.Prelude.{◌≡◌, true, cond, List, [], ◌∷◌, ◌++◌, ℕ, suc, ◌≤◌, leb, eqb, length}
use Rattle.theory.specs.Basics.{all}
use Rattle.theory.specs.Lists.{Pair, Pairs, is_list}
use Rattle.theory.specs.Groups.{size, is_group}
use Rattle.theory.specs.Cores.{core, core_numbers}
use Rattle.theory.specs.Splits.{rounded_up}
use Rattle.theory.specs.Promise.{Optimal}
use Rattle.pairfile.specs.File.{group_list}
use Rattle.sheetfile.specs.Audit.{audit}
use Rattle.lines.specs.Lines.{filled}
use Rattle.lines.specs.Outcomes.{taken}
use Rattle.sheetfile.specs.Sheet.{head_form, member_form, number_form, share_form, Sheet, read_sheet}

-- a line for each member byte that is 1; the first byte is module v's
unfoldable pub member_lines : (v : ℕ) → (members : List ℕ) → List ℕ
member_lines v [] = []
member_lines v (b ∷ bs) = cond (eqb b 1) (filled member_form (v ∷ [])) [] ++ member_lines (suc v) bs

-- a line for each core number
unfoldable pub number_lines : (cores : List ℕ) → List ℕ
number_lines [] = []
number_lines (c ∷ cs) = filled number_form (c ∷ []) ++ number_lines cs

-- a line for each pair, with its share
unfoldable pub share_lines : List Pair → (shares : List ℕ) → List ℕ
share_lines [] xs = []
share_lines (p ∷ ps) [] = []
share_lines (p ∷ ps) (x ∷ xs) = filled share_form (p.a ∷ p.b ∷ x ∷ []) ++ share_lines ps xs

-- the whole sheet
unfoldable pub sheet_file : Pairs → Sheet → List ℕ
sheet_file g s =
    filled head_form (s.p ∷ s.q ∷ s.k ∷ s.coresize ∷ [])
    ++ (member_lines 0 s.members ++ (number_lines (core_numbers g) ++ share_lines g.pairs s.shares))

-- the numbers have at most seven digits
unfoldable pub seven_digits : List ℕ → Type 0
seven_digits ns = all (λ n. leb n 9999999) ns ≡ true

-- a sheet of a list as it can be written
pub record Writable (g : Pairs) (s : Sheet) : Type 0 where
  pub group : is_group g s.members ≡ true
  pub members_size : s.q ≡ size s.members
  pub each_pair : length s.shares ≡ length g.pairs
  pub head_digits : (s.p ≤ 9999999) × (s.k ≤ 9999999) × (s.coresize ≤ 9999999)
  pub numbers_digits : seven_digits (core_numbers g)
  pub shares_digits : seven_digits s.shares

-- WHAT IS WRITTEN READS BACK
unfoldable pub SheetBack : Type 0
SheetBack = (g : Pairs) (s : Sheet) → is_list g ≡ true → Writable g s → read_sheet g (sheet_file g s) ≡ taken s

-- AND EVERY BEST SHEET IS ACCEPTED, whoever made it: the pair file names the list, which has a pair; group and shares are optimal with their P and Q, and the
-- core line is the list's
unfoldable pub AcceptsBack : Type 0
AcceptsBack =
    (file : List ℕ) (g : Pairs) (s : Sheet) → group_list file ≡ taken g →
    Optimal g s.members s.shares s.p s.q → s.k ≡ rounded_up s.p s.q → s.coresize ≡ size (core g s.k) →
    audit file (sheet_file g s) ≡ taken s
