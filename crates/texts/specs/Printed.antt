-- What the functions promise that write the programs' texts into a lent buffer.
--   Prints                     a right text stands in front of the buffer, and the rest is as it was
--   TextWritten                the same, or a refusal, whose status line is right
--   SheetDue, SheetPrinted   a sheet of a list that is right, and that `audit` accepts it; what `sheet` prints of a file
--   ReadOf                    these bytes are a file's, to its end or as many as decide
--   GroupRead, SheetRead, AuditRead    what is right of whatever files were read
--   SheetAnswered             what `audit` prints of it; the theorem is `sheet_answered`
--   PairlessPrinted, PairlessTurned    what `group`, `sheet` and `audit` print of a file without pairs; the theorem is `pairless_turned`
--   answer_lines, sheet_lines  the lines by the answer to a pair file and what stands beside it
-- Assumes nothing: these are definitions.
use Rattle.std.specs.Prelude.{◌≡◌, true, List, [], ◌∷◌, ◌++◌, ℕ, ◌≤◌, length, take, Result, IfOk, IfErr, OnErr}
use Rattle.theory.specs.Lists.{Pair, Pairs}
use Rattle.theory.specs.Groups.{inside, size, found_of}
use Rattle.theory.specs.Splits.{core_order, outside_good}
use Rattle.theory.specs.Promise.{Optimal}
use Rattle.refusals.specs.declared.Refusal.{Refusal}
use Rattle.refusals.specs.Numbers.{number_of}
use Rattle.lines.specs.Outcomes.{refused, taken}
use Rattle.pairfile.specs.File.{read_file, group_list}
use Rattle.lines.specs.Putting.{Puts}
use Rattle.sheetfile.specs.Audit.{audit}
use Rattle.lines.specs.Lines.{filled}
use Rattle.sheetfile.specs.Sheet.{head_form}
use Rattle.sheetfile.specs.Writer.{member_lines, number_lines, share_lines, sheet_file}
use Rattle.answer.specs.declared.Answer.{Answer}
use Rattle.texts.specs.Texts.{refusal_text, group_printed, certificate, ratio_lines, audit_text}

-- the first r bytes of the buffer are a right text, and those behind it are as they were
pub record Prints (Right : List ℕ → Type 0) (out out' : List ℕ) (r : ℕ) : Type 0 where
  pub text : List ℕ
  pub right : Right text
  pub puts : Puts text out 0 out' r
  -- so the program writes out these r bytes
  pub front : take r out' ≡ text
  pub within : r ≤ length out'
  pub counted : r ≡ length (take r out')

-- a right text, or a refusal whose status line is right, and then the buffer is as it was
pub record TextWritten (Right : List ℕ → Type 0) (out out' : List ℕ) (r : Result ℕ Refusal) : Type 0 where
  pub printed : IfOk r (λ k. Prints Right out out' k)
  pub refused : IfErr r (λ e. Right (refusal_text (number_of e)))
  pub kept : OnErr r (out' ≡ out)

-- of a list and its found group s: the group's sheet. Free are only the shares of pairs inside the core of order K
pub record SheetDue (file : List ℕ) (g : Pairs) (s : List ℕ) (text : List ℕ) : Type 0 where
  pub shares : List ℕ
  -- group and shares are the best of all groups and of all splits
  pub optimal : Optimal g s shares (inside g s) (size s)
  -- a pair with an end outside the core of order K goes wholly to the end that left first
  pub outside : outside_good g (core_order g s) (size s) g.pairs shares ≡ true
  pub is : text ≡ sheet_file g (certificate g s shares)
  -- beside the same pair file the text is accepted
  pub accepted : audit file text ≡ taken (certificate g s shares)

-- WHAT `sheet` PRINTS OF A FILE: a sheet of the list that it names and of its found group, or the refusal's text: the file's number, or 20
pub record SheetPrinted (file text : List ℕ) : Type 0 where
  pub taken : (g : Pairs) → group_list file ≡ taken g → SheetDue file g (found_of g) text
  pub refused : (k : ℕ) → group_list file ≡ refused k → text ≡ refusal_text k

-- these bytes are a file's: all of it, or as many in front as a buffer holds that has room for the first `decide`: so a file is read
pub record ReadOf (decide : ℕ) (bytes file : List ℕ) : Type 0 where
  pub room : ℕ
  pub enough : decide ≤ room
  pub front : bytes ≡ take room file

-- WHATEVER PAIR FILE WAS READ, the text of `group` is that of the whole file,
pub record GroupRead (bytes text : List ℕ) : Type 0 where
  pub due : (file : List ℕ) → ReadOf 65536 bytes file → text ≡ group_printed (group_list file)

-- the text of `sheet` is one that is due of it,
pub record SheetRead (bytes text : List ℕ) : Type 0 where
  pub due : (file : List ℕ) → ReadOf 65536 bytes file → SheetPrinted file text

-- and the text of `audit` is that of both files
pub record AuditRead (bytes bytes' text : List ℕ) : Type 0 where
  pub due : (file sheet : List ℕ) → ReadOf 65536 bytes file → ReadOf 140000 bytes' sheet → text ≡ audit_text (audit file sheet)

-- WHAT `sheet` PRINTS, `audit` ANSWERS by 0 and the found group's ratio
unfoldable pub SheetAnswered : Type 0
SheetAnswered =
    (bytes out out' : List ℕ) (r : ℕ) → Prints (SheetRead bytes) out out' r →
    (file : List ℕ) → ReadOf 65536 bytes file → (g : Pairs) → group_list file ≡ taken g →
    audit_text (audit file (take r out')) ≡ ratio_lines (inside g (found_of g)) (size (found_of g))

-- `group` and `sheet` print the status line of 20 alone, and so does `audit`, whatever sheet it is handed
pub record PairlessPrinted (file : List ℕ) : Type 0 where
  pub group : group_printed (group_list file) ≡ refusal_text 20
  pub sheet : (text : List ℕ) → SheetPrinted file text → text ≡ refusal_text 20
  pub audit : (sheet : List ℕ) → audit_text (audit file sheet) ≡ refusal_text 20

-- SO THEY DO OF EVERY FILE THAT NAMES A LIST WITHOUT PAIRS
unfoldable pub PairlessTurned : Type 0
PairlessTurned = (file : List ℕ) (g : Pairs) → read_file 4096 file ≡ taken g → g.pairs ≡ [] → PairlessPrinted file

-- the lines of an answer and of member bytes
unfoldable pub answer_lines : Answer → (members : List ℕ) → List ℕ
answer_lines a s = filled head_form (a.ratio.p ∷ a.ratio.q ∷ a.k ∷ a.coresize ∷ []) ++ member_lines 0 s

-- and of what stands beside it: the core numbers, the pairs, the shares
unfoldable pub sheet_lines : Answer → (members cores : List ℕ) → List Pair → (shares : List ℕ) → List ℕ
sheet_lines a s cs ps xs = answer_lines a s ++ (number_lines cs ++ share_lines ps xs)
