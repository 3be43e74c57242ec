-- What the program `kit` prints (document 02, item 7).
--   kit_lines, kit_text            the lines of a ratio and member bytes; those of a group
--   least_kitted, kit_printed      the text of a list and k, or the refusal number; what `kit` prints
--   KitRead                        what is right of whatever pair file was read
--   KitAnswered                    number, P, Q and members are what the call kit answers; the theorem is `kit_answered`
-- Assumes nothing: these are definitions.
use Rattle.std.specs.Prelude.{◌≡◌, List, ◌++◌, ℕ, ◌≤◌, length, take, Some}
use Rattle.theory.specs.Lists.{Pairs}
use Rattle.theory.specs.Groups.{inside, size}
use Rattle.theory.specs.Kits.{kit, kit_causes}
use Rattle.lines.specs.Outcomes.{Outcome, taken, ◌>>=◌, ◌>>◌, judge}
use Rattle.pairfile.specs.File.{read_file}
use Rattle.sheetfile.specs.Writer.{member_lines}
use Rattle.verify.specs.declared.Verdict.{Verdict}
use Rattle.records.specs.declared.Pair.{Pair as Record}
use Rattle.records.specs.declared.Head.{Head}
use Rattle.kandurzo.specs.Kitting.{KitCall}
use Rattle.kandurzo.specs.Promise.{Lent}
use Rattle.texts.specs.Texts.{refusal_text, printed, ratio_lines}
use Rattle.texts.specs.Printed.{ReadOf}
use Rattle.texts.specs.Arguments.{argument_number, number_due}

-- status 0; P/Q; the members, rising
unfoldable pub kit_lines : (p q : ℕ) → (members : List ℕ) → List ℕ
kit_lines p q s = ratio_lines p q ++ member_lines 0 s

-- THE KIT'S TEXT: its own ratio and its members
unfoldable pub kit_text : Pairs → (s : List ℕ) → List ℕ
kit_text g s = kit_lines (inside g s) (size s) s

-- of a list and k: 20, 21, then the text of the kit of at least k modules
unfoldable pub least_kitted : Pairs → (k : ℕ) → Outcome (List ℕ)
least_kitted g k = do
  judge (kit_causes g.n (length g.pairs) k)
  taken (kit_text g (kit g k))

-- WHAT `kit` PRINTS of what a pair file says and an argument: the file is judged first, then the argument: 110
unfoldable pub kit_printed : Outcome Pairs → (argument : List ℕ) → List ℕ
kit_printed file argument = printed (do
  g ← file
  k ← number_due (argument_number argument)
  least_kitted g k)

-- WHATEVER PAIR FILE WAS READ, the text of `kit` is that of the whole file
pub record KitRead (bytes argument text : List ℕ) : Type 0 where
  pub due : (file : List ℕ) → ReadOf 65536 bytes file → text ≡ kit_printed (read_file 4096 file) argument

-- WHAT `kit` PRINTS IS WHAT THE CALL KIT ANSWERS of that list where it is lent with buffers of the stated sizes: the number alone, or else P, Q and the members
unfoldable pub KitAnswered : Type 0
KitAnswered =
    (file argument : List ℕ) (g : Pairs) (k : ℕ) (h : Head) (ps : List Record) (members work : List ℕ) (v : Verdict) (members' work' : List ℕ) →
    read_file 4096 file ≡ taken g → argument_number argument ≡ Some k →
    Lent g h ps → g.n ≤ length members → 16384 ≤ length work → KitCall h ps k members work v members' work' →
    let text = kit_printed (read_file 4096 file) argument in
    ((v.number ≡ 0 → ⊥) → text ≡ refusal_text v.number) × (v.number ≡ 0 → text ≡ kit_lines v.p v.q (take g.n members'))
