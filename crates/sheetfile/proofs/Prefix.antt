-- A sheet is decided by its first bytes: what lies behind the longest sheet that could be accepted changes nothing.
--   one_alike                                      a line
--   members_alike, numbers_alike, shares_alike     lines one after another
--   body_trimmed, read_trimmed                     all lines after the head, and the whole sheet
--   sheet_first                                    SheetFirst: a sheet is decided by its first 140,000 bytes
--   audit_first                                    AuditFirst: both files are decided by their first bytes
-- Assumes nothing.
use mathlib.Core.Path.{◌≡◌, refl}
use mathlib.Core.Bool.{true}
use mathlib.Core.List.{List, [], ◌∷◌, ◌++◌}
use Prim.Native.Nat.{ℕ, zero, suc, ◌+◌, ◌*◌, ◌≤◌}
use native.Mathlib.Omega.{arith}
use lib.ListN.{length, set, take, replicate}
use Rattle.theory.specs.Lists.{Pair, Pairs}
use Rattle.theory.specs.Cores.{core_number, core_numbers}
use Rattle.theory.specs.Refusals.{Cause, cause, refusal}
use Rattle.theory.proofs.Lists.{Listed, listed}
use Rattle.theory.proofs.Tables.{length_table}
use Rattle.theory.proofs.Tests.{tests, by_test}
use Rattle.lines.specs.Text.{text, between}
use Rattle.lines.specs.Numbers.{is_digit, Number}
use Rattle.lines.specs.Lines.{is_place, Line, first, second, third, fourth}
use Rattle.lines.specs.Outcomes.{Outcome, refused, taken, ◌>>=◌, ◌>>◌, passed, judge}
use Rattle.pairfile.specs.File.{group_list}
use Rattle.lines.proofs.Fills.{starts_plain, parted}
use Rattle.pairfile.proofs.Grouped.{group_listed, group_first}
use Rattle.lines.proofs.Prefix.{span, rest_alike, Alike, taken_alike, alike_then, alike_same, trim_line, line_alike, judged_alike}
use Rattle.sheetfile.specs.Sheet.{
  head_form,
  member_form,
  number_form,
  share_form,
  judged_line,
  Part,
  member_line,
  read_members,
  number_line,
  read_numbers,
  share_line,
  read_shares,
  rest_causes,
  read_body,
  sheet,
  ratio_causes,
  read_sheet,
}
use Rattle.sheetfile.specs.Audit.{audit_sheet, audit}
use Rattle.sheetfile.specs.Promise.{SheetFirst, AuditFirst}

-- a number and some lines, each with the bytes after it trimmed
abbrev trim_number : ℕ → Number → Number
trim_number v x = record { value = x.value; rest = take v x.rest }

abbrev trim_part : ℕ → Part → Part
trim_part v x = record { entries = x.entries; rest = take v x.rest }

-- ---- lines

-- a line judged: its own cause and the number picked do not go by the bytes after it
one_alike : (d : ℕ) (form : List ℕ) (own : Line → Cause) (pick : Line → ℕ) (w : ℕ) (bs : List ℕ) → parted form ≡ true → span d form ≤ w →
    ((l : Line) (v : ℕ) → own (trim_line v l) ≡ own l) → ((l : Line) (v : ℕ) → pick (trim_line v l) ≡ pick l) →
    Alike trim_number w (span d form) (judged_line d form own pick (take w bs)) (judged_line d form own pick bs)
unfolding judged_line
one_alike d form own pick w bs p h same_own same_pick =
    judged_alike 101 d form w bs p h trim_number (λ l. own l ∷ []) _ (λ l v. rw (same_own l v)) (λ l v. rw (same_pick l v))

-- one line after another: a member line has at most 12 bytes, a number line 15, a share line 30
members_alike : (left low : ℕ) (s : List ℕ) (w : ℕ) (bs : List ℕ) → 12 * left ≤ w →
    Alike trim_part w (12 * left) (read_members left low s (take w bs)) (read_members left low s bs)
unfolding read_members member_line first member_form text parted starts_plain span is_place is_digit between
members_alike zero low s w bs h = taken_alike (record { entries = s; rest = bs }) w refl refl (omega arith)
members_alike (suc left) low s w bs h =
    alike_then (12 * left) _ (omega arith) (one_alike 4 member_form _ first w bs refl (omega arith) (λ l v. refl) (λ l v. refl))
    (λ a v m. members_alike left (suc a.value) (set s a.value 1) v a.rest (omega arith))

numbers_alike : (cs : List ℕ) (w : ℕ) (bs : List ℕ) → 15 * length cs ≤ w →
    Alike take w (15 * length cs) (read_numbers cs (take w bs)) (read_numbers cs bs)
unfolding read_numbers number_line first number_form text parted starts_plain span is_place is_digit between
numbers_alike [] w bs h = taken_alike bs w refl refl (omega arith)
numbers_alike (c ∷ cs) w bs h =
    alike_then (15 * length cs) _ (omega arith) (one_alike 7 number_form _ first w bs refl (omega arith) (λ l v. refl) (λ l v. refl))
    (λ x v m. numbers_alike cs v x.rest (omega arith))

shares_alike : (ps : List Pair) (xs : List ℕ) (w : ℕ) (bs : List ℕ) → 30 * length ps ≤ w →
    Alike trim_part w (30 * length ps) (read_shares ps xs (take w bs)) (read_shares ps xs bs)
unfolding read_shares share_line first second third share_form text parted starts_plain span is_place is_digit between
shares_alike [] xs w bs h = taken_alike (record { entries = xs; rest = bs }) w refl refl (omega arith)
shares_alike (p ∷ ps) xs w bs h =
    alike_then (30 * length ps) _ (omega arith) (one_alike 7 share_form _ third w bs refl (omega arith) (λ l v. refl) (λ l v. refl))
    (λ u v m. shares_alike ps (xs ++ (u.value ∷ [])) v u.rest (omega arith))

-- ---- the whole

-- all lines after the head, and one byte more, which shows whether bytes follow
body_trimmed : (g : Pairs) (q w : ℕ) (bs : List ℕ) → 12 * q + 15 * g.n + 30 * length g.pairs + 1 ≤ w → read_body g q (take w bs) ≡ read_body g q bs
unfolding read_body rest_causes core_numbers
body_trimmed g q w bs h =
    let n : length (core_numbers g) ≡ g.n = length_table g.n (core_number g) in
    alike_same _ (members_alike q 0 (replicate g.n 0) w bs (omega arith))
    (λ m v e a. alike_same _ (numbers_alike (core_numbers g) v m.rest (omega (arith, n)))
    (λ r u e b. alike_same _ (shares_alike g.pairs [] u r (omega (arith, n)))
    (λ x t e c. rw (rest_alike t x.rest (omega (arith, n))))))

-- Q is at most N
ratio_unmet : (n q : ℕ) → refusal (ratio_causes n q) ≡ 0 → q ≤ n
unfolding ratio_causes cause refusal between
ratio_unmet n q e = by_test (between 1 n q) (λ t. (simp tests at t).1) (λ t. absurd (omega (arith, rw t at e)))

-- the whole sheet: the head has at most 52 bytes
read_trimmed : (g : Pairs) (w : ℕ) (bs : List ℕ) → 52 + 27 * g.n + 30 * length g.pairs + 1 ≤ w → read_sheet g (take w bs) ≡ read_sheet g bs
unfolding read_sheet sheet first second third fourth judge passed ◌>>◌ head_form text parted starts_plain span is_place is_digit between
read_trimmed g w bs h =
    alike_same _ (line_alike 101 7 head_form w bs refl (omega arith))
    (λ l v d m. go l v (refusal (ratio_causes g.n (second l))) refl m)
  where
    go : (l : Line) (v k : ℕ) → refusal (ratio_causes g.n (second l)) ≡ k → w ≤ v + span 7 head_form →
        (do
          passed k
          body ← read_body g (second l) (take v l.rest)
          taken (sheet (trim_line v l) body)) ≡
        (do
          passed k
          body ← read_body g (second l) l.rest
          taken (sheet l body))
    go l v zero e m = rw (body_trimmed g (second l) v l.rest (omega (arith, ratio_unmet g.n (second l) e)))
    go l v (suc k) e m = refl

pub sheet_first : SheetFirst
unfolding SheetFirst audit audit_sheet ◌>>=◌
sheet_first w file bs h = go (group_list file) refl
  where
    go : (o : Outcome Pairs) → group_list file ≡ o → (do g ← o; audit_sheet g (take w bs)) ≡ (do g ← o; audit_sheet g bs)
    go (refused k) e = refl
    go (taken g) e =
        let l : Listed g = listed g (group_listed file g e) in
        rw (read_trimmed g w bs (omega (arith, l.few, l.short)))

-- both files trimmed
pub audit_first : AuditFirst
unfolding AuditFirst SheetFirst audit
audit_first v w file bs h k = rw (group_first file v h) (sheet_first w file bs k)
