-- A sheet that is written reads back.
--   members_back, numbers_back, shares_back     the parts
--   sheet_back                                  SheetBack: the whole sheet
--   accepts_back                                AcceptsBack: every best sheet is accepted
-- Assumes nothing.
use mathlib.Core.Path.{◌≡◌, refl, sym, ap, ◌∙◌}
use mathlib.Core.Bool.{true}
use mathlib.Core.List.{List, [], ◌∷◌, ◌++◌, append_assoc, append-nil}
use Rattle.std.proofs.Common.{Some}
use Prim.Native.Nat.{ℕ, zero, suc, ◌+◌, ◌≤◌, ◌<◌}
use native.Mathlib.Omega.{arith}
use borrow.Author.Tests.{le-leb, lt-ltb, eq-eqb}
use lib.ListN.{length, set, replicate, length-append, length-replicate}
use lib.Seq.{set-append_seam}
use Rattle.theory.specs.Basics.{all, mark}
use Rattle.theory.specs.Lists.{Pair, Pairs, ends_in_range}
use Rattle.theory.specs.Groups.{size, inside, bytes_good, is_group}
use Rattle.theory.specs.Cores.{core, core_numbers}
use Rattle.theory.specs.Splits.{is_split, greatest_load, rounded_up}
use Rattle.theory.specs.Promise.{AcceptedExactly, Optimal}
use Rattle.theory.proofs.Duality.{accepted_exactly}
use Rattle.theory.specs.Refusals.{cause, refusal}
use Rattle.theory.proofs.Lists.{Listed, listed}
use Rattle.theory.proofs.Tests.{tests}
use Rattle.theory.proofs.Bounds.{size_le_length}
use Rattle.theory.proofs.Groups.{Bits, group_bits}
use Rattle.lines.specs.Text.{text, between}
use Rattle.lines.specs.Numbers.{is_digit}
use Rattle.lines.specs.Lines.{is_place, places, first, second, third, fourth, line_of, filled}
use Rattle.lines.specs.Outcomes.{taken, ◌>>=◌, ◌>>◌, passed, judge, line_or, line_due}
use Rattle.pairfile.proofs.Grouped.{group_listed}
use Rattle.lines.proofs.Found.{judge_passed}
use Rattle.lines.proofs.Fills.{small, starts_plain, parted, line_filled}
use Rattle.sheetfile.specs.Sheet.{
  head_form,
  member_form,
  number_form,
  share_form,
  member_line,
  read_members,
  number_line,
  read_numbers,
  share_line,
  read_shares,
  rest_causes,
  read_body,
  Sheet,
  sheet,
  ratio_causes,
  read_sheet,
}
use Rattle.sheetfile.specs.Writer.{member_lines, number_lines, share_lines, sheet_file, seven_digits, SheetBack, AcceptsBack}
use Rattle.sheetfile.specs.Audit.{ratio_good, core_good, head_causes, sheet_causes, audit_sheet, audit}
use Rattle.sheetfile.proofs.Judging.{line_taken}
use Rattle.sheetfile.proofs.Auditing.{check_then}
use Rattle.sheetfile.proofs.BestSheets.{best_writable}

-- ---- lines that are written

module _ (rest : List ℕ) where
  member_read : (v : ℕ) → v ≤ 9999 → line_of 4 member_form (filled member_form (v ∷ []) ++ rest) ≡ Some (record { numbers = v ∷ []; rest = rest })
  unfolding member_form text parted starts_plain is_digit is_place between places mark all small
  member_read v l = line_filled 4 (omega arith) (omega arith) member_form (v ∷ []) rest refl refl (simp tests (omega arith, refl))

  number_read : (c : ℕ) → c ≤ 9999999 → line_of 7 number_form (filled number_form (c ∷ []) ++ rest) ≡ Some (record { numbers = c ∷ []; rest = rest })
  unfolding number_form text parted starts_plain is_digit is_place between places mark all small
  number_read c l = line_filled 7 (omega arith) (omega arith) number_form (c ∷ []) rest refl refl (simp tests (omega arith, refl))

  share_read : (a b u : ℕ) → a ≤ 9999999 → b ≤ 9999999 → u ≤ 9999999 →
      line_of 7 share_form (filled share_form (a ∷ b ∷ u ∷ []) ++ rest) ≡ Some (record { numbers = a ∷ b ∷ u ∷ []; rest = rest })
  unfolding share_form text parted starts_plain is_digit is_place between places mark all small
  share_read a b u l m n =
      line_filled 7 (omega arith) (omega arith) share_form (a ∷ b ∷ u ∷ []) rest refl refl (simp tests (omega arith, (omega arith, (omega arith, refl))))

  head_read : (p q k c : ℕ) → p ≤ 9999999 → q ≤ 9999999 → k ≤ 9999999 → c ≤ 9999999 →
      line_of 7 head_form (filled head_form (p ∷ q ∷ k ∷ c ∷ []) ++ rest) ≡ Some (record { numbers = p ∷ q ∷ k ∷ c ∷ []; rest = rest })
  unfolding head_form text parted starts_plain is_digit is_place between places mark all small
  head_read p q k c l m n o =
      line_filled 7 (omega arith) (omega arith) head_form (p ∷ q ∷ k ∷ c ∷ []) rest refl refl
      (simp tests (omega arith, (omega arith, (omega arith, (omega arith, refl)))))

-- ---- the parts

-- a member line that is written is taken
named : (low n v : ℕ) (more : List ℕ) → low ≤ v → v < n → v ≤ 9999 →
    member_line n low (filled member_form (v ∷ []) ++ more) ≡ taken (record { value = v; rest = more })
unfolding member_line first
named low n v more l h s =
    line_taken 4 member_form _ first (filled member_form (v ∷ []) ++ more) _ 103 (member_read more v s) (rw (le-leb low v l, lt-ltb v n h))

-- the members of `ps` are marked, those of `bs` are still to be read
members_back : (ps bs rest : List ℕ) (low : ℕ) → low ≤ length ps → bytes_good bs ≡ true → length ps + length bs ≤ 512 →
    read_members (size bs) low (ps ++ replicate (length bs) 0) (member_lines (length ps) bs ++ rest) ≡ taken (record { entries = ps ++ bs; rest = rest })
unfolding size bytes_good member_lines read_members ◌>>=◌
members_back ps [] rest low l g f = refl
members_back ps (zero ∷ bs) rest low l g f =
    let n : length (ps ++ (0 ∷ [])) ≡ suc (length ps) = length-append ps (0 ∷ []) ∙ omega arith in
    let ih = members_back (ps ++ (0 ∷ [])) bs rest low (omega (arith, n)) (simp tests at g).1 (omega (arith, n)) in
    let z : 0 + size bs ≡ size bs = omega arith in
    rw z (rw (append_assoc ps (0 ∷ []) (replicate (length bs) 0), append_assoc ps (0 ∷ []) bs, n) at ih)
members_back ps (suc zero ∷ bs) rest low l g f =
    let v : ℕ = length ps in
    let zs : List ℕ = replicate (length bs) 0 in
    let more : List ℕ = member_lines (suc v) bs ++ rest in
    let n : length (ps ++ (1 ∷ [])) ≡ suc v = length-append ps (1 ∷ []) ∙ omega arith in
    let ih = members_back (ps ++ (1 ∷ [])) bs rest (suc v) (omega (arith, n)) (simp tests at g).1 (omega (arith, n)) in
    let ih' = rw (append_assoc ps (1 ∷ []) zs, append_assoc ps (1 ∷ []) bs, n) at ih in
    let long : length (ps ++ (0 ∷ zs)) ≡ v + suc (length bs) =
    length-append ps (0 ∷ zs) ∙ omega (arith, length-replicate {A = ℕ} (length bs) 0) in
    let line = named low (length (ps ++ (0 ∷ zs))) v more l (omega (arith, long)) (omega (arith, f)) in
    let step : read_members (suc (size bs)) low (ps ++ (0 ∷ zs)) (filled member_form (v ∷ []) ++ more)
    ≡ read_members (size bs) (suc v) (set (ps ++ (0 ∷ zs)) v 1) more = rw line in
    let s : 1 + size bs ≡ suc (size bs) = omega arith in
    rw (s, append_assoc (filled member_form (v ∷ [])) (member_lines (suc v) bs) rest)
    (step ∙ ap (λ (t : List ℕ). read_members (size bs) (suc v) t more) (set-append_seam ps 0 zs 1) ∙ ih')
members_back ps (suc (suc x) ∷ bs) rest low l g f = absurd (omega (arith, (simp tests at g).0))

numbers_back : (cs rest : List ℕ) → seven_digits cs → read_numbers cs (number_lines cs ++ rest) ≡ taken rest
unfolding seven_digits all number_lines read_numbers number_line first ◌>>=◌
numbers_back [] rest h = refl
numbers_back (c ∷ cs) rest h =
    let t = simp tests at h in
    let more : List ℕ = number_lines cs ++ rest in
    let line : number_line c (filled number_form (c ∷ []) ++ more) ≡ taken (record { value = c; rest = more }) =
    line_taken 7 number_form _ first (filled number_form (c ∷ []) ++ more) _ 104 (number_read more c t.0) (rw (eq-eqb c c refl)) in
    rw (append_assoc (filled number_form (c ∷ [])) (number_lines cs) rest, line) (numbers_back cs rest t.1)

shares_back : (n : ℕ) → n ≤ 512 → (ps : List Pair) (acc xs : List ℕ) → length xs ≡ length ps → all (ends_in_range n) ps ≡ true → seven_digits xs →
    read_shares ps acc (share_lines ps xs) ≡ taken (record { entries = acc ++ xs; rest = [] })
unfolding seven_digits all share_lines read_shares share_line first second third ends_in_range ◌>>=◌
shares_back n few [] acc [] e r h = ap (λ (ys : List ℕ). taken (record { entries = ys; rest = [] })) (sym (append-nil acc))
shares_back n few [] acc (x ∷ xs) e r h = absurd (omega arith)
shares_back n few (p ∷ ps) acc [] e r h = absurd (omega arith)
shares_back n few (p ∷ ps) acc (x ∷ xs) e r h =
    let t = simp tests at h in
    let u = simp tests at r in
    let more : List ℕ = share_lines ps xs in
    let ns : List ℕ = p.a ∷ p.b ∷ x ∷ [] in
    let line : share_line p.a p.b (filled share_form ns ++ more) ≡ taken (record { value = x; rest = more }) =
    line_taken 7 share_form _ third (filled share_form ns ++ more) _ 105
    (share_read more p.a p.b x (omega (arith, u.0.0, few)) (omega (arith, u.0.1, few)) t.0)
    (rw (eq-eqb p.a p.a refl, eq-eqb p.b p.b refl)) in
    let ih = shares_back n few ps (acc ++ (x ∷ [])) xs (omega (arith, e)) u.1 t.1 in
    rw line (rw (append_assoc acc (x ∷ []) xs) at ih)

-- ---- the whole

pub sheet_back : SheetBack
unfolding SheetBack sheet_file read_sheet read_body line_due line_or judge passed refusal cause ratio_causes rest_causes between
    ◌>>=◌ ◌>>◌ sheet first second third fourth is_group
sheet_back g s l w =
    let k : Listed g = listed g l in
    let bits : Bits g.n s.members = group_bits g s.members w.group in
    let parts = simp tests at w.group in
    let some_members : 1 ≤ s.q = omega (arith, parts.1.1, w.members_size) in
    let few_members : s.q ≤ g.n = omega (arith, w.members_size, size_le_length s.members bits.1, bits.0) in
    let numbers : List ℕ = number_lines (core_numbers g) in
    let shares : List ℕ = share_lines g.pairs s.shares in
    let body : List ℕ = member_lines 0 s.members ++ (numbers ++ shares) in
    let head =
    head_read body s.p s.q s.k s.coresize w.head_digits.0 (omega (arith, few_members, k.few)) w.head_digits.1 w.head_digits.2 in
    let back : read_members (size s.members) 0 (replicate (length s.members) 0) body ≡ taken (record { entries = s.members; rest = numbers ++ shares }) =
    members_back [] s.members (numbers ++ shares) 0 (omega arith) bits.1 (omega (arith, bits.0, k.few)) in
    let members = rw (← w.members_size, bits.0) at back in
    rw (
      head,
      le-leb 1 s.q some_members,
      le-leb s.q g.n few_members,
      members,
      numbers_back (core_numbers g) shares w.numbers_digits,
      shares_back g.n k.few g.pairs [] s.shares w.each_pair k.ends w.shares_digits,
    ) refl

-- no cause is met of a best sheet
none_met : (g : Pairs) (s : Sheet) → Optimal g s.members s.shares s.p s.q → s.k ≡ rounded_up s.p s.q →
    s.coresize ≡ size (core g s.k) → refusal (sheet_causes g s) ≡ 0
unfolding sheet_causes head_causes ratio_good core_good AcceptedExactly refusal cause
none_met g s o ek ec =
    let split : is_split g (size s.members) s.shares ≡ true = rw (← o.modules) o.is_a_split in
    let load : greatest_load g (size s.members) s.shares ≤ inside g s.members = rw (← o.modules, ← o.inside_count) (omega (arith, o.top_load)) in
    check_then g s.members s.shares (head_causes g s) ((accepted_exactly g s.members s.shares).1 (o.is_a_group, split, load))
    ∙ rw (
      eq-eqb s.p (inside g s.members) o.inside_count,
      eq-eqb s.q (size s.members) o.modules,
      eq-eqb s.k (rounded_up s.p s.q) ek,
      eq-eqb s.coresize (size (core g s.k)) ec,
    )

pub accepts_back : AcceptsBack
unfolding AcceptsBack SheetBack audit audit_sheet ◌>>=◌ ◌>>◌
accepts_back file g s e o ek ec =
    let list = group_listed file g e in
    rw (e, sheet_back g s list (best_writable file g s e o ek ec), judge_passed (sheet_causes g s) (none_met g s o ek ec))
