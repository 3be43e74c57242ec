-- A file of different pairs up to a line that is refused by 5 or 4 gets that number, whatever follows (document 02, item 2).
--   line_refused                that line
--   lines_then, lines_refused   the lines before it, and with it
--   file_refused                the whole file
-- Assumes nothing.
use mathlib.Core.Path.{◌≡◌, refl, ◌∙◌}
use mathlib.Core.Bool.{true}
use mathlib.Core.List.{List, [], ◌∷◌, ◌++◌, append_assoc}
use Prim.Native.Nat.{ℕ, suc, ◌+◌, ◌-◌, ◌≤◌, ◌<◌}
use native.Mathlib.Omega.{arith}
use lib.ListN.{length}
use Rattle.theory.specs.Basics.{all}
use Rattle.theory.specs.Lists.{Pair, weight_in_range}
use Rattle.theory.proofs.Tests.{tests}
use Rattle.pairs.specs.Held.{insert_pair, stops_of}
use Rattle.pairs.proofs.General.{all_weaker}
use Rattle.pairs.proofs.Twice.{Gives}
use Rattle.lines.specs.Lines.{first, second, third, filled}
use Rattle.lines.specs.Outcomes.{refused, ◌>>=◌, ◌>>◌, passed, judge, line_or, line_due}
use Rattle.pairfile.specs.File.{modules_form, pairs_form, pair_form, pair_line_causes, pair_line, read_pairs, read_file, pair_lines}
use Rattle.pairfile.specs.Promise.{names_two, names_stops, Different}
use Rattle.pairfile.proofs.Naming.{ends_fit}
use Rattle.pairfile.proofs.ReadsBack.{pair_form_line, line_back, first_back, second_back}
use Rattle.pairfile.proofs.Fresh.{Fresh, fresh_all, fresh_ends, fresh_new, fresh_more, held_after}

line_refused : (n a b w k : ℕ) (held : List Pair) (rest : List ℕ) → a ≤ 9999 → b ≤ 9999 → w ≤ 9999 → Gives 0 n a b k →
    pair_line n held (filled pair_form (a ∷ b ∷ w ∷ []) ++ rest) ≡ refused (suc k)
unfolding pair_line pair_line_causes line_due line_or first second third judge passed ◌>>=◌ ◌>>◌
line_refused n a b w k held rest l m o gives = rw (pair_form_line a b w rest l m o, gives _)

-- the lines before it are taken
lines_then : (n : ℕ) → n ≤ 512 → (ls held : List Pair) (m left : ℕ) (rest : List ℕ) → all weight_in_range ls ≡ true → Fresh n ls held →
    m ≡ length ls + left →
    read_pairs n m held (pair_lines pair_form ls ++ rest) ≡ read_pairs n left (held_after ls held) rest
unfolding pair_lines read_pairs held_after all weight_in_range ◌>>=◌
lines_then n few [] held m left rest c f e = let same : m ≡ left = omega arith in rw same
lines_then n few (l ∷ ls) held m left rest c f e =
    let c' = simp tests at c in
    let ends = fresh_ends n l ls held f in
    let fit = ends_fit n l.a l.b ends.0 ends.1 ends.2 in
    let one : m ≡ suc (length ls + left) = omega arith in
    rw (
      one,
      append_assoc (filled pair_form (l.a ∷ l.b ∷ l.w ∷ [])) (pair_lines pair_form ls) rest,
      line_back n l.a l.b l.w held (pair_lines pair_form ls ++ rest) (omega (arith, ends)) (omega (arith, ends)) c'.0 fit
          (fresh_new n l ls held f),
    )
    (lines_then n few ls (insert_pair (stops_of l.a l.b l.w) held) (length ls + left) left rest c'.1 (fresh_more n l ls held f l.w) refl)

module _ (n m a b w k : ℕ) (ls : List Pair) (rest : List ℕ) (high : n ≤ 512) (fit : all (names_stops n) ls ≡ true) (once : Different ls)
    (more : length ls < m) (la : a ≤ 9999) (lb : b ≤ 9999) (lw : w ≤ 9999) (gives : Gives 0 n a b k) where
  two : all (names_two n) ls ≡ true
  unfolding names_stops
  two = all_weaker (names_stops n) (names_two n) (λ l e. (simp tests at e).0) ls fit

  counts : all weight_in_range ls ≡ true
  unfolding names_stops
  counts = all_weaker (names_stops n) weight_in_range (λ l e. (simp tests at e).1) ls fit

  lines_refused : read_pairs n m [] (pair_lines pair_form ls ++ (filled pair_form (a ∷ b ∷ w ∷ []) ++ rest)) ≡ refused (suc k)
  unfolding read_pairs ◌>>=◌
  lines_refused =
      lines_then n high ls [] m (suc (m - length ls - 1)) (filled pair_form (a ∷ b ∷ w ∷ []) ++ rest) counts (fresh_all n ls two once)
      (omega arith)
      ∙ rw (line_refused n a b w k (held_after ls []) rest la lb lw gives)

  -- the whole file
  pub file_refused : (room : ℕ) → 1 ≤ n → m ≤ 4096 → m ≤ room →
      read_file room
      (filled modules_form (n ∷ []) ++ (filled pairs_form (m ∷ []) ++ (pair_lines pair_form ls ++ (filled pair_form (a ∷ b ∷ w ∷ []) ++ rest))))
      ≡ refused (suc k)
  unfolding read_file first ◌>>=◌
  file_refused room low short fits =
      let after = pair_lines pair_form ls ++ (filled pair_form (a ∷ b ∷ w ∷ []) ++ rest) in
      rw (first_back n (filled pairs_form (m ∷ []) ++ after) low high, second_back room m after short fits, lines_refused)
