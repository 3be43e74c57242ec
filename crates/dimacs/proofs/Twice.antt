-- A file of different pairs up to an `e` line that is refused by 5 or 4 gets that number, whatever follows (document 02, item 2).
--   edge_refused                that line
--   edges_then, edges_refused   the lines before it, and with it
--   file_refused                the whole file
-- Assumes nothing.
use mathlib.Core.Path.{◌≡◌, refl, ◌∙◌}
use mathlib.Core.Bool.{true}
use mathlib.Core.List.{List, [], ◌∷◌, ◌++◌, append_assoc}
use Prim.Native.Nat.{ℕ, suc, ◌+◌, ◌-◌, ◌≤◌, ◌<◌}
use native.Mathlib.Omega.{arith}
use borrow.Author.Tests.{ne_eqb}
use lib.ListN.{length}
use Rattle.theory.specs.Basics.{all}
use Rattle.theory.specs.Lists.{Pair, pair}
use Rattle.theory.specs.Refusals.{cause, refusal}
use Rattle.pairs.specs.Held.{insert_pair, smaller_first_pair, stops_of}
use Rattle.pairs.proofs.Twice.{Gives}
use Rattle.lines.specs.Lines.{first, second, filled}
use Rattle.lines.specs.Outcomes.{refused, ◌>>=◌, ◌>>◌, passed, judge, line_or, line_due}
use Rattle.pairfile.specs.File.{numbered, pair_lines}
use Rattle.pairfile.specs.Promise.{names_two, Different}
use Rattle.pairfile.proofs.Names.{ones}
use Rattle.pairfile.proofs.Fresh.{Fresh, fresh_all, fresh_ends, fresh_new, fresh_more, held_after}
use Rattle.dimacs.specs.Comments.{plain_lines}
use Rattle.dimacs.specs.Edges.{problem_form, edge_form, edge_causes, edge_line, read_edges, read_lines, read_dimacs, edge_lines}
use Rattle.dimacs.proofs.Forms.{edge_formed, edges_more, line_written}
use Rattle.dimacs.proofs.ReadsBack.{edge_plain, problem_plain, edge_back, problem_back}

edge_refused : (n left a b k : ℕ) (held : List Pair) → a ≤ 9999 → b ≤ 9999 → Gives 1 n a b k →
    edge_line n (suc left) held (filled edge_form (a ∷ b ∷ [])) ≡ refused (suc k)
unfolding edge_line edge_causes cause refusal line_due line_or first second judge passed ◌>>=◌ ◌>>◌
edge_refused n left a b k held l m gives = rw (line_written edge_formed a b l m, ne_eqb (suc left) 0 (λ e. omega arith), gives _)

-- the lines before it are taken, each with the count 1
edges_then : (n : ℕ) → n ≤ 512 → (ls held : List Pair) (m left : ℕ) (rest : List ℕ) → Fresh n ls held → m ≡ length ls + left →
    read_edges n m held (plain_lines (edge_lines ls ++ rest)) ≡ read_edges n left (held_after (ones ls) held) (plain_lines rest)
unfolding edge_lines pair_lines numbered read_edges ones held_after stops_of smaller_first_pair pair ◌>>=◌
edges_then n few [] held m left rest f e = let same : m ≡ left = omega arith in rw same
edges_then n few (l ∷ ls) held m left rest f e =
    let ends = fresh_ends n l ls held f in
    let one : m ≡ suc (length ls + left) = omega arith in
    let less : suc (length ls + left) - 1 ≡ length ls + left = omega arith in
    rw (
      one,
      edges_more l ls,
      append_assoc (filled edge_form ((l.a + 1) ∷ (l.b + 1) ∷ [])) (edge_lines ls) rest,
      edge_plain (l.a + 1) (l.b + 1) (omega (arith, ends)) (omega (arith, ends)) (edge_lines ls ++ rest),
      edge_back n l.a l.b (length ls + left) held (omega arith) ends.0 ends.1 ends.2 (fresh_new n l ls held f),
      less,
    ) (edges_then n few ls (insert_pair (smaller_first_pair l.a l.b) held) (length ls + left) left rest (fresh_more n l ls held f 1) refl)

module _ (n m a b k : ℕ) (ls : List Pair) (rest : List ℕ) (high : n ≤ 512) (two : all (names_two n) ls ≡ true) (once : Different ls)
    (more : length ls < m) (la : a ≤ 9999) (lb : b ≤ 9999) (gives : Gives 1 n a b k) where
  edges_refused : read_edges n m [] (plain_lines (edge_lines ls ++ (filled edge_form (a ∷ b ∷ []) ++ rest))) ≡ refused (suc k)
  unfolding read_edges ◌>>=◌
  edges_refused =
      edges_then n high ls [] m (suc (m - length ls - 1)) (filled edge_form (a ∷ b ∷ []) ++ rest) (fresh_all n ls two once) (omega arith)
      ∙ rw (edge_plain a b la lb rest, edge_refused n (m - length ls - 1) a b k (held_after (ones ls) []) la lb gives)

  -- the whole file
  pub file_refused : (room : ℕ) → 1 ≤ n → m ≤ 4096 → m ≤ room →
      read_dimacs room (filled problem_form (n ∷ m ∷ []) ++ (edge_lines ls ++ (filled edge_form (a ∷ b ∷ []) ++ rest))) ≡ refused (suc k)
  unfolding read_dimacs read_lines first second ◌>>=◌
  file_refused room low short fits =
      rw (
        problem_plain n m (omega arith) (omega arith) (edge_lines ls ++ (filled edge_form (a ∷ b ∷ []) ++ rest)),
        problem_back room n m low high short fits,
        edges_refused,
      )
