-- A file is decided by its first bytes: what lies behind the longest file that could be accepted changes nothing.
--   read_trimmed    the whole file
-- Assumes nothing.
use mathlib.Core.Path.{◌≡◌, refl}
use mathlib.Core.List.{List, []}
use Prim.Native.Nat.{ℕ, zero, suc, ◌+◌, ◌*◌, ◌≤◌}
use native.Mathlib.Omega.{arith}
use lib.ListN.{take}
use Rattle.theory.specs.Lists.{Pair}
use Rattle.pairs.specs.Held.{insert_pair}
use Rattle.lines.specs.Text.{text, between}
use Rattle.lines.specs.Numbers.{is_digit}
use Rattle.lines.specs.Lines.{is_place, first, second, third}
use Rattle.pairfile.specs.File.{
  modules_form,
  pairs_form,
  pair_form,
  head_line,
  modules_line,
  pairs_causes,
  pairs_line,
  pair_line,
  end_causes,
  read_pairs,
  read_file,
}
use Rattle.pairfile.proofs.Taken.{head_taken, pairs_unmet}
use Rattle.lines.proofs.Fills.{starts_plain, parted}
use Rattle.lines.proofs.Prefix.{span, rest_alike, alike_same, trim_line, judged_alike}

-- a pair line has at most 15 bytes
pairs_trimmed : (n left w : ℕ) (held : List Pair) (bs : List ℕ) → 15 * left + 1 ≤ w → read_pairs n left held (take w bs) ≡ read_pairs n left held bs
unfolding read_pairs end_causes pair_line first second third pair_form text parted starts_plain span is_place is_digit between
pairs_trimmed n zero w held bs h = rw (rest_alike w bs (omega arith))
pairs_trimmed n (suc left) w held bs h =
    alike_same _
    (judged_alike 1 4 pair_form w bs refl (omega arith) (λ v x. record { pair = x.pair; rest = take v x.rest }) _ _ (λ l v. refl) (λ l v. refl))
    (λ x v e r. pairs_trimmed n left v (insert_pair x.pair held) x.rest (omega arith))

-- a file is decided by its first 65,536 bytes
pub read_trimmed : (room w : ℕ) (bs : List ℕ) → 65536 ≤ w → read_file room (take w bs) ≡ read_file room bs
unfolding read_file modules_line pairs_line head_line first modules_form pairs_form text parted starts_plain span is_place is_digit between
read_trimmed room w bs h =
    alike_same _ (judged_alike 1 4 modules_form w bs refl (omega arith) trim_line _ _ (λ l v. refl) (λ l v. refl))
    (λ l v e r. alike_same _ (judged_alike 1 4 pairs_form v l.rest refl (omega arith) trim_line _ _ (λ k u. refl) (λ k u. refl))
    (λ k u d s.
    let few = pairs_unmet room (first k) (head_taken pairs_form l.rest (pairs_causes room) k d).1 in
    rw (pairs_trimmed (first l) (first k) u [] k.rest (omega (arith, few)))))
