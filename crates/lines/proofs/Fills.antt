-- A line and its form: the line written with given numbers is read, and a line that is read was written so.
--   small                         a number of at most d digits
--   parted                        in a form something other than a digit stands between two numbers and behind the last
--   line_filled                   a line that is written is read
--   LineSpelled, line_spelled     a line that is read was written so
-- Assumes nothing.
use mathlib.Core.Path.{◌≡◌, refl, ap, ◌∙◌}
use mathlib.Core.Bool.{Bool, true, false, ◌&&◌, ◌||◌, not}
use mathlib.Core.List.{List, [], ◌∷◌, ◌++◌, append_assoc}
use Rattle.std.proofs.Common.{Option, None, Some}
use Prim.Native.Nat.{ℕ, ◌^◌, ◌≤◌, ◌<◌}
use native.Mathlib.Omega.{arith}
use borrow.Author.Tests.{eqb-true, eq-eqb, not-true}
use lib.Dec.{ltb, eqb}
use lib.ListN.{length}
use Rattle.theory.specs.Basics.{all, mark}
use Rattle.theory.proofs.Tests.{tests, implied, by_test}
use Rattle.lines.specs.Numbers.{is_digit, digits, Number, number_of, spelled}
use Rattle.lines.specs.Lines.{is_place, places, Line, with_numbers, after_number, after_byte, line_of, filled}
use Rattle.lines.proofs.Spelling.{number_spelled, number_of_spelled, some_same, none_not_some}

-- a number of at most d digits
unfoldable pub small : (d n : ℕ) → Bool
small d n = ltb n (10 ^ d)

-- neither a digit nor a number's place stands first
unfoldable pub starts_plain : List ℕ → Bool
starts_plain [] = false
starts_plain (d ∷ ds) = not (is_digit d) && not (is_place d)

-- such a byte stands behind each place of a number
unfoldable pub parted : List ℕ → Bool
parted [] = true
parted (c ∷ cs) = (not (is_place c) || starts_plain cs) && parted cs

plain_front : (cs ns rest : List ℕ) → starts_plain cs ≡ true → digits (filled cs ns ++ rest) ≡ []
unfolding starts_plain filled digits
plain_front [] ns rest h = absurd (let z : ◌≡◌ {A = ℕ} 0 1 = cc in omega arith)
plain_front (d ∷ ds) ns rest h =
    let h' = simp tests at h in
    rw (not-true (is_place d) h'.1, not-true (is_digit d) h'.0)

module _ (d : ℕ) (some_digit : 1 ≤ d) (few : d ≤ 10) (c : ℕ) (cs ns rest : List ℕ) where
  place_filled : (n : ℕ) → is_place c ≡ true → starts_plain cs ≡ true → n < 10 ^ d →
      line_of d cs (filled cs ns ++ rest) ≡ Some (record { numbers = ns; rest = rest }) →
      line_of d (c ∷ cs) (filled (c ∷ cs) (n ∷ ns) ++ rest) ≡ Some (record { numbers = n ∷ ns; rest = rest })
  unfolding line_of filled with_numbers after_number
  place_filled n t p s ih =
      rw (t, append_assoc (spelled n) (filled cs ns) rest, number_spelled d n (filled cs ns ++ rest) some_digit few s (plain_front cs ns rest p), ih)

  byte_filled : is_place c ≡ false → line_of d cs (filled cs ns ++ rest) ≡ Some (record { numbers = ns; rest = rest }) →
      line_of d (c ∷ cs) (filled (c ∷ cs) ns ++ rest) ≡ Some (record { numbers = ns; rest = rest })
  unfolding line_of filled after_byte
  byte_filled t ih = rw (t, eq-eqb c c refl, ih)

-- a line that is written is read
pub line_filled : (d : ℕ) → 1 ≤ d → d ≤ 10 → (form ns rest : List ℕ) → parted form ≡ true → length ns ≡ places form → all (small d) ns ≡ true →
    line_of d form (filled form ns ++ rest) ≡ Some (record { numbers = ns; rest = rest })
unfolding parted places mark all small line_of filled
line_filled d u w [] [] rest p l s = refl
line_filled d u w [] (n ∷ ns) rest p l s = absurd (omega arith)
line_filled d u w (c ∷ cs) [] rest p l s =
    by_test (is_place c) (λ t. absurd (omega (arith, rw t at l)))
    (λ t. byte_filled d u w c cs [] rest t (line_filled d u w cs [] rest (simp tests at p).1 (omega (arith, rw t at l)) s))
line_filled d u w (c ∷ cs) (n ∷ ns) rest p l s =
    let p' = simp tests at p in
    let s' = simp tests at s in
    by_test (is_place c)
    (λ t. place_filled d u w c cs ns rest n t (implied (is_place c) (starts_plain cs) p'.0 t) s'.0
    (line_filled d u w cs ns rest p'.1 (omega (arith, rw t at l)) s'.1))
    (λ t. byte_filled d u w c cs (n ∷ ns) rest t (line_filled d u w cs (n ∷ ns) rest p'.1 (omega (arith, rw t at l)) s))

-- a line that is read was written so
pub record LineSpelled (d : ℕ) (form bs : List ℕ) (l : Line) : Type 0 where
  pub written : bs ≡ filled form l.numbers ++ l.rest
  pub size : length l.numbers ≡ places form
  pub short : all (small d) l.numbers ≡ true

module _ (d : ℕ) (few : d ≤ 10) (c : ℕ) (cs : List ℕ) (ih : (bs : List ℕ) (l : Line) → line_of d cs bs ≡ Some l → LineSpelled d cs bs l) where
  place_spelled : (bs : List ℕ) (l : Line) → is_place c ≡ true → after_number (number_of d bs) (line_of d cs) ≡ Some l → LineSpelled d (c ∷ cs) bs l
  unfolding after_number with_numbers places mark filled all small
  place_spelled bs l t e = of_number (number_of d bs) refl e
    where
      of_line : (x : Number) → number_of d bs ≡ Some x → (o : Option Line) → line_of d cs x.rest ≡ o →
          with_numbers (x.value ∷ []) o ≡ Some l → LineSpelled d (c ∷ cs) bs l
      of_line x g None f h = absurd (none_not_some h)
      of_line x g (Some k) f h =
          let s = some_same h in
          let r = ih x.rest k f in
          let q = number_of_spelled d bs x few g in
          rw (← s) (record {
            written = rw (t, append_assoc) (q.0 ∙ ap (λ (b : List ℕ). spelled x.value ++ b) r.written);
            size = rw t (omega (arith, r.size));
            short = simp tests (q.1, r.short);
          })

      of_number : (o : Option Number) → number_of d bs ≡ o → after_number o (line_of d cs) ≡ Some l → LineSpelled d (c ∷ cs) bs l
      of_number None g h = absurd (none_not_some h)
      of_number (Some x) g h = of_line x g (line_of d cs x.rest) refl h

  byte_spelled : (bs : List ℕ) (l : Line) → is_place c ≡ false → after_byte c bs (line_of d cs) ≡ Some l → LineSpelled d (c ∷ cs) bs l
  unfolding after_byte places mark filled
  byte_spelled [] l t e = absurd (none_not_some e)
  byte_spelled (b ∷ bs) l t e =
      by_test (eqb b c)
      (λ s.
      let r = ih bs l (rw s at e) in
      record {
        written = rw (t, eqb-true b c s) (ap (λ (b : List ℕ). c ∷ b) r.written);
        size = rw t (omega (arith, r.size));
        short = r.short;
      })
      (λ s. absurd (none_not_some (rw s at e)))

-- a line that is read was written so
pub line_spelled : (d : ℕ) → d ≤ 10 → (form bs : List ℕ) (l : Line) → line_of d form bs ≡ Some l → LineSpelled d form bs l
unfolding line_of places filled all
line_spelled d few [] bs l e = rw (← some_same e) (record { written = refl; size = refl; short = refl })
line_spelled d few (c ∷ cs) bs l e =
    let ih = line_spelled d few cs in
    by_test (is_place c) (λ t. place_spelled d few c cs ih bs l t (rw t at e)) (λ t. byte_spelled d few c cs ih bs l t (rw t at e))
