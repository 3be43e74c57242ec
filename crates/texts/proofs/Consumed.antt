-- What has been read of a file into a buffer, and is consumed of it.
--   read_more    a read gives the file's next bytes
--   read_ends    all of the file has been read, where none is left
-- Assumes nothing.
use Rattle.std.proofs.Common.{◌≡◌, ◌∙◌, sym, ap, subst, ℕ, ◌+◌, ◌-◌, ◌≤◌, List, ◌++◌, Option, Some, None, IfSome, length, take, slice_range, le_refl, drop_at, length-take-le, arith}
use Rattle.std.specs.Io.KnownBytes.{Consumes, IsAtEnd}
use Rattle.std.proofs.KnownBytes.{Consumes-trans}
use Rattle.std.proofs.lemmas.List.{append-nil}
use Rattle.std.proofs.lemmas.Slice.{take-put_mid_below}
use borrow.Rule.Slice.PartMut.{put_mid, post_of}
use lib.ListN.{length-take}
use lib.Seq.{take-add, take-append-le, take_all}
use Rattle.texts.specs.Printed.{ReadOf}

take_split : (a b : ℕ) (old new : List ℕ) → a ≤ b → take a new ≡ take a old → take a old ++ slice_range new a b ≡ take b new
take_split a b old new h front =
    let same : a + (b - a) ≡ b = omega arith in
    ap (λ l. l ++ slice_range new a b) (sym front) ∙ sym (take-add a (b - a) new) ∙ ap (λ n. take n new) same

slice_range-put_mid : (a k n : ℕ) (xs ys : List ℕ) → a ≤ length xs → n ≤ length ys → slice_range (put_mid a k xs ys) a (a + n) ≡ take n ys
slice_range-put_mid a k n xs ys within fits =
    let same : (a + n) - a ≡ n = omega arith in
    let after = post_of a k xs in
    ap (take ((a + n) - a)) (drop_at (take a xs) (ys ++ after) a (length-take-le a xs within)) ∙ ap (λ m. take m (ys ++ after)) same
    ∙ take-append-le n ys after fits

-- the first bytes of the buffer had been consumed, and the first n of what is put behind them are
module _ (old now next : Option (List ℕ)) (from n : ℕ) (buffer part : List ℕ) where
  abbrev after : List ℕ
  after = put_mid from (length buffer - from) buffer part

  pub read_more : from ≤ length buffer → n ≤ length part → Consumes old now (take from buffer) → Consumes now next (take n part) →
      Consumes old next (take (from + n) after)
  read_more within fits before more =
      let joined = take_split from (from + n) buffer after (omega arith) (take-put_mid_below _ _ _ _ _ (le_refl _) within) in
      let last = slice_range-put_mid from (length buffer - from) n buffer part within fits in
      subst (Consumes old next) (ap (λ l. take from buffer ++ l) (sym last) ∙ joined) (Consumes-trans _ _ _ _ _ before more)

-- the first bytes of a buffer, which has room for the first `decide` bytes of a file, were consumed, and none is left
pub read_ends : (decide room k : ℕ) (old new : Option (List ℕ)) (buffer : List ℕ) → decide ≤ room → k ≤ room →
    Consumes old new (take k buffer) → IsAtEnd new → IfSome old (λ file. ReadOf decide (take k buffer) file)
read_ends decide room k None new buffer enough fits c e = tt
read_ends decide room k (Some xs) None buffer enough fits c e = absurd c
read_ends decide room k (Some xs) (Some ys) buffer enough fits c e =
    let bytes = take k buffer in
    let whole : xs ≡ bytes = c ∙ ap (λ (zs : List ℕ). bytes ++ zs) e ∙ append-nil bytes in
    record { room = room; enough = enough; front = rw whole (sym (take_all room bytes (omega (arith, length-take k buffer)))) }
