-- Where head and list agree, M records are there; where no lent buffer is short, each is as long as stated.
--   records_enough       M records are there
--   LongEnough, none_short, all_long    no buffer is short exactly where each is as long as stated
--   peel_enough, check_enough, solve_enough, kit_enough, surplus_enough, write_enough, read_enough    a call's buffers then
--   read_short           the work buffer that a reader refuses
-- Assumes nothing.
use mathlib.Core.Path.{◌≡◌, refl, sym, ◌∙◌}
use mathlib.Core.Bool.{Bool, true, false, ◌||◌}
use mathlib.Core.List.{List, [], ◌∷◌}
use Prim.Native.Nat.{ℕ, ◌≤◌, ◌<◌}
use lib.ListN.{length, take}
use lib.Dec.{ltb}
use lib.Seq.{length-take-le}
use borrow.Author.Tests.{ltb-true, ltb-false, le-ltb}
use Rattle.theory.proofs.Tests.{no, by_test}
use Rattle.records.specs.declared.Head.{Head}
use Rattle.records.specs.declared.Pair.{Pair}
use Rattle.records.specs.Records.{agrees}
use Rattle.records.proofs.Scans.{agrees_count}
use Rattle.on_words.specs.Buffers.{Buffer, any_short}
use Rattle.on_words.specs.Peeling.{peel_buffers}
use Rattle.on_words.specs.Judging.{check_buffers, surplus_buffers}
use Rattle.on_words.specs.Solving.{solve_buffers}
use Rattle.on_words.specs.Kitting.{kit_buffers}
use Rattle.on_words.specs.Writing.{write_buffers}
use Rattle.on_words.specs.Reading.{read_buffers}

-- where head and list agree, the first M records are M records
pub records_enough : (h : Head) (ps : List Pair) → agrees h ps ≡ true → h.m ≡ length (take h.m ps)
records_enough h ps e = sym (length-take-le h.m ps (agrees_count h ps e).0)

-- every buffer is as long as stated
abbrev pub LongEnough : List Buffer → Type 0
LongEnough [] = Unit {0}
LongEnough (b ∷ []) = b.needs ≤ b.has
LongEnough (b ∷ c ∷ bs) = (b.needs ≤ b.has) × LongEnough (c ∷ bs)

or_none : (a b : Bool) → (a || b) ≡ false → (a ≡ false) × (b ≡ false)
or_none true b e = no (sym e)
or_none false b e = (refl, e)

none_short : (bs : List Buffer) → any_short bs ≡ false → LongEnough bs
unfolding any_short
none_short [] e = tt
none_short (b ∷ []) e = ltb-false _ _ (or_none _ _ e).0
none_short (b ∷ c ∷ bs) e = let x = or_none _ _ e in (ltb-false _ _ x.0, none_short (c ∷ bs) x.1)

-- and the other way
pub all_long : (bs : List Buffer) → LongEnough bs → any_short bs ≡ false
unfolding any_short
all_long [] e = refl
all_long (b ∷ []) e = rw (le-ltb _ _ e)
all_long (b ∷ c ∷ bs) e = rw (le-ltb _ _ e.0) (all_long (c ∷ bs) e.1)

-- ---- by call

module _ (h : Head) (order cores work : ℕ) {lent : List Buffer} (is : lent ≡ peel_buffers h order cores work) (none : any_short lent ≡ false) where
  pub peel_enough : (h.n ≤ order) × (h.n ≤ cores) × (16384 ≤ work)
  peel_enough = let x = none_short _ (rw is at none) in (x.0, x.1.0, x.1.1)

module _ (h : Head) (members shares work : ℕ) {lent : List Buffer} (is : lent ≡ check_buffers h members shares work) (none : any_short lent ≡ false) where
  pub check_enough : (h.n ≤ members) × (h.m ≤ shares) × (16384 ≤ work)
  check_enough = let x = none_short _ (rw is at none) in (x.0, x.1.0, x.1.1)

module _ (h : Head) (members cores shares work : ℕ) {lent : List Buffer} (is : lent ≡ solve_buffers h members cores shares work)
    (none : any_short lent ≡ false) where
  pub solve_enough : (h.n ≤ members) × (h.n ≤ cores) × (h.m ≤ shares) × (16384 ≤ work)
  solve_enough = let x = none_short _ (rw is at none) in (x.0, x.1.0, x.1.1.0, x.1.1.1)

pub kit_enough : (h : Head) (members work : ℕ) {lent : List Buffer} → lent ≡ kit_buffers h members work → any_short lent ≡ false →
    (h.n ≤ members) × (16384 ≤ work)
kit_enough h members work is none = none_short _ (rw is at none)

pub surplus_enough : (h : Head) (first second : ℕ) {lent : List Buffer} → lent ≡ surplus_buffers h first second → any_short lent ≡ false →
    (h.n ≤ first) × (h.n ≤ second)
surplus_enough h first second is none = none_short _ (rw is at none)

pub write_enough : (text : ℕ) {lent : List Buffer} → lent ≡ write_buffers text → any_short lent ≡ false → 65536 ≤ text
write_enough text is none = none_short _ (rw is at none)

pub read_enough : (work : ℕ) {lent : List Buffer} → lent ≡ read_buffers work → any_short lent ≡ false → 16384 ≤ work
read_enough work is none = none_short _ (rw is at none)

-- and where it is short
pub read_short : (work : ℕ) {lent : List Buffer} → lent ≡ read_buffers work → any_short lent ≡ true → work < 16384
read_short work is short =
    by_test (ltb work 16384) (ltb-true work 16384) (λ f. no (sym (all_long (read_buffers work) (ltb-false work 16384 f)) ∙ rw is at short))
