-- What is printed of a kit.
--   kit_text_few, kit_lines_laid           how long its text is; its lines, by what is answered of it and its member bytes
--   number_laid, lines_laid, length_lines  the number given of a list in words, the kit's lines and their length
--   file_refused, argument_refused, size_refused, least_shown    the text by what the file says, the argument and the least size
--   kit_read                               KitRead
--   kit_answered                           the promise of specs/Kits.antt
-- Assumes nothing.
use mathlib.Core.Path.{◌≡◌, refl, sym, ap, ◌∙◌}
use mathlib.Core.Bool.{true}
use mathlib.Core.List.{List, [], ◌∷◌}
use Prim.Native.Nat.{ℕ, ◌≤◌}
use native.Mathlib.Omega.{arith}
use lib.ListN.{length, take, length-append}
use lib.Seq.{take_at}
use Rattle.std.proofs.lemmas.List.{nil_from_length}
use Rattle.theory.specs.Basics.{all}
use Rattle.theory.specs.Lists.{Pairs, is_list}
use Rattle.theory.specs.Groups.{inside, size}
use Rattle.theory.specs.Kits.{kit, kit_causes, kit_number, KitGroup}
use Rattle.theory.specs.Words.{laid_list}
use Rattle.theory.proofs.Bounds.{inside_bound, size_bound}
use Rattle.theory.proofs.Kits.{kit_group, kit_length, good_least, by_number}
use Rattle.theory.proofs.Lists.{listed}
use Rattle.theory.proofs.Refusals.{if_taken_new}
use Rattle.theory.proofs.Tests.{tests}
use Rattle.theory.proofs.Words.{length_laid}
use Rattle.lines.specs.Outcomes.{Outcome, refused, taken, ◌>>=◌, ◌>>◌}
use Rattle.lines.proofs.Found.{judge_refused, judge_passed}
use Rattle.pairfile.specs.File.{read_file}
use Rattle.sheetfile.specs.Writer.{seven_digits}
use Rattle.verify.specs.declared.Verdict.{Verdict}
use Rattle.records.specs.declared.Head.{Head}
use Rattle.on_words.specs.Buffers.{in_front}
use Rattle.on_words.specs.Kitting.{KitSays, KitOn}
use Rattle.on_words.proofs.Kits.{in_range}
use Rattle.kandurzo.specs.Promise.{EveryListKitted, KitTurnedDown}
use Rattle.kandurzo.proofs.Demands.{lent_list}
use Rattle.kandurzo.proofs.Promises.{every_list_kitted, kit_turned_down}
use Rattle.texts.specs.Texts.{refusal_text, printed}
use Rattle.texts.specs.Arguments.{argument_number, number_due}
use Rattle.texts.specs.Kits.{kit_lines, kit_text, least_kitted, kit_printed, KitRead, KitAnswered}
use Rattle.texts.proofs.Lengths.{ratio_length, members_length}
use Rattle.texts.proofs.Whole.{read_as}

-- ---- a kit of at least k modules

kit_text_few : (g : Pairs) (k : ℕ) → is_list g ≡ true → kit_number g.n (length g.pairs) k ≡ 0 → length (kit_text g (kit g k)) ≤ 6175
unfolding kit_text kit_lines seven_digits all KitGroup
kit_text_few g k list z =
    let s = kit g k in
    let n_few = (listed g list).few in
    let range = in_range g.n (length g.pairs) k z in
    let digits : seven_digits (inside g s ∷ size s ∷ []) =
    simp tests (omega (arith, inside_bound g s list), (omega (arith, size_bound g s list (kit_group g k range.0 range.1).0), refl)) in
    simp length-append
    (omega (arith, ratio_length (inside g s) (size s) digits, members_length 0 s (omega (arith, kit_length g k, n_few)), kit_length g k, n_few))

-- its bytes are read back from the front
kit_lines_laid : (g : Pairs) (k : ℕ) {members members' : List ℕ} {v : Verdict} → KitSays g k members v members' → v.number ≡ 0 →
    kit_lines v.p v.q (take g.n members') ≡ kit_text g (kit g k)
unfolding kit_text in_front
kit_lines_laid g k {members} says z =
    rw (
      says.p ∙ if_taken_new _ _ 0 z,
      says.q ∙ if_taken_new _ _ 0 z,
      says.members_are ∙ if_taken_new _ _ members z,
      take_at (kit g k) _ g.n (kit_length g k),
    )
    refl

-- ---- of a list in words

module _ (h : Head) (k : ℕ) {members work members' work' : List ℕ} {v : Verdict} (on : KitOn h k members work v members' work') where
  abbrev g : Pairs
  g = laid_list h.n h.m work

  pub number_laid : v.number ≡ kit_number g.n (length g.pairs) k
  unfolding laid_list
  number_laid = on.number ∙ ap (λ (m : ℕ). kit_number h.n m k) (sym (length_laid h.m work))

  module _ (z : v.number ≡ 0) where
    pub lines_laid : kit_lines v.p v.q (take h.n members') ≡ kit_text g (kit g k)
    unfolding laid_list
    lines_laid = kit_lines_laid g k on.says z

    pub length_lines : is_list g ≡ true → length (kit_lines v.p v.q (take h.n members')) ≤ 6175
    length_lines list = rw lines_laid (kit_text_few g k list (sym number_laid ∙ z))

-- ---- what is printed

module _ (argument : List ℕ) {file : Outcome Pairs} where
  -- a refused file
  pub file_refused : {number : ℕ} → file ≡ refused number → refusal_text number ≡ kit_printed file argument
  unfolding kit_printed printed ◌>>=◌
  file_refused e = rw e refl

  module _ {g : Pairs} (e : file ≡ taken g) where
    -- a refused argument
    pub argument_refused : {number : ℕ} → number_due (argument_number argument) ≡ refused number → refusal_text number ≡ kit_printed file argument
    unfolding kit_printed printed ◌>>=◌
    argument_refused f = rw (e, f) refl

    module _ {k : ℕ} (f : number_due (argument_number argument) ≡ taken k) where
      kitted : printed (least_kitted g k) ≡ kit_printed file argument
      unfolding kit_printed ◌>>=◌
      kitted = rw (e, f) refl

      module _ {number : ℕ} (h : number ≡ kit_number g.n (length g.pairs) k) where
        -- 20, 21
        pub size_refused : (number ≡ 0 → ⊥) → refusal_text number ≡ kit_printed file argument
        unfolding least_kitted kit_number printed ◌>>◌
        size_refused some = rw (judge_refused (kit_causes g.n (length g.pairs) k) (λ z. some (h ∙ z)), ← h) at kitted

        -- the kit
        pub least_shown : number ≡ 0 → kit_text g (kit g k) ≡ kit_printed file argument
        unfolding least_kitted kit_number printed ◌>>◌
        least_shown z = rw (judge_passed (kit_causes g.n (length g.pairs) k) (sym h ∙ z)) at kitted

pub kit_read : {bytes argument text : List ℕ} → text ≡ kit_printed (read_file 4096 bytes) argument → KitRead bytes argument text
kit_read {argument = argument} is = record { due = λ file e. is ∙ ap (λ (o : Outcome Pairs). kit_printed o argument) (read_as e) }

-- ---- the promise

pub kit_answered : KitAnswered
unfolding KitAnswered EveryListKitted KitTurnedDown number_due
kit_answered file argument g k h ps members work v members' work' e f lent a w call =
    let named : number_due (argument_number argument) ≡ taken k = rw f refl in
    let down = kit_turned_down g h ps k members work v members' work' lent a w call in
    let number : v.number ≡ kit_number g.n (length g.pairs) k =
    by_number g.n (length g.pairs) k
    (λ z i. ap (λ (u : Verdict). u.number) (down.0.0 (nil_from_length g.pairs z)).answer ∙ sym i)
    (λ l bad i. ap (λ (u : Verdict). u.number) (down.1.0 (l, bad)).answer ∙ sym i)
    (λ l good i.
    let range = good_least g.n (length g.pairs) k good in
    (every_list_kitted g h ps k members work v members' work' lent l range.0 range.1 a w call).number ∙ sym i) in (
      λ n. sym (size_refused argument e named number n),
      λ z. sym (least_shown argument e named number z) ∙ sym (kit_lines_laid g k (rw (lent_list lent) at call.says) z),
    )
