-- Records and words: laws of `copied_out` and `put_back`.
--   length_ends_of                   two words a record
--   length_copied_out, copied_out_none, copied_out_more    records to words: a buffer's length stays; no record, and one record more
--   copied_out_pairs                   what lies in the words are the pairs that the records stand for
--   copied_out_drop, copied_out_past     the words past the places of records stay
--   copied_out_list, agrees_room, copied_out_holds       where head and list agree, words that are long enough then hold the list
--   put_back_none, put_back_more, put_back_all    words to records: no record, one record more, and all; put_backs: these
--   length_put_back, put_back_part     a list's length stays; the first records, lent as a part of a list
--   records_copied_out                 words read back are the records
--   pair_read, pairs_read              what lies in words are the pairs that the records read from them stand for: at a place, and at the first places
-- Assumes nothing.
use mathlib.Core.Path.{◌≡◌, refl, sym, ap, ◌∙◌, subst}
use Prim.Native.Nat.{ℕ, zero, suc, ◌+◌, ◌*◌, ◌≤◌, ◌<◌}
use native.Mathlib.Numerals.{add-one}
use native.Mathlib.Omega.{arith}
use mathlib.Core.Bool.{true}
use mathlib.Core.List.{List, [], ◌∷◌, ◌++◌, map, map-append, append_assoc, append-nil}
use lib.ListN.{length, get_or, set, take, drop, length-set, length-append, length-drop, length-map, take-append-drop}
use lib.Seq.{length-take-le, take-length, drop-length, get_or-drop, take-suc, take-set-lt, drop-set-lt, set-append_left, drop-cons, append_snoc, set_at}
use Rattle.std.proofs.lemmas.List.{get_or-map}
use Rattle.theory.specs.Basics.{table}
use Rattle.theory.specs.Lists as Lists
use Rattle.theory.specs.Words.{word_pair, pairs_in, counts_of, laid_pairs, laid_list, HoldsList, put_at}
use Rattle.theory.proofs.Tests.{tests}
use Rattle.theory.proofs.Tables.{length_table, table_ext}
use Rattle.theory.proofs.Words.{length_put, put_below, put_in, put_drop}
use Rattle.records.specs.Records.{as_pair, as_pairs, held_list, agrees, blank, ends_of, weights_of, copied_record, copied_out}
use Rattle.records.specs.Records.{word_record, records_in, put_back, RoomOut}
use Rattle.records.specs.declared.Pair.{Pair}
use Rattle.records.specs.declared.Head.{Head}
use Rattle.records.proofs.Scans.{agrees_count}

-- ---- one entry more of new ones
module _ (k : ℕ) (new old : List ℕ) (v j : ℕ) where
  put_more : j ≡ k + length new → j < length old → set (put_at k new old) j v ≡ put_at k (new ++ (v ∷ [])) old
  unfolding put_at
  put_more at room =
      let front : length (take k old ++ new) ≡ j = length-append (take k old) new ∙ omega (arith, at, length-take-le k old (omega (arith, at, room))) in
      let next : k + length (new ++ (v ∷ [])) ≡ suc j = omega (arith, at, length-append new (v ∷ [])) in
      cc (
        at,
        next,
        drop-cons old j 0 room,
        append_assoc (take k old) new (get_or old j 0 ∷ drop (suc j) old),
        set_at (take k old ++ new) (get_or old j 0) (drop (suc j) old) v j front,
        append_assoc (take k old) new (v ∷ drop (suc j) old),
        append_snoc new v (drop (suc j) old),
      )

-- an entry before new ones
put_before : (k : ℕ) (new old : List ℕ) (v j : ℕ) → j < k → k ≤ length old → set (put_at k new old) j v ≡ put_at k new (set old j v)
unfolding put_at
put_before k new old v j l room =
    cc (
      set-append_left (take k old) (new ++ drop (k + length new) old) j v (omega (arith, l, length-take-le k old room)),
      take-set-lt k old j v l,
      drop-set-lt (k + length new) old j v (omega (arith, l)),
    )

-- ---- records to words
pub length_ends_of : (ps : List Pair) → length (ends_of ps) ≡ 2 * length ps
unfolding ends_of
length_ends_of [] = refl
length_ends_of (p ∷ ps) = omega (arith, length_ends_of ps)

ends_of_more : (ps : List Pair) (p : Pair) → ends_of (ps ++ (p ∷ [])) ≡ (ends_of ps ++ (p.a ∷ [])) ++ (p.b ∷ [])
unfolding ends_of
ends_of_more [] p = refl
ends_of_more (q ∷ ps) p = ap {B = List ℕ} (λ (xs : List ℕ). q.a ∷ q.b ∷ xs) (ends_of_more ps p)

weights_of_more : (ps : List Pair) (p : Pair) → weights_of (ps ++ (p ∷ [])) ≡ weights_of ps ++ (p.w ∷ [])
unfolding weights_of
weights_of_more ps p = map-append (λ (q : Pair). q.w) ps (p ∷ [])

-- the words of record j
double_suc : (j : ℕ) → 2 * suc j ≡ suc (suc (2 * j))
double_suc j = omega arith

ends_at : (ps : List Pair) (j : ℕ) → j < length ps
    → (get_or (ends_of ps) (2 * j) 0 ≡ (get_or ps j blank).a) × (get_or (ends_of ps) (suc (2 * j)) 0 ≡ (get_or ps j blank).b)
unfolding ends_of
ends_at [] j l = absurd (omega (arith, l))
ends_at (p ∷ ps) zero l = (refl, refl)
ends_at (p ∷ ps) (suc j) l =
    subst (λ (i : ℕ). (get_or (p.a ∷ p.b ∷ ends_of ps) i 0 ≡ (get_or ps j blank).a) × (get_or (p.b ∷ ends_of ps) i 0 ≡ (get_or ps j blank).b))
    (sym (double_suc j)) (ends_at ps j (omega (arith, l)))

weights_at : (ps : List Pair) (j : ℕ) → j < length ps → get_or (weights_of ps) j 0 ≡ (get_or ps j blank).w
unfolding weights_of
weights_at ps j l = get_or-map (λ p. p.w) ps j blank 0 l

-- no record: nothing is written
pub copied_out_none : (ws : List ℕ) → copied_out [] ws ≡ ws
unfolding copied_out ends_of weights_of put_at
copied_out_none ws = take-append-drop 8192 ws

-- some records, and places for them
module _ (ps : List Pair) (ws : List ℕ) (few : length ps ≤ 4096) (long : 12288 ≤ length ws) where
  abbrev es : List ℕ
  es = ends_of ps

  abbrev cs : List ℕ
  cs = weights_of ps

  length_cs : length cs ≡ length ps
  unfolding weights_of
  length_cs = length-map ps (λ p. p.w)

  room_es : 0 + length es ≤ length ws
  room_es = omega (arith, length_ends_of ps, few, long)

  room_cs : 8192 + length cs ≤ length (put_at 0 es ws)
  room_cs = omega (arith, length_cs, few, long, length_put 0 es ws room_es)

  length_laid : length (copied_out ps ws) ≡ length ws
  unfolding copied_out
  length_laid = length_put 8192 cs (put_at 0 es ws) room_cs ∙ length_put 0 es ws room_es

  past_laid : (k : ℕ) → 12288 ≤ k → drop k (copied_out ps ws) ≡ drop k ws
  unfolding copied_out
  past_laid k l =
      put_drop 8192 cs (put_at 0 es ws) room_cs k (omega (arith, length_cs, few, l))
      ∙ put_drop 0 es ws room_es k (omega (arith, length_ends_of ps, few, l))

  -- a word of the ends
  end_laid : (k : ℕ) → k < 2 * length ps → get_or (copied_out ps ws) k 0 ≡ get_or es k 0
  unfolding copied_out
  end_laid k l =
      let e : k ≡ 0 + k = omega arith in
      cc (e, put_below 8192 cs (put_at 0 es ws) room_cs k (omega (arith, l, few)), put_in 0 es ws room_es k (omega (arith, l, length_ends_of ps)))

  module _ (j : ℕ) (l : j < length ps) where
    first_laid : get_or (copied_out ps ws) (2 * j) 0 ≡ (get_or ps j blank).a
    first_laid = end_laid (2 * j) (omega (arith, l)) ∙ (ends_at ps j l).0

    second_laid : get_or (copied_out ps ws) (2 * j + 1) 0 ≡ (get_or ps j blank).b
    second_laid =
        let e : 2 * j + 1 ≡ suc (2 * j) = omega arith in
        cc (e, end_laid (2 * j + 1) (omega (arith, l)), (ends_at ps j l).1)

    weight_laid : get_or (copied_out ps ws) (8192 + j) 0 ≡ (get_or ps j blank).w
    unfolding copied_out
    weight_laid = put_in 8192 cs (put_at 0 es ws) room_cs j (omega (arith, l, length_cs)) ∙ weights_at ps j l

-- one record more
module _ (ps : List Pair) (next : Pair) (ws : List ℕ) (few : length ps < 4096) (long : 12288 ≤ length ws) where
  -- its numbers
  ends_more : set (set (put_at 0 (ends_of ps) ws) (2 * length ps) next.a) (2 * length ps + 1) next.b ≡ put_at 0 (ends_of (ps ++ (next ∷ []))) ws
  ends_more =
      let es : List ℕ = ends_of ps in
      let fs : List ℕ = es ++ (next.a ∷ []) in
      let fs_long : length fs ≡ 2 * length ps + 1 = omega (arith, length_ends_of ps, length-append es (next.a ∷ [])) in
      cc (
        put_more 0 es ws next.a (2 * length ps) (omega (arith, length_ends_of ps)) (omega (arith, few, long)),
        put_more 0 fs ws next.b (2 * length ps + 1) (omega (arith, fs_long)) (omega (arith, few, long)),
        ends_of_more ps next,
      )

  -- its numbers and its count: the numbers lie before the counts
  next_copied : copied_record (copied_out ps ws) (length ps) next ≡ copied_out (ps ++ (next ∷ [])) ws
  unfolding copied_record copied_out
  next_copied =
      let cs : List ℕ = weights_of ps in
      let old : List ℕ = put_at 0 (ends_of ps) ws in
      let new : List ℕ = put_at 0 (ends_of (ps ++ (next ∷ []))) ws in
      let old_long : length old ≡ length ws = length_put 0 (ends_of ps) ws (room_es ps ws (omega (arith, few)) long) in
      let next_few : length (ps ++ (next ∷ [])) ≤ 4096 = omega (arith, few, length-append ps (next ∷ [])) in
      let new_long : length new ≡ length ws = length_put 0 (ends_of (ps ++ (next ∷ []))) ws (room_es (ps ++ (next ∷ [])) ws next_few long) in
      let mid_long : length (set old (2 * length ps) next.a) ≡ length ws = length-set old (2 * length ps) next.a ∙ old_long in
      let cs_long : length cs ≡ length ps = length_cs ps ws (omega (arith, few)) long in
      cc (
        put_before 8192 cs old next.a (2 * length ps) (omega (arith, few)) (omega (arith, old_long, long)),
        put_before 8192 cs (set old (2 * length ps) next.a) next.b (2 * length ps + 1) (omega (arith, few)) (omega (arith, mid_long, long)),
        ends_more,
        put_more 8192 cs new next.w (8192 + length ps) (omega (arith, cs_long)) (omega (arith, new_long, few, long)),
        weights_of_more ps next,
      )

-- so of the next of some records
pub copied_out_more : (ps : List Pair) (ws : List ℕ) (i : ℕ) → RoomOut ps ws → i < length ps →
    copied_record (copied_out (take i ps) ws) i (get_or ps i blank) ≡ copied_out (take (i + 1) ps) ws
copied_out_more ps ws i r l =
    let at : length (take i ps) ≡ i = length-take-le i ps (omega (arith, l)) in
    ap (λ (j : ℕ). copied_record (copied_out (take i ps) ws) j (get_or ps i blank)) (sym at)
    ∙ next_copied (take i ps) (get_or ps i blank) ws (omega (arith, at, l, r.few)) (r.long (omega (arith, l)))
    ∙ ap (λ (qs : List Pair). copied_out qs ws) (sym (take-suc ps i blank l) ∙ ap (λ (j : ℕ). take j ps) (sym (add-one i)))

-- a buffer keeps its length
pub length_copied_out : (ps : List Pair) (ws : List ℕ) → RoomOut ps ws → length (copied_out ps ws) ≡ length ws
length_copied_out [] ws r = ap {B = ℕ} (λ (xs : List ℕ). length xs) (copied_out_none ws)
length_copied_out (p ∷ ps) ws r = length_laid (p ∷ ps) ws r.few (r.long (omega arith))

-- and what lies past the places, from any word on
pub copied_out_drop : (ps : List Pair) (ws : List ℕ) → RoomOut ps ws → (k : ℕ) → 12288 ≤ k → drop k (copied_out ps ws) ≡ drop k ws
copied_out_drop [] ws r k l = ap {B = List ℕ} (λ (xs : List ℕ). drop k xs) (copied_out_none ws)
copied_out_drop (p ∷ ps) ws r k l = past_laid (p ∷ ps) ws r.few (r.long (omega arith)) k l

pub copied_out_past : (ps : List Pair) (ws : List ℕ) → RoomOut ps ws → drop 12288 (copied_out ps ws) ≡ drop 12288 ws
copied_out_past ps ws r = copied_out_drop ps ws r 12288 (omega arith)

-- ---- words to records
set_table : {A : Type 0} (f : ℕ → A) (xs : List A) (i : ℕ) → i < length xs → set (table i f ++ drop i xs) i (f i) ≡ table (suc i) f ++ drop (suc i) xs
unfolding table
set_table f [] i l = absurd (omega (arith, l))
set_table f (x ∷ xs) zero l = refl
set_table f (x ∷ xs) (suc i) l = ap {B = List _} (λ r. f 0 ∷ r) (set_table (λ j. f (suc j)) xs i (omega (arith, l)))

-- no record: nothing is written
pub put_back_none : (ps : List Pair) (ws : List ℕ) → put_back ps ws 0 ≡ ps
unfolding put_back records_in table
put_back_none ps ws = refl

-- one record more
pub put_back_more : (ps : List Pair) (ws : List ℕ) (i : ℕ) → i < length ps → set (put_back ps ws i) i (word_record ws i) ≡ put_back ps ws (i + 1)
unfolding put_back records_in
put_back_more ps ws i l = rw (add-one i) (set_table (word_record ws) ps i l)

-- all of them
pub put_back_all : (ps : List Pair) (ws : List ℕ) (m : ℕ) → length ps ≡ m → put_back ps ws m ≡ records_in m ws
unfolding put_back
put_back_all ps ws m e = rw (← e, drop-length ps) (append-nil (records_in (length ps) ws))

pub ruleset put_backs = (put_back_none, put_back_more, put_back_all)

-- a list keeps its length
pub length_put_back : (ps : List Pair) (ws : List ℕ) (m : ℕ) → m ≤ length ps → length (put_back ps ws m) ≡ length ps
unfolding put_back records_in
length_put_back ps ws m l = length-append (table m (word_record ws)) (drop m ps) ∙ omega (arith, l, length_table m (word_record ws), length-drop m ps)

-- the first of them, lent as a part of the list
pub put_back_part : (ps : List Pair) (ws : List ℕ) (m : ℕ) → m ≤ length ps → records_in (length (take m ps)) ws ++ drop m ps ≡ put_back ps ws m
unfolding put_back
put_back_part ps ws m l = ap (λ (k : ℕ). records_in k ws ++ drop m ps) (length-take-le m ps l)

-- ---- there and back
table_take : {A : Type 0} (d : A) (xs : List A) (m : ℕ) → m ≤ length xs → table m (λ j. get_or xs j d) ≡ take m xs
unfolding table
table_take d xs zero l = refl
table_take d [] (suc m) l = absurd (omega (arith, l))
table_take d (x ∷ xs) (suc m) l = ap {B = List _} (λ r. x ∷ r) (table_take d xs m (omega (arith, l)))

table_map : {A B : Type 0} (f : ℕ → A) (g : A → B) (m : ℕ) → table m (λ j. g (f j)) ≡ map g (table m f)
unfolding table
table_map f g zero = refl
table_map f g (suc m) = ap {B = List _} (λ r. g (f 0) ∷ r) (table_map (λ j. f (suc j)) g m)

-- what lies at place j is the pair that the record read from there stands for
pub pair_read : (ws : List ℕ) (j : ℕ) → word_pair ws (counts_of ws) j ≡ as_pair (word_record ws j)
unfolding word_pair counts_of as_pair
pair_read ws j = ap (λ (c : ℕ). record { a = get_or ws (2 * j) 0; b = get_or ws (2 * j + 1) 0; w = c }) (get_or-drop 8192 ws j 0)

-- and so at the first m places
pub pairs_read : (m : ℕ) (ws : List ℕ) → laid_pairs m ws ≡ as_pairs (records_in m ws)
unfolding laid_pairs pairs_in records_in as_pairs
pairs_read m ws = table_ext m _ (λ j. as_pair (word_record ws j)) (λ j _. pair_read ws j) ∙ table_map (word_record ws) as_pair m

module _ (ps : List Pair) (ws : List ℕ) (r : RoomOut ps ws) where
  -- the record at place j
  record_laid : (j : ℕ) → j < length ps → word_record (copied_out ps ws) j ≡ get_or ps j blank
  record_laid j l =
      let there : 12288 ≤ length ws = r.long (omega (arith, l)) in
      λ i. record {
        a = first_laid ps ws r.few there j l i;
        b = second_laid ps ws r.few there j l i;
        w = weight_laid ps ws r.few there j l i;
      }

  -- words read back are the records
  pub records_copied_out : records_in (length ps) (copied_out ps ws) ≡ ps
  unfolding records_in
  records_copied_out =
      table_ext (length ps) _ (λ j. get_or ps j blank) record_laid ∙ table_take blank ps (length ps) (omega arith) ∙ take-length ps

  -- words stand for the pairs that the records stand for
  pub copied_out_pairs : laid_pairs (length ps) (copied_out ps ws) ≡ as_pairs ps
  copied_out_pairs = pairs_read (length ps) (copied_out ps ws) ∙ ap as_pairs records_copied_out

-- ---- where head and list agree, words that are long enough then hold the list
module _ (h : Head) (ps : List Pair) (ws : List ℕ) where
  pub copied_out_list : h.m ≤ length ps → RoomOut (take h.m ps) ws → laid_list h.n h.m (copied_out (take h.m ps) ws) ≡ held_list h ps
  unfolding laid_list held_list
  copied_out_list l r =
      let long : length (take h.m ps) ≡ h.m = length-take-le h.m ps l in
      ap (λ (qs : List Lists.Pair). record { n = h.n; pairs = qs }) (rw long at (copied_out_pairs (take h.m ps) ws r))

  module _ (e : agrees h ps ≡ true) (long : 12288 ≤ length ws) where
    pub agrees_room : RoomOut (take h.m ps) ws
    agrees_room = record { few = omega (arith, length-take-le h.m ps (agrees_count h ps e).0, (agrees_count h ps e).1); long = λ _. long }

    pub copied_out_holds : HoldsList h.n h.m (copied_out (take h.m ps) ws)
    unfolding agrees
    copied_out_holds =
        let e' = simp tests at e in
        record {
          listed = rw (copied_out_list (agrees_count h ps e).0 agrees_room) e'.1;
          long = omega (arith, long, length_copied_out (take h.m ps) ws agrees_room);
        }
