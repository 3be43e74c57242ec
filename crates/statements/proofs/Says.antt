-- Document 03's statements of peel, solve, check and surplus, from the contracts of our calls; the theorems of specs/Promise.antt.
--   list_says       13
--   peel_says       peel
--   solve_says      solve
--   check_says      check
--   twenty_says     where solve and check turn a list down
--   surplus_says    surplus
-- Assumes nothing.
use mathlib.Core.Path.{◌≡◌, refl, sym, ap, ◌∙◌}
use mathlib.Core.Bool.{Bool, true, false, ◌&&◌, ◌||◌, not, cond, or-false}
use mathlib.Core.List.{List, [], ◌∷◌}
use mathlib.Core.Logic.{inl, ◌↔◌}
use Prim.Native.Nat.{ℕ, zero, suc}
use native.Mathlib.Omega.{arith}
use lib.Dec.{eqb, ltb}
use lib.ListN.{length, take}
use borrow.Author.Tests.{eqb-true, ne_eqb, not-false}
use Rattle.theory.specs.Groups.{is_group}
use Rattle.theory.specs.Refusals.{Cause, cause, refusal, if_taken}
use Rattle.theory.specs.Check.{check_causes, check_number}
use Rattle.theory.specs.Pairless.{no_pair, group_causes, judged_causes}
use Rattle.theory.specs.Surplus.{surplus_causes}
use Rattle.theory.specs.Ratio.{float_ratio}
use Rattle.theory.specs.Plain as plain
use Rattle.theory.specs.Plain.{weighted}
use Rattle.theory.proofs.Refusals.{refusal_none}
use Rattle.theory.proofs.Plain.{inside_plain, found_plain, surplus_plain, members_plain, check_plain}
use Rattle.theory.proofs.PlainCores.{leaving_plain, core_numbers_plain}
use Rattle.records.specs.declared.Pair.{Pair}
use Rattle.records.specs.declared.Head.{Head}
use Rattle.records.specs.Records.{held_list, agrees, ends_of}
use Rattle.verify.specs.declared.Verdict.{Verdict}
use Rattle.verify.specs.declared.Difference.{Difference}
use Rattle.on_words.specs.declared.Solved.{Solved}
use Rattle.on_words.specs.Buffers as ours
use Rattle.on_words.specs.Gate.{gate_number}
use Rattle.on_words.specs.Peeling.{peel_buffers}
use Rattle.kandurzo.specs.Peeling.{peel_call_causes, PeelCall}
use Rattle.on_words.specs.Solving.{declined, Handed}
use Rattle.kandurzo.specs.Solving.{solve_call_causes, SolveCall}
use Rattle.on_words.specs.Judging.{check_buffers, surplus_buffers}
use Rattle.kandurzo.specs.Judging.{check_call_causes, CheckCall, surplus_call_causes, SurplusCall}
use Rattle.kandurzo.proofs.Gates.{gate_open}
use Rattle.kandurzo.proofs.Taken.{held_few, length_held}
use Rattle.kandurzo.proofs.Judgements.{check_few}
use Rattle.on_words.proofs.Enough.{check_enough, surplus_enough}
use Rattle.statements.specs.Entry.{in_front, kept_or, work_left, peel_refusal, PeelSays, ratio, solve_refusal, Turned, SolveAs, SolveSays}
use Rattle.statements.specs.Entry.{CheckSays, surplus_refusal, Differs, SurplusSays}
use Rattle.statements.specs.Promise.{Ones, ListStated, PeelStated, SolveStated, CheckStated, TwentyStated, SurplusStated}
use Rattle.statements.proofs.Lent.{lent, list_lent, held_lent, refusal_lent}
use Rattle.statements.proofs.Sheets.{found_as}
use Rattle.statements.proofs.Twenty.{number, past_twenty, twenty_where}

-- what is the same where nothing is refused is the same answer
same_taken : {A : Type 0} (k : ℕ) (x y old : A) → (k ≡ 0 → x ≡ y) → if_taken k x old ≡ if_taken k y old
unfolding if_taken
same_taken k x y old f = go (eqb k 0) refl
  where
    go : (t : Bool) → eqb k 0 ≡ t → cond t x old ≡ cond t y old
    go true e = f (eqb-true k 0 e)
    go false e = refl

-- a list has no pair where its M is 0
none_where : (m : ℕ) → (no_pair m ≡ true) ↔ (m ≡ 0)
unfolding no_pair
none_where m = (λ t. eqb-true m 0 t, λ e. rw e refl)

-- 13 written first, or last
turned : (t : Bool) (x y : ℕ) → cond (not t) x y ≡ cond t y x
turned true x y = refl
turned false x y = refl

-- the list as document 03 reads it, and its 13
module _ (h : Head) (ps : List Pair) where
  abbrev g : plain.Pairs
  g = lent h ps

  abbrev refused : ℕ
  refused = plain.list_refusal h.n h.m (ends_of ps)

  -- where nothing is refused, head and records agree
  agreed : (short : Bool) (causes : List Cause) → refusal (cause 13 (not (agrees h ps)) ∷ cause 12 short ∷ causes) ≡ 0 → agrees h ps ≡ true
  agreed short causes e = not-false _ (refusal_none 12 _ _ e).0

module _ (h : Head) (ps : List Pair) (once : Ones h ps) where
  module _ (short : Bool) (rest : ℕ) (causes : List Cause) (same : agrees h ps ≡ true → short ≡ false → rest ≡ refusal causes) where
    -- 13, 12, and what comes after them
    orders : cond (eqb (refused h ps) 0) (cond short 12 rest) 13 ≡ refusal (cause 13 (not (agrees h ps)) ∷ cause 12 short ∷ causes)
    unfolding refusal cause
    orders = rw (refusal_lent h ps once) (go (agrees h ps) short same)
      where
        go : (a s : Bool) → (a ≡ true → s ≡ false → rest ≡ refusal causes) →
            cond (eqb (cond a 0 13) 0) (cond s 12 rest) 13 ≡ cond (not a) 13 (cond s 12 (refusal causes))
        go true true f = refl
        go true false f = f refl refl
        go false s f = refl

  -- document 03 takes the list
  refused_none : agrees h ps ≡ true → refused h ps ≡ 0
  refused_none e = refusal_lent h ps once ∙ rw e

  -- and the list is document 03's
  same_list : agrees h ps ≡ true → held_list h ps ≡ weighted (g h ps)
  same_list e = sym (list_lent h ps once (held_few h ps e))

  -- 13 and 12 alone
  gate_order : (short : Bool) → gate_number (agrees h ps) short ≡ cond (eqb (refused h ps) 0) (cond short 12 0) 13
  unfolding gate_number refusal
  gate_order short = sym (orders short 0 [] (λ _ _. refl))

pub list_says : ListStated
unfolding ListStated
list_says = refusal_lent

-- ---- peel

module _ (h : Head) (ps : List Pair) (order cores work : List ℕ) (r : ℕ) (order' cores' work' : List ℕ)
    (once : Ones h ps) (call : PeelCall h ps order cores work r order' cores' work') where
  peel_order : r ≡ peel_refusal h.n h.m (ends_of ps) (length order) (length cores) (length work)
  unfolding peel_call_causes gate_number ours.any_short peel_refusal
  peel_order = call.number ∙ gate_order h ps once (ours.any_short (peel_buffers h (length order) (length cores) (length work))) ∙ simp or-false

  peel_agreed : r ≡ 0 → agrees h ps ≡ true
  unfolding peel_call_causes gate_number
  peel_agreed z = (gate_open (agrees h ps) _ (sym call.number ∙ z)).0

  peel_as : PeelSays h.n h.m (ends_of ps) r order order' cores cores' work work'
  unfolding PeelSays kept_or work_left in_front ours.work_left ours.cleared ours.work_words ours.in_front if_taken
  peel_as =
      rw (← peel_order) (
        refl,
        call.order_is ∙ same_taken r _ _ order (λ z. rw (same_list h ps once (peel_agreed z), leaving_plain (g h ps))),
        call.cores_are ∙ same_taken r _ _ cores (λ z.
            let a = peel_agreed z in
            rw (same_list h ps once a, core_numbers_plain (g h ps) (held_lent h ps once a))),
        call.left,
      )

pub peel_says : PeelStated
unfolding PeelStated
peel_says = peel_as

-- ---- check

module _ (h : Head) (ps : List Pair) (members shares work : List ℕ) (v : Verdict) (work' : List ℕ)
    (once : Ones h ps) (call : CheckCall h ps members shares work v work') where
  -- 7, 8, 9
  abbrev causes : List Cause
  causes = check_causes (held_list h ps) (take h.n members) (take h.m shares)

  -- 12 as document 03 writes it
  abbrev short : Bool
  short = ltb (length members) h.n || (ltb (length shares) h.m || ltb (length work) 16384)

  same_short : ours.any_short (check_buffers h (length members) (length shares) (length work)) ≡ short
  unfolding ours.any_short
  same_short = simp or-false

  check_agreed : v.number ≡ 0 → agrees h ps ≡ true
  unfolding check_call_causes
  check_agreed z = agreed h ps _ (judged_causes (held_list h ps) (take h.n members) (take h.m shares)) (sym call.number ∙ z)

  -- that the list held has no pair
  abbrev none : Bool
  none = no_pair (length (held_list h ps).pairs)

  -- check's number, with 20 between 12 and 7
  check_number_is : v.number ≡ number (agrees h ps) short none (refusal causes)
  unfolding check_call_causes judged_causes group_causes refusal cause
  check_number_is = call.number ∙ ap (λ (b : Bool). number (agrees h ps) b none (refusal causes)) same_short

  -- document 03's, without it
  check_order_is : number (agrees h ps) short false (refusal causes) ≡ plain.check_refusal h.n h.m (ends_of ps) members shares (length work)
  unfolding check_number plain.check_refusal refusal cause
  check_order_is =
      sym (turned (eqb (refused h ps) 0) 13 _ ∙ orders h ps once short _ causes (λ e s.
      let n = check_enough h _ _ _ refl (same_short ∙ s) in
      let z : refused h ps ≡ 0 = refused_none h ps once e in
      let l = check_plain h.n h.m (ends_of ps) members shares (length work) z n.0 n.1 n.2 in
      sym (rw (← (same_list h ps once e), z, s) at l)))

  module _ (served : v.number ≡ 20 → ⊥) where
    check_order_as : v.number ≡ plain.check_refusal h.n h.m (ends_of ps) members shares (length work)
    check_order_as = check_number_is ∙ past_twenty (agrees h ps) short none _ (λ e. served (check_number_is ∙ e)) ∙ check_order_is

    check_as : CheckSays h.n h.m (ends_of ps) members shares v work work'
    unfolding CheckSays work_left in_front ours.work_left ours.cleared ours.work_words ours.in_front if_taken
    check_as =
        rw (← check_order_as) (
          refl,
          call.p ∙ same_taken v.number _ _ 0 (λ z. rw (same_list h ps once (check_agreed z)) (inside_plain (g h ps) (take h.n members))),
          call.q,
          call.left,
        )

  -- where 20 comes
  check_twenty : let f = plain.check_refusal h.n h.m (ends_of ps) members shares (length work) in
      (v.number ≡ 20) ↔ ((h.m ≡ 0) × (f ≡ 13 → ⊥) × (f ≡ 12 → ⊥))
  unfolding check_number
  check_twenty =
      twenty_where (agrees h ps) short none check_number_is (sym check_order_is) (check_few (held_list h ps) (take h.n members) (take h.m shares))
      (λ e. rw (length_held h ps e) (none_where h.m))

pub check_says : CheckStated
unfolding CheckStated
check_says = check_as

-- ---- surplus

-- 7 as one cause of two sets, and by each set's number
two_sets : (t s : Bool) → ◌≡◌ {A = ℕ} (cond (eqb (cond t 0 7) 0 && eqb (cond s 0 7) 0) 0 7) (cond (not (t && s)) 7 0)
two_sets true true = refl
two_sets true false = refl
two_sets false s = refl

module _ (h : Head) (ps : List Pair) (t s : List ℕ) (d : Difference) (once : Ones h ps) (call : SurplusCall h ps t s d) where
  -- 7
  abbrev both : List Cause
  both = surplus_causes (held_list h ps) (take h.n t) (take h.n s)

  abbrev either_short : Bool
  either_short = ltb (length t) h.n || ltb (length s) h.n

  same_either : ours.any_short (surplus_buffers h (length t) (length s)) ≡ either_short
  unfolding ours.any_short
  same_either = simp or-false

  surplus_order_as : d.number ≡ surplus_refusal h.n h.m (ends_of ps) t s
  unfolding surplus_call_causes surplus_causes refusal cause surplus_refusal plain.list_in
  surplus_order_as =
      call.number ∙ ap (λ (b : Bool). refusal (cause 13 (not (agrees h ps)) ∷ cause 12 b ∷ both)) same_either
      ∙ sym (turned (eqb (refused h ps) 0) 13 _ ∙ orders h ps once either_short _ both (λ e l.
      let n = surplus_enough h _ _ refl (same_either ∙ l) in
      rw (same_list h ps once e, members_plain (g h ps) t n.0, members_plain (g h ps) s n.1)
      (two_sets (is_group (weighted (g h ps)) (take h.n t)) (is_group (weighted (g h ps)) (take h.n s)))))

  differs : (k : ℕ) → d.number ≡ k → Differs k (g h ps) (take h.n t) (take h.n s) d
  unfolding Differs if_taken surplus_call_causes
  differs zero z = (
    z,
    rw z at call.value
        ∙ rw (same_list h ps once (agreed h ps _ both (sym call.number ∙ z))) (surplus_plain (g h ps) (take h.n t) (take h.n s)),
  )
  differs (suc k) z = (z, rw (ne_eqb d.number 0 (λ e. omega (arith, e, z))) at call.value)

  surplus_as : SurplusSays h.n h.m (ends_of ps) t s d
  unfolding SurplusSays
  surplus_as = rw (← surplus_order_as) (differs d.number refl)

pub surplus_says : SurplusStated
unfolding SurplusStated
surplus_says = surplus_as

-- ---- solve

-- beside a refusal
declined_as : (k : ℕ) (a x c y d z : List ℕ) (r : Solved) → r ≡ declined k → (x ≡ a) × (y ≡ c) × (z ≡ d) → Turned k r a x c y d z
unfolding Turned declined ratio float_ratio
declined_as k a x c y d z r e b = rw e (refl, refl, refl, refl, refl, refl, b.0, b.1, b.2)

module _ (h : Head) (ps : List Pair) (members cores shares work : List ℕ) (r : Solved) (members' cores' shares' work' : List ℕ)
    (once : Ones h ps) (call : SolveCall h ps members cores shares work r members' cores' shares' work') where
  -- 12 as document 03 writes it
  abbrev solve_short : Bool
  solve_short = ltb (length members) h.n || (ltb (length cores) h.n || (ltb (length shares) h.m || ltb (length work) 16384))

  -- solve's number, with 20 after 12
  solve_number_is : r.number ≡ number (agrees h ps) solve_short (no_pair h.m) 0
  unfolding solve_call_causes group_causes ours.any_short refusal cause
  solve_number_is = call.number.outright ∙ simp or-false

  -- document 03's, without it
  solve_order_is : number (agrees h ps) solve_short false 0 ≡
      solve_refusal h.n h.m (ends_of ps) (length members) (length cores) (length shares) (length work)
  unfolding gate_number solve_refusal refusal cause
  solve_order_is = gate_order h ps once solve_short

  solve_open : (k : ℕ) → r.number ≡ k → k ≡ 0 → agrees h ps ≡ true
  unfolding solve_call_causes group_causes
  solve_open k e z = agreed h ps _ (group_causes h.m) (sym call.number.outright ∙ e ∙ z)

  -- the found group and a split at its size are handed out, so 15 never comes; or the call is refused
  solve_as : (k : ℕ) → r.number ≡ k → SolveAs k (g h ps) r members members' cores cores' shares shares'
  unfolding SolveAs
  solve_as zero e =
      let a : agrees h ps ≡ true = solve_open zero e refl in
      let out : Handed (weighted (g h ps)) members cores shares r members' cores' shares' = rw (same_list h ps once a) at (call.handed e) in (
        _,
        found_plain (g h ps) _ out.found,
        inl (_, found_as (g h ps) (held_lent h ps once a) members cores shares members' cores' shares' r out e),
      )
  solve_as (suc k) e =
      let no = call.refused (λ z. omega (arith, z, e)) in
      declined_as (suc k) members members' cores cores' shares shares' r (no.answer ∙ ap declined e) (no.members_are, no.cores_are, no.shares_are)

  solve_states : (r.number ≡ 20 → ⊥) → SolveSays h.n h.m (ends_of ps) r members members' cores cores' shares shares' work work'
  unfolding SolveSays work_left in_front ours.work_left ours.cleared ours.work_words ours.in_front
  solve_states served =
      let order : r.number ≡ solve_refusal h.n h.m (ends_of ps) (length members) (length cores) (length shares) (length work) =
      solve_number_is ∙ past_twenty (agrees h ps) solve_short (no_pair h.m) 0 (λ e. served (solve_number_is ∙ e)) ∙ solve_order_is in
      rw (← order) (solve_as r.number refl, call.left)

  -- where 20 comes
  solve_twenty : let f = solve_refusal h.n h.m (ends_of ps) (length members) (length cores) (length shares) (length work) in
      (r.number ≡ 20) ↔ ((h.m ≡ 0) × (f ≡ 13 → ⊥) × (f ≡ 12 → ⊥))
  solve_twenty =
      twenty_where (agrees h ps) solve_short (no_pair h.m) solve_number_is (sym solve_order_is) (omega arith) (λ e. none_where h.m)

pub solve_says : SolveStated
unfolding SolveStated
solve_says = solve_states

pub twenty_says : TwentyStated
twenty_says = record { solve = solve_twenty; check = check_twenty }
