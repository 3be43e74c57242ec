-- Kits, from the words to the call, and what is promised of them.
--   kit_refused, kit_done                 the call's promise, where 13 or 12 refuses and where neither does
--   every_list_kitted, kit_turned_down    every list with a pair gets its kit; what is turned down, and by which number
-- Assumes nothing.
use mathlib.Core.Path.{◌≡◌, sym, ap, ◌∙◌}
use mathlib.Core.Bool.{Bool, true}
use mathlib.Core.Logic.{◌↔◌}
use mathlib.Core.List.{List, []}
use Prim.Native.Nat.{ℕ, ◌≤◌}
use native.Mathlib.Omega.{arith}
use lib.ListN.{length}
use Rattle.std.proofs.Common.{Err}
use Rattle.std.proofs.lemmas.List.{nil_from_length}
use Rattle.theory.specs.Lists.{Pairs}
use Rattle.theory.specs.Kits.{bad_least, kit_causes, kit_number}
use Rattle.theory.proofs.Refusals.{if_taken_new, if_taken_old}
use Rattle.theory.proofs.Kits.{least_good, kit_pairless, kit_turned, kit_made, by_number}
use Rattle.refusals.specs.declared.Refusal.{Refusal}
use Rattle.refusals.specs.Numbers.{number_of}
use Rattle.lines.proofs.Found.{numbered}
use Rattle.verify.specs.declared.Verdict.{Verdict}
use Rattle.verify.specs.Answers.{verdict_of}
use Rattle.records.specs.declared.Pair.{Pair}
use Rattle.records.specs.declared.Head.{Head}
use Rattle.records.specs.Records.{held_list, agrees}
use Rattle.on_words.specs.declared.buffers.Buffer.{Buffer}
use Rattle.on_words.specs.Buffers.{any_short}
use Rattle.on_words.specs.Gate.{gate_number}
use Rattle.on_words.specs.Kitting.{kit_buffers, KitSays, KitOn}
use Rattle.on_words.proofs.Filling.{left_open}
use Rattle.on_words.proofs.Kits.{no_kit, kit_keeps, in_range, left_kit}
use Rattle.kandurzo.specs.Laying.{Laid}
use Rattle.kandurzo.specs.Kitting.{kit_call_causes, KitCall}
use Rattle.kandurzo.specs.Promise.{Lent, KitServed, EveryListKitted, NoKit, KitTurnedDown}
use Rattle.kandurzo.proofs.Gates.{gate_left, gate_first, gate_then}
use Rattle.kandurzo.proofs.Taken.{held_is_list}
use Rattle.kandurzo.proofs.Demands.{n_is, m_is, lent_list, lent_passes}

-- ---- the call

module _ (h : Head) (ps : List Pair) (k : ℕ) (members work : List ℕ) {lent : List Buffer} (is : lent ≡ kit_buffers h (length members) (length work)) where
  abbrev short : Bool
  short = any_short lent

  pub kit_refused : (e : Refusal) → number_of e ≡ gate_number (agrees h ps) short → KitCall h ps k members work (verdict_of (Err e)) members work
  unfolding kit_call_causes
  kit_refused e f =
      record {
        number = rw is at (gate_first (agrees h ps) short (kit_causes h.n h.m k) f (numbered e));
        says = no_kit _ k members e;
        promise = λ z. absurd (numbered e z);
        left = gate_left (agrees h ps) short work f (numbered e);
      }

  pub kit_done : 0 ≡ gate_number (agrees h ps) short → {words : List ℕ} → Laid h ps work words → {v : Verdict} {members' work' : List ℕ} →
      KitOn h k members words v members' work' → KitCall h ps k members work v members' work'
  unfolding kit_call_causes kit_number held_list
  kit_done f laid {v} {members'} on =
      let says : KitSays (held_list h ps) k members v members' = rw laid.list at on.says in
      record {
        number = on.number ∙ sym (rw is at (gate_then (agrees h ps) short (kit_causes h.n h.m k) (sym f)));
        says = says;
        promise = λ z.
            let range = in_range h.n h.m k (sym on.number ∙ z) in
            kit_keeps (held_list h ps) k (held_is_list h ps laid.agreed) range.0 range.1 says z;
        left = on.left ∙ laid.left ∙ sym (left_kit h.n h.m k work on.number);
      }

-- ---- every list

module _ {g : Pairs} {h : Head} {ps : List Pair} (lent : Lent g h ps) (k : ℕ) (members work : List ℕ) (a : g.n ≤ length members) (w : 16384 ≤ length work)
    {v : Verdict} {members' work' : List ℕ} (call : KitCall h ps k members work v members' work') where
  abbrev m : ℕ
  m = length g.pairs

  number_is : v.number ≡ kit_number g.n m k
  unfolding kit_call_causes kit_number
  number_is =
      call.number ∙ lent_passes lent (kit_buffers h (length members) (length work)) _ (omega (arith, n_is lent, a), w) ∙ rw (n_is lent, m_is lent)

  served : 1 ≤ m → 1 ≤ k → k ≤ g.n → KitServed g k members work v members' work'
  served some pos few =
      let z : v.number ≡ 0 = number_is ∙ kit_made g.n m k some (least_good g.n m k pos few) in
      record {
        number = z;
        members_are = rw (lent_list lent) at (call.says.members_are ∙ if_taken_new _ _ members z);
        promise = rw (lent_list lent, n_is lent) at (call.promise z);
        left = call.left ∙ left_open work z;
      }

  -- beside a refusal, whatever its number
  turned : {j : ℕ} → v.number ≡ j → (j ≡ 0 → ⊥) → NoKit j members work v members' work'
  turned e n =
      let some : v.number ≡ 0 → ⊥ = λ z. n (sym e ∙ z) in
      record {
        answer = λ i. record { number = e i; p = (call.says.p ∙ if_taken_old _ _ 0 some) i; q = (call.says.q ∙ if_taken_old _ _ 0 some) i };
        members_are = call.says.members_are ∙ if_taken_old _ _ members some;
        left = call.left ∙ left_kit g.n m k work number_is;
      }

  -- and back: its number
  given : {j : ℕ} → NoKit j members work v members' work' → kit_number g.n m k ≡ j
  given t = sym number_is ∙ ap (λ (u : Verdict). u.number) t.answer

  turned_down :
      ((g.pairs ≡ []) ↔ NoKit 20 members work v members' work')
      × (((1 ≤ m) × (bad_least g.n k ≡ true)) ↔ NoKit 21 members work v members' work')
  turned_down = (
    (
      λ e. turned (number_is ∙ kit_pairless g.n m k (ap length e)) (λ z. omega (arith, z)),
      λ t. nil_from_length g.pairs
          (by_number g.n m k (λ z _. z) (λ _ _ i. absurd (omega (arith, i, given t))) (λ _ _ i. absurd (omega (arith, i, given t)))),
    ),
    (
      λ e. turned (number_is ∙ kit_turned g.n m k e.0 e.1) (λ z. omega (arith, z)),
      λ t. by_number g.n m k (λ _ i. absurd (omega (arith, i, given t))) (λ l bad _. (l, bad)) (λ _ _ i. absurd (omega (arith, i, given t))),
    ),
  )

pub every_list_kitted : EveryListKitted
unfolding EveryListKitted
every_list_kitted g h ps k members work v members' work' lent some pos few a w call = served lent k members work a w call some pos few

pub kit_turned_down : KitTurnedDown
unfolding KitTurnedDown
kit_turned_down g h ps k members work v members' work' lent a w call = turned_down lent k members work a w call
