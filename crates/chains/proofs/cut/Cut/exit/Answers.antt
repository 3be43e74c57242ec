-- `chains::cut::Cut::exit` meets its contract: no slot of the pairs passed leads out. Assumes nothing.
use Rattle.std.proofs.Common.{◌≡◌, get_or, sym, ◌∙◌, inl, inr, arith, rules}
use Rattle.slots.specs.Rows.{first_end, second_end}
use Rattle.chains.proofs.Zeros.{is_zero, zero_most}
use Rattle.chains.proofs.Leads.{pair_before, pair_passed}
use Rattle.chains.proofs.cut.Cut.exit.Goals.{else-first_out-second_out-via-then-first_out-second_out+else-leads, else-first_out-second_out-via-else-first_out-second_out}
use Rattle.chains.proofs.cut.Cut.exit.Goals as goal

pub returns-then-leads : goal.returns-then-leads
unfolding first_end second_end
returns-then-leads c =
    let cut = c.args.self.now in
    let rank = cut.rank.now in
    let at : c.from.result ≡ is_zero (get_or rank c.first_end.result 0) = search rules in
    record {
      found = (
        omega (arith, at, zero_most (get_or rank c.first_end.result 0)),
        sym c.leads.ensures ∙ c.if-leads.true,
        pair_before cut.graph.ends.now cut.hold.now rank c.loop-j.j _ _ _ c.first_end.ensures.value c.second_end.ensures.value at c.loop-j.invariant,
      );
      none = tt;
    }

pub loop-j-preserved : goal.loop-j-preserved
unfolding first_end second_end
loop-j-preserved c =
    let cut = c.args.self.now in
    let rank = cut.rank.now in
    let at : c.from.result ≡ is_zero (get_or rank c.first_end.result 0) = search rules in
    pair_passed cut.graph.ends.now cut.hold.now rank c.loop-j.j _ _ _ c.first_end.ensures.value c.second_end.ensures.value at c.loop-j.invariant
    (elim c.else-first_out-second_out.branch [
      | else-first_out-second_out-via-then-first_out-second_out+else-leads w ↦ inr (sym w.leads.ensures ∙ w.if-leads.false)
      | else-first_out-second_out-via-else-first_out-second_out w ↦ inl w.if-first_out-second_out.false
    ])
