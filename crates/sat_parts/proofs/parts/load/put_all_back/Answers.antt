use Rattle.std.proofs.Common.{◌≡◌, ◌∙◌, get_or, arith, subst, sym, ap, inl, inr}
use Rattle.std.proofs.lemmas.Bool.{cases_eq}
use Rattle.std.proofs.lemmas.List.{get_or_read}
use Rattle.sat_base.specs.values.Literals.{negated, variable}
use Rattle.sat_parts.specs.prop.Values.{IsTrueLit}
use Rattle.sat_parts.proofs.lemmas.prop.StateLemmas.{true_from_false}
use Rattle.sat_parts.specs.prop.State.{HasLeftQueue}
use Rattle.sat_parts.specs.parts.Whole.{state}
use Rattle.sat_parts.proofs.lemmas.parts.FrameLemmas.{carries_trans}
use Rattle.sat_parts.proofs.parts.load.put_all_back.Goals as goal

pub loop-at-preserved : goal.loop-at-preserved
loop-at-preserved c =
    let x = c.loop-at.invariant in
    let e = c.resurrect_unit.ensures in
    let at : c.not.result ≡ negated (get_or c.args.lits.now c.loop-at.at 0) =
    c.not.ensures ∙ ap (λ l. negated l) (get_or_read c.args.lits.now c.loop-at.at c.index-lits-at.result c.loop-at-test.true c.index-lits-at.is 0) in
    record {
      holds = e.holds;
      bottom = e.bottom;
      values = λ v. e.values v ∙ x.values v;
      size = e.size ∙ x.size;
      queue = e.queue ∙ x.queue;
      same = (e.same.0 ∙ x.same.0, e.same.1 ∙ x.same.1, e.same.2 ∙ x.same.2);
      carries = carries_trans (state c.args.parts.now) (state c.loop-at.parts) (state c.resurrect_unit.new.parts) x.carries e.carries;
      fresh = λ k a b left. elim (cases_eq k c.loop-at.at) [
        | inl q ↦ e.fresh (subst (λ l. HasLeftQueue (state c.resurrect_unit.new.parts) l) (sym (at ∙ ap (λ i. negated (get_or c.args.lits.now i 0)) (sym q))) left)
        | inr n ↦ x.fresh k a (omega arith) (e.left (negated (get_or c.args.lits.now k 0)) left)
      ];
    }

pub resurrect_unit-requires-clause-true_lit : goal.resurrect_unit-requires-clause-true_lit
resurrect_unit-requires-clause-true_lit c =
    let l = c.loop-at.parts in
    let m = get_or c.args.lits.now c.loop-at.at 0 in
    let at : c.not.result ≡ negated (get_or c.args.lits.now c.loop-at.at 0) =
    c.not.ensures ∙ ap (λ l. negated l) (get_or_read c.args.lits.now c.loop-at.at c.index-lits-at.result c.loop-at-test.true c.index-lits-at.is 0) in
    subst (λ z. IsTrueLit l.assignment.current z) (sym at) (true_from_false l.assignment.current m (c.loop-at.invariant.values (variable m) ∙ c.requires.back c.loop-at.at c.loop-at.auto.at c.loop-at-test.true))
