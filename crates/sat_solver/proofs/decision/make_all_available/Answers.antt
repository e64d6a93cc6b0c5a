use Rattle.std.proofs.Common.{◌≡◌, ◌∙◌, true, false, None, get_or, ap, sym, arith, length, inl, inr}
use Rattle.std.specs.Option.{is_some}
use Rattle.std.proofs.lemmas.Bool.{cases_lt, true≢false}
use Rattle.std.proofs.lemmas.Grind.{get_or_default_zero}
use Rattle.std.proofs.lemmas.List.{get_or-set_other, get_or-set_same}
use Rattle.sat_base.specs.values.Literals.{variable}
use Rattle.sat_store.specs.heap.Vsids.{is_available, with_available}
use Rattle.sat_parts.specs.prop.Values.{value_of}
use Rattle.sat_parts.proofs.lemmas.parts.ValueLemmas.{pick_set}
use Rattle.sat_solver.proofs.lemmas.load.BottomLemmas.{mention_not}
use Rattle.sat_solver.proofs.decision.make_all_available.Goals as goal
use Rattle.sat_solver.proofs.decision.make_all_available.Goals.{then-is_none, else-is_none}

pub loop-at-preserved : goal.loop-at-preserved
loop-at-preserved c =
    let i = c.loop-at.invariant in
    let at = c.loop-at.at in
    let ls = c.args.lits.now in
    elim c.if-is_none.branch [
      | then-is_none w ↦
          let u = w.make_available.ensures in
          let v = variable (get_or ls at 0) in
          let is = c.var-var.ensures ∙ ap (λ l. variable l) (c.index-lits-at.is ∙ get_or_default_zero c.args.lits.now c.loop-at.at c.index-lits-at.result c.loop-at-test.true) in
          let queue = u.queue in
          rw w.parts-is
          (record {
            holds = u.holds;
            same = ((u.same.0.0 ∙ i.same.0.0, u.same.0.1 ∙ i.same.0.1, u.same.0.2 ∙ i.same.0.2), (u.same.1.0 ∙ i.same.1.0, u.same.1.1 ∙ i.same.1.1, u.same.1.2 ∙ i.same.1.2));
            ready = λ k lt none. elim (cases_lt k at) [
              | inl less ↦ ap (λ q. is_available q (variable (get_or ls k 0))) queue ∙ pick_set c.loop-at.parts.vsids c.var-var.result (variable (get_or ls k 0)) (i.ready k less none)
              | inr ge ↦
                  let e : variable (get_or ls k 0) ≡ c.var-var.result = ap (λ z. variable (get_or ls z 0)) (omega arith) ∙ sym is in
                  let room = i.holds.below.queue in
                  let below = c.requires.there k (omega (arith, c.loop-at-test.true)) in
                  ap (λ q. is_available q (variable (get_or ls k 0))) queue
                  ∙ ap (λ x. is_available (with_available c.var-var.result true c.loop-at.parts.vsids) x) e
                  ∙ get_or-set_same c.loop-at.parts.vsids.available c.var-var.result true false (omega (arith, e, room, below, ap (λ a. length a.current) i.same.1.0))
            ];
            others = λ x out. ap (λ q. is_available q x) queue ∙ get_or-set_other c.loop-at.parts.vsids.available c.var-var.result x true false (λ e. mention_not ls x out at c.loop-at-test.true (sym is ∙ sym e)) ∙ i.others x out;
          })
      | else-is_none w ↦
          rw w.parts-is
          (record {
            holds = i.holds;
            same = i.same;
            ready = λ k lt none. elim (cases_lt k at) [
              | inl less ↦ i.ready k less none
              | inr ge ↦
                  let e : variable (get_or ls k 0) ≡ c.var-var.result = ap (λ z. variable (get_or ls z 0)) (omega arith) ∙ sym (c.var-var.ensures ∙ ap (λ l. variable l) (c.index-lits-at.is ∙ get_or_default_zero c.args.lits.now c.loop-at.at c.index-lits-at.result c.loop-at-test.true)) in
                  let now : c.var_value.result ≡ None = c.var_value.ensures ∙ ap (λ a. value_of a.current c.var-var.result) i.same.1.0 ∙ ap (λ x. value_of c.args.parts.now.assignment.current x) (sym e) ∙ none in
                  absurd (true≢false (sym w.if-is_none.ensures ∙ ap is_some now))
            ];
            others = i.others;
          })
    ]
