use Rattle.std.proofs.Common.{◌+◌, ◌≡◌, ◌∙◌, length, ap, subst, arith}
use Rattle.sat_parts.specs.declared.parts.assumptions.EnqueueAssumption.TheVariants.{Done}
use Rattle.sat_parts.specs.parts.Assumed.{EnqueueAssumptionEffect, variables_of_lits}
use Rattle.sat_parts.specs.parts.Frame.{SameClauses, AddsNoUnit}
use Rattle.sat_parts.specs.parts.Whole.{state}
use Rattle.sat_parts.proofs.lemmas.parts.AssumeLemmas.{placed_kept}
use Rattle.sat_parts.proofs.lemmas.parts.WordSteps.{extends_after}
use Rattle.sat_solver.specs.cdcl.Iterations.{AllTrue}
use Rattle.sat_solver.proofs.cdcl.find_conflict.assume_or_decide.Goals as goal

pub returns-then-branch : goal.returns-then-branch
returns-then-branch c =
    let a = c.enqueue_assumption.new.assumptions in
    let m = c.enqueue_assumption.new.parts in
    let x = c.in_ok-lit.ensures in
    let d = c.in_ok-make_decision.ensures in
    let said : EnqueueAssumptionEffect Done c.enqueue_assumption.new.assumptions c.args.parts.now c.enqueue_assumption.new.parts = subst (λ r. EnqueueAssumptionEffect r c.enqueue_assumption.new.assumptions c.args.parts.now c.enqueue_assumption.new.parts) c.in-Done.is x.says in
    let deep : length c.make_decision.new.parts.trail.starts ≡ length c.enqueue_assumption.new.parts.trail.starts + 1 = d.deeper c.if-branch.true in
    record {
      holds = d.holds;
      lits = x.lits;
      placed = placed_kept a.lits.items a.below.items a.place (length a.below.items) (state m) (state c.make_decision.new.parts) x.placed (d.keeps (length a.below.items)) (omega arith) (omega (arith, x.placed.levels, deep)) (λ lt. said.1);
      word = extends_after (variables_of_lits c.args.assumptions.now.lits.items) c.args.parts.now m c.make_decision.new.parts x.word (d.word (variables_of_lits c.args.assumptions.now.lits.items));
      same = subst (λ p. SameClauses p c.make_decision.new.parts) said.0 d.same.0;
      carries = subst (λ p. AddsNoUnit (state p) (state c.make_decision.new.parts)) said.0 d.same.1;
      stops = deep ∙ ap (λ p. length p.trail.starts + 1) said.0;
    }

pub returns : goal.returns
returns c =
    let a = c.enqueue_assumption.new.assumptions in
    let m = c.enqueue_assumption.new.parts in
    let x = c.in_ok-lit.ensures in
    let d = c.in_ok-make_decision.ensures in
    let said : EnqueueAssumptionEffect Done c.enqueue_assumption.new.assumptions c.args.parts.now c.enqueue_assumption.new.parts = subst (λ r. EnqueueAssumptionEffect r c.enqueue_assumption.new.assumptions c.args.parts.now c.enqueue_assumption.new.parts) c.in-Done.is x.says in
    let flat : length c.make_decision.new.parts.trail.starts ≡ length c.enqueue_assumption.new.parts.trail.starts = ap (λ t. length t.starts) (d.flat c.if-branch.false) in
    let placed = placed_kept a.lits.items a.below.items a.place (length a.below.items) (state m) (state c.make_decision.new.parts) x.placed (d.keeps (length a.below.items)) (omega arith) (omega (arith, x.placed.levels, flat)) (λ lt. said.1) in
    let all = d.all c.if-branch.false in
    let true_all : AllTrue c.enqueue_assumption.new.assumptions.lits.items c.make_decision.new.parts = λ k lt. (placed.passed k (omega (arith, said.1))).0 in
    record {
      holds = d.holds;
      lits = x.lits;
      placed = placed;
      word = extends_after (variables_of_lits c.args.assumptions.now.lits.items) c.args.parts.now m c.make_decision.new.parts x.word (d.word (variables_of_lits c.args.assumptions.now.lits.items));
      same = subst (λ p. SameClauses p c.make_decision.new.parts) said.0 d.same.0;
      carries = subst (λ p. AddsNoUnit (state p) (state c.make_decision.new.parts)) said.0 d.same.1;
      stops = record { done = all.0; all = all.1; assumed = subst (λ v. AllTrue v.items c.make_decision.new.parts) x.lits true_all };
    }
