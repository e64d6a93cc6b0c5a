use Rattle.std.proofs.Common.{◌≡◌, ◌<◌, ◌∙◌, sym, ap, length, get_or, arith}
use Rattle.std.proofs.lemmas.List.{get_or_read}
use Rattle.sat_parts.proofs.lemmas.clause.ListLemmas.{place_in}
use Rattle.sat_parts.proofs.lemmas.parts.WordSteps.{extends_trans}
use Rattle.sat_solver.proofs.lemmas.clause.BumpingLemmas.{bumped_next}
use Rattle.sat_solver.proofs.clause.activity.bump_variables.Goals as goal

pub bump_variable-requires-clause-there : goal.bump_variable-requires-clause-there
bump_variable-requires-clause-there c =
    let x = c.loop-var.invariant in
    let at : c.var-item.result ≡ get_or c.args.vars.now c.loop-var.var-index 0 = get_or_read c.args.vars.now c.loop-var.var-index c.var-item.result (omega arith) c.var-item.is 0 in
    let size : length c.loop-var.parts.assignment.current ≡ length c.args.parts.now.assignment.current = ap (λ a. length a.current) x.states.0 in
    let b : get_or c.args.vars.now c.loop-var.var-index 0 < length c.args.parts.now.assignment.current = c.requires.there (get_or c.args.vars.now c.loop-var.var-index 0) (place_in c.args.vars.now c.loop-var.var-index (omega arith)) in
    omega (arith, at, size, b)

pub loop-var-preserved : goal.loop-var-preserved
loop-var-preserved c =
    let x = c.loop-var.invariant in
    let at : c.var-item.result ≡ get_or c.args.vars.now c.loop-var.var-index 0 = get_or_read c.args.vars.now c.loop-var.var-index c.var-item.result (omega arith) c.var-item.is 0 in
    let e = c.bump_variable.ensures in
    record {
      holds = e.holds;
      clauses = (e.same.0.0 ∙ x.clauses.0, e.same.0.1 ∙ x.clauses.1, e.same.0.2 ∙ x.clauses.2);
      states = (e.same.1.0 ∙ x.states.0, e.same.1.1 ∙ x.states.1, e.same.1.2 ∙ x.states.2);
      word = extends_trans c.args.parts.now c.loop-var.parts c.bump_variable.new.parts x.word e.word;
      queue = rw (e.queue, at) (sym (bumped_next c.args.vars.now c.loop-var.var-index c.loop-var.parts.vsids (omega arith))) ∙ x.queue;
    }

pub returns-clause-word : goal.returns-clause-word
returns-clause-word c = extends_trans c.args.parts.now c.loop-var.parts c.decay_variables.new.parts c.loop-var.invariant.word c.decay_variables.ensures.word
