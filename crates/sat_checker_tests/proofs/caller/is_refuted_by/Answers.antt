use Rattle.std.proofs.Common.{[], ◌∷◌, refl, sym, ◌∙◌}
use Rattle.sat_base.specs.steps.Steps.{End}
use Rattle.sat_checker.specs.ProofView.{steps_after}
use Rattle.sat_checker.specs.ClausesView.{steps_after_additions}
use Rattle.sat_checker.proofs.lemmas.meaning.Answers.{unsat_means_none}
use Rattle.sat_checker_tests.proofs.caller.is_refuted_by.Goals as goal

pub returns : goal.returns
returns g c =
    let added = c.in_ok-add_formula.ensures.adds [] c.args.checker.now.processing [] (record { kernel = c.requires.valid; heard = λ _. ([], rw c.requires.settled refl, refl) }) in
    let read = c.in_ok-check_proof.ensures.proof [] c.args.checker.now.processing (steps_after_additions c.args.formula.now.clauses []) added.1.0 in
    let valid = read.4.0.kernel in (
      read.0,
      read.1,
      read.2.steps,
      λ u a h. unsat_means_none (End ∷ steps_after read.0 (steps_after_additions c.args.formula.now.clauses [])) a valid.accepted (sym (c.unsat.ensures (End ∷ steps_after read.0 (steps_after_additions c.args.formula.now.clauses [])) valid) ∙ u) h,
    )
