-- What sessions guarantee.
use Rattle.std.proofs.Common.{◌≡◌, true, List, [], ◌∷◌, sym, ◌∙◌, inl}
use Rattle.sat_base.specs.values.Clauses.{Valuation, literal_true, AllClausesTrue}
use Rattle.sat_base.specs.steps.Steps.{Step, SolverVarName, UserVarName, DeleteVar, ChangeSamplingMode, AddClause, AtClause, UnitClauses, DeleteClause, ChangeHashBits, Model, Assumptions, FailedAssumptions, End}
use Rattle.sat_checker.specs.Fold.{Holds}
use Rattle.sat_checker.specs.Stored.{unit_literals}
use Rattle.sat_checker.specs.Accepts.{ready_after}
use Rattle.sat_checker.proofs.lemmas.meaning.Answers.{unsat_means_none, models_extend, cores_fail}
use Rattle.sat_solver.specs.session.Promises.{added, CoresAreRight, UnsatIsRight, ModelsAreRight}
use Rattle.sat_solver.proofs.lemmas.session.AcceptLemmas.{each_member}
use Rattle.sat_solver.proofs.lemmas.session.StepLemmas.{sessions_are_accepted}

-- a valuation that satisfies all added clauses is admitted by the steps, whatever was deleted
pub added_hold : (steps : List Step) (a : Valuation) → AllClausesTrue a (added steps) → Holds steps a
added_hold [] a h = tt
added_hold (AddClause clause ∷ earlier) a h = (added_hold earlier a h.1, h.0)
added_hold (DeleteVar v ∷ earlier) a h = inl (added_hold earlier a h)
added_hold (SolverVarName v name ∷ earlier) a h = added_hold earlier a h
added_hold (UserVarName v name ∷ earlier) a h = added_hold earlier a h
added_hold (ChangeSamplingMode v sample ∷ earlier) a h = added_hold earlier a h
added_hold (AtClause r clause hashes ∷ earlier) a h = added_hold earlier a h
added_hold (UnitClauses us ∷ earlier) a h = added_hold earlier a h
added_hold (DeleteClause clause proof ∷ earlier) a h = added_hold earlier a h
added_hold (ChangeHashBits bits ∷ earlier) a h = added_hold earlier a h
added_hold (Model ls ∷ earlier) a h = added_hold earlier a h
added_hold (Assumptions ls ∷ earlier) a h = added_hold earlier a h
added_hold (FailedAssumptions core hashes ∷ earlier) a h = added_hold earlier a h
added_hold (End ∷ earlier) a h = added_hold earlier a h

-- no valuation of the added clauses satisfies a core that may be written
pub cores_are_right : CoresAreRight
cores_are_right steps core hashes a m h t = let s = sessions_are_accepted (FailedAssumptions core hashes ∷ steps) m in cores_fail steps core hashes a s.0.0 s.0.1 (added_hold steps a h) t

-- once unsat is recorded, no valuation satisfies them
pub unsat_is_right : UnsatIsRight
unsat_is_right steps a m u h = let s = sessions_are_accepted steps m in unsat_means_none steps a s.0 (s.1.unsat ∙ u) (added_hold steps a h)

-- every completion of a model with the values of the units is admitted by the steps
pub models_are_right : ModelsAreRight
models_are_right steps ls a m t u =
    let s = sessions_are_accepted (Model ls ∷ steps) m in
    let b = sessions_are_accepted steps m.0 in
    (models_extend steps ls s.0.0 s.0.1).0 a t (each_member (λ l. literal_true a l ≡ true) (unit_literals (ready_after steps)) (λ l k. u l (sym (b.1.units l) ∙ k)))
