use Rattle.std.proofs.lemmas.Grind.{common_steps}
use Rattle.std.proofs.Common.{ℕ, ◌<◌, ◌∙◌, ◌+◌, List, [], ◌∷◌, map, length, get_or, sym, ap, subst, arith}
use Rattle.std.proofs.lemmas.Bool.{le-ltb}
use Rattle.std.proofs.lemmas.Grind.{get_or_default_zero}
use Rattle.sat_base.specs.steps.Steps.{DeleteClause, Satisfied}
use Rattle.sat_solver.specs.session.LiveClauses.{with_var}
use Rattle.sat_solver.specs.proof.ProofView.{session_of, steps_of}
use Rattle.sat_solver.specs.session.Session.{session_after, IsAllowedStep}
use Rattle.sat_solver.specs.session.Naming.{global_of_index}
use Rattle.sat_solver.specs.unit_simplify.EmptyTrail.{LeavesPairs}
use Rattle.sat_solver.proofs.lemmas.cdcl.GoingLemmas.{goes_none, goes_map}
use Rattle.sat_solver.proofs.lemmas.unit_simplify.StrengthenSearchLemmas.{pair_passes, pair_deletes, pair_there, second_there, PairAt}
use Rattle.sat_solver.proofs.unit_simplify.binary.delete_pair.Given.{Over}
use Rattle.sat_solver.proofs.unit_simplify.binary.delete_pair.Goals as goal
use Rattle.sat_solver.proofs.unit_simplify.binary.delete_pair.Goals.{After-index-implied-at}

-- the pair that the list has there
pair : (g : Over) (c : After-index-implied-at g) → PairAt c.args.search.now c.args.lit c.args.at c.not-first.result c.index-implied-at.result
pair g c =
    let read = get_or_default_zero c.implied.result.now c.args.at c.index-implied-at.result (subst (λ (ms : List ℕ). c.args.at < length ms) (sym c.implied.ensures) c.requires.within) in
    record { first = c.not-first.ensures; second = c.index-implied-at.is ∙ read ∙ ap (λ ms. get_or ms c.args.at 0) c.implied.ensures }

pub returns-then-code-clause-left : goal.returns-then-code-clause-left
returns-then-code-clause-left g c = grind (arith, common_steps, le-ltb, goes_none, pair_passes, pair)

pub are_unassigned-requires-clause-second : goal.are_unassigned-requires-clause-second
are_unassigned-requires-clause-second g c =
    second_there (session_of c.args.proof.now) _ c.requires.may _ _ c.requires.within c.requires.left _ _ (pair g (goal.at.are_unassigned-requires-clause-second g c).After-index-implied-at)

pub returns-then-are_unassigned-clause-left : goal.returns-then-are_unassigned-clause-left
returns-then-are_unassigned-clause-left g c = grind (arith, common_steps, goes_none, pair_passes, pair)

pub delete_satisfied-requires-clause-names : goal.delete_satisfied-requires-clause-names
delete_satisfied-requires-clause-names g c =
    rw c.deref.ensures.value (pair_there (session_of c.args.proof.now) _ c.requires.may _ _ c.requires.within c.requires.left _ _ (pair g (goal.at.delete_satisfied-requires-clause-names g c).After-index-implied-at) c.requires.there)

pub delete_satisfied-requires-clause-may : goal.delete_satisfied-requires-clause-may
delete_satisfied-requires-clause-may g c =
    subst (λ (gs : List ℕ). IsAllowedStep (session_of c.args.proof.now) (DeleteClause (map (with_var (global_of_index gs)) (c.not-first.result ∷ c.index-implied-at.result ∷ [])) Satisfied)) (sym c.deref.ensures.value)
    (pair_deletes (session_of c.args.proof.now) _ c.requires.may _ _ c.requires.within c.requires.left _ _ (pair g (goal.at.delete_satisfied-requires-clause-may g c).After-index-implied-at) (omega (arith, c.if-code.false, c.code-2.ensures.value, c.code.ensures.value)) (sym c.are_unassigned.ensures ∙ c.if-are_unassigned.false)).0

pub returns-clause-left : goal.returns-clause-left
returns-clause-left g c =
    let x = (pair_deletes (session_of c.args.proof.now) _ c.requires.may _ _ c.requires.within c.requires.left _ _ (pair g (goal.at.returns-clause-left g c).After-index-implied-at) (omega (arith, c.if-code.false, c.code-2.ensures.value, c.code.ensures.value)) (sym c.are_unassigned.ensures ∙ c.if-are_unassigned.false)).1 in
    goes_map g.W.CountedWrite.seen c.delete_satisfied.result c.args.proof.now c.delete_satisfied.new.proof _ (λ _ _. LeavesPairs (session_of c.delete_satisfied.new.proof) c.args.search.now c.args.lit (c.args.at + 1))
    (λ u steps e. subst (λ ss. LeavesPairs (session_after ss) c.args.search.now c.args.lit (c.args.at + 1))
    (sym (e ∙ ap (λ (gs : List ℕ). DeleteClause (map (with_var (global_of_index gs)) (c.not-first.result ∷ c.index-implied-at.result ∷ [])) Satisfied ∷ steps_of c.args.proof.now) c.deref.ensures.value)) x)
    c.delete_satisfied.ensures
