-- The steps that the steps of the code represent.
use Rattle.sat_base.specs.declared.steps.step.DeleteClauseProof.{DeleteClauseProof}
use Rattle.sat_base.specs.declared.steps.step.DeleteClauseProof.TheVariants as proofs
use Rattle.sat_base.specs.declared.steps.step.ProofStep.{ProofStep}
use Rattle.sat_base.specs.declared.steps.step.ProofStep.TheVariants as code
use Rattle.sat_base.specs.steps.Steps.{Deletion, Redundant, Simplified, Satisfied, Step, SolverVarName, UserVarName, DeleteVar, ChangeSamplingMode, AddClause, AtClause, UnitClauses, DeleteClause, ChangeHashBits, Model, Assumptions, FailedAssumptions, End}

-- the reason for a deletion that a reason of the code represents
abbrev pub deletion_of : DeleteClauseProof → Deletion
deletion_of proofs.Redundant = Redundant
deletion_of proofs.Simplified = Simplified
deletion_of proofs.Satisfied = Satisfied

-- the step that a step of the code represents, with the contents of its slices as lists
abbrev pub step_of : ProofStep → Step
step_of (code.SolverVarName global solver) = SolverVarName global solver
step_of (code.UserVarName global user) = UserVarName global user
step_of (code.DeleteVar var) = DeleteVar var
step_of (code.ChangeSamplingMode var sample) = ChangeSamplingMode var sample
step_of (code.AddClause clause) = AddClause clause.now
step_of (code.AtClause redundant clause hashes) = AtClause redundant clause.now hashes.now
step_of (code.UnitClauses units) = UnitClauses units.now
step_of (code.DeleteClause clause proof) = DeleteClause clause.now (deletion_of proof)
step_of (code.ChangeHashBits bits) = ChangeHashBits bits
step_of (code.Model assignment) = Model assignment.now
step_of (code.Assumptions assumptions) = Assumptions assumptions.now
step_of (code.FailedAssumptions core hashes) = FailedAssumptions core.now hashes.now
step_of code.End = End
