use Rattle.sat_base.proofs.device.output.Output.push_fields.Goals as goal

pub returns-in-DeleteClause : goal.returns-in-DeleteClause
returns-in-DeleteClause g c = rw c.in-DeleteClause.is c.push_deleted.ensures

pub returns-in-FailedAssumptions : goal.returns-in-FailedAssumptions
returns-in-FailedAssumptions g c = rw c.in-FailedAssumptions.is c.push_both_lists.ensures
