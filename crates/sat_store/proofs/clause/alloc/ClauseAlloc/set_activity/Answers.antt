use Rattle.sat_store.proofs.lemmas.clause.BufferLemmas.{activity_wrote}
use Rattle.sat_store.proofs.clause.alloc.ClauseAlloc.set_activity.Goals as goal

pub returns-clause-header : goal.returns-clause-header
returns-clause-header c = (activity_wrote _ _ _ _ c.args.activity c.self.view_is c.cref.view_is c.requires).header

pub returns-clause-lits : goal.returns-clause-lits
returns-clause-lits c = (activity_wrote _ _ _ _ c.args.activity c.self.view_is c.cref.view_is c.requires).lits

pub returns-clause-others : goal.returns-clause-others
returns-clause-others c = (activity_wrote _ _ _ _ c.args.activity c.self.view_is c.cref.view_is c.requires).others
