use Rattle.sat_store.proofs.lemmas.clause.BufferLemmas.{flags_wrote}
use Rattle.sat_store.proofs.clause.alloc.ClauseAlloc.set_flags.Goals as goal

pub returns-clause-header : goal.returns-clause-header
returns-clause-header c = (flags_wrote _ _ _ _ _ c.args.header c.self.view_is c.cref.view_is c.requires c.flags.ensures.bound c.flags.ensures.value).header

pub returns-clause-lits : goal.returns-clause-lits
returns-clause-lits c = (flags_wrote _ _ _ _ _ c.args.header c.self.view_is c.cref.view_is c.requires c.flags.ensures.bound c.flags.ensures.value).lits

pub returns-clause-others : goal.returns-clause-others
returns-clause-others c = (flags_wrote _ _ _ _ _ c.args.header c.self.view_is c.cref.view_is c.requires c.flags.ensures.bound c.flags.ensures.value).others
