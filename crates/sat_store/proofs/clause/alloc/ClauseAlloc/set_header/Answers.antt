use Rattle.sat_store.proofs.lemmas.clause.BufferLemmas.{header_wrote}
use Rattle.sat_store.proofs.clause.alloc.ClauseAlloc.set_header.Goals as goal

pub returns-clause-header : goal.returns-clause-header
returns-clause-header c = (header_wrote _ _ _ _ _ _ _ c.args.header c.self.view_is c.cref.view_is c.requires.clause c.activity.ensures c.flags.ensures.bound c.len.ensures.value c.requires.no_longer c.flags.ensures.value).header

pub returns-clause-lits : goal.returns-clause-lits
returns-clause-lits c = (header_wrote _ _ _ _ _ _ _ c.args.header c.self.view_is c.cref.view_is c.requires.clause c.activity.ensures c.flags.ensures.bound c.len.ensures.value c.requires.no_longer c.flags.ensures.value).lits

pub returns-clause-others : goal.returns-clause-others
returns-clause-others c = (header_wrote _ _ _ _ _ _ _ c.args.header c.self.view_is c.cref.view_is c.requires.clause c.activity.ensures c.flags.ensures.bound c.len.ensures.value c.requires.no_longer c.flags.ensures.value).others
