use Rattle.sat_store.proofs.lemmas.clause.BufferLemmas.{len_read}
use Rattle.sat_store.proofs.clause.alloc.ClauseAlloc.len.Goals as goal

pub returns-clause-lits : goal.returns-clause-lits
returns-clause-lits c = (len_read _ _ _ _ _ c.self.view_is c.cref.view_is c.requires c.index.ensures).0

pub returns-clause-header : goal.returns-clause-header
returns-clause-header c = (len_read _ _ _ _ _ c.self.view_is c.cref.view_is c.requires c.index.ensures).1
