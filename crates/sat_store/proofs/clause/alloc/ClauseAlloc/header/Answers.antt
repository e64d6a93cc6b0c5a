use Rattle.sat_store.proofs.lemmas.clause.BufferLemmas.{header_read}
use Rattle.sat_store.proofs.clause.alloc.ClauseAlloc.header.Goals as goal

pub returns-clause-value : goal.returns-clause-value
returns-clause-value c = header_read _ _ _ _ _ _ _ c.self.view_is c.cref.view_is c.requires c.index.ensures c.index-2.ensures c.index-3.ensures _ c.from_words.ensures.value
