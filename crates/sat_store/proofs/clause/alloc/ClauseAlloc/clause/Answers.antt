use Rattle.std.proofs.Common.{◌+◌, refl, ◌∙◌}
use Rattle.sat_store.proofs.lemmas.clause.BufferLemmas.{lent}
use Rattle.sat_store.proofs.clause.alloc.ClauseAlloc.clause.Goals as goal

pub new-requires : goal.new-requires
new-requires c = (lent _ _ _ _ c.index.result.now (c.cref.inside.offset + 3 + c.index.result.now) (c.deref.ensures.value ∙ c.self.view_is) c.cref.view_is c.requires (rw (c.deref.ensures.value) c.index.ensures) refl).clause

pub returns-clause-header : goal.returns-clause-header
returns-clause-header c = c.new.ensures.header ∙ (lent _ _ _ _ c.index.result.now (c.cref.inside.offset + 3 + c.index.result.now) (c.deref.ensures.value ∙ c.self.view_is) c.cref.view_is c.requires (rw (c.deref.ensures.value) c.index.ensures) refl).header

pub returns-clause-lits : goal.returns-clause-lits
returns-clause-lits c = c.new.ensures.lits ∙ (lent _ _ _ _ c.index.result.now (c.cref.inside.offset + 3 + c.index.result.now) (c.deref.ensures.value ∙ c.self.view_is) c.cref.view_is c.requires (rw (c.deref.ensures.value) c.index.ensures) refl).lits
