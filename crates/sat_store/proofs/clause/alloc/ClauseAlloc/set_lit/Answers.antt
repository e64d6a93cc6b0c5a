use Rattle.std.proofs.Common.{arith}
use Rattle.sat_store.proofs.lemmas.clause.BufferLemmas.{within_words, wrote_lit}
use Rattle.sat_store.proofs.clause.alloc.ClauseAlloc.set_lit.Goals as goal

pub overflow_add-cref-inside-2 : goal.overflow_add-cref-inside-2
overflow_add-cref-inside-2 c = omega (arith, (within_words _ _ _ _ c.args.at c.self.view_is c.cref.view_is c.requires.clause c.requires.within).1, c.self.inside.words.ok.0)

pub index_mut-requires : goal.index_mut-requires
index_mut-requires c = omega (arith, (within_words _ _ _ _ c.args.at c.self.view_is c.cref.view_is c.requires.clause c.requires.within).1, c.self.inside.words.ok.0)

pub returns-clause-header : goal.returns-clause-header
returns-clause-header c = (wrote_lit _ _ _ _ _ _ c.self.view_is c.cref.view_is c.requires.clause c.requires.within c.code.ensures.bound).header

pub returns-clause-lits : goal.returns-clause-lits
returns-clause-lits c = rw (← c.code.ensures.value) (wrote_lit _ _ _ _ _ _ c.self.view_is c.cref.view_is c.requires.clause c.requires.within c.code.ensures.bound).lits

pub returns-clause-others : goal.returns-clause-others
returns-clause-others c = (wrote_lit _ _ _ _ _ _ c.self.view_is c.cref.view_is c.requires.clause c.requires.within c.code.ensures.bound).others
