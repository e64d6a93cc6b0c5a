use Rattle.std.proofs.Common.{arith}
use Rattle.sat_store.proofs.lemmas.clause.BufferLemmas.{within_words, wrote_two}
use Rattle.sat_store.proofs.clause.alloc.ClauseAlloc.swap_lits.Goals as goal

pub overflow_add-base-2 : goal.overflow_add-base-2
overflow_add-base-2 c = omega (arith, (within_words _ _ _ _ c.args.i c.self.view_is c.cref.view_is c.requires.clause c.requires.first_within).1, c.self.inside.words.ok.0)

pub index-first-requires : goal.index-first-requires
index-first-requires c = omega (arith, (within_words _ _ _ _ c.args.i c.self.view_is c.cref.view_is c.requires.clause c.requires.first_within).1, c.self.inside.words.ok.0)

pub overflow_add-base-3 : goal.overflow_add-base-3
overflow_add-base-3 c = omega (arith, (within_words _ _ _ _ c.args.j c.self.view_is c.cref.view_is c.requires.clause c.requires.second_within).1, c.self.inside.words.ok.0)

pub index-requires : goal.index-requires
index-requires c = omega (arith, (within_words _ _ _ _ c.args.j c.self.view_is c.cref.view_is c.requires.clause c.requires.second_within).1, c.self.inside.words.ok.0)

pub overflow_add-base-4 : goal.overflow_add-base-4
overflow_add-base-4 c = omega (arith, (within_words _ _ _ _ c.args.i c.self.view_is c.cref.view_is c.requires.clause c.requires.first_within).1, c.self.inside.words.ok.0)

pub index_mut-requires : goal.index_mut-requires
index_mut-requires c = omega (arith, (within_words _ _ _ _ c.args.i c.self.view_is c.cref.view_is c.requires.clause c.requires.first_within).1, c.self.inside.words.ok.0)

pub overflow_add-base-5 : goal.overflow_add-base-5
overflow_add-base-5 c = omega (arith, (within_words _ _ _ _ c.args.j c.self.view_is c.cref.view_is c.requires.clause c.requires.second_within).1, c.self.inside.words.ok.0)

pub index_mut-requires-2 : goal.index_mut-requires-2
index_mut-requires-2 c = omega (arith, (within_words _ _ _ _ c.args.j c.self.view_is c.cref.view_is c.requires.clause c.requires.second_within).1, c.self.inside.words.ok.0)

pub returns-clause-header : goal.returns-clause-header
returns-clause-header c = (wrote_two _ _ _ _ c.args.i c.args.j _ _ c.self.view_is c.cref.view_is c.requires.clause c.requires.first_within c.requires.second_within c.index-first.ensures c.index.ensures).header

pub returns-clause-lits : goal.returns-clause-lits
returns-clause-lits c = (wrote_two _ _ _ _ c.args.i c.args.j _ _ c.self.view_is c.cref.view_is c.requires.clause c.requires.first_within c.requires.second_within c.index-first.ensures c.index.ensures).lits

pub returns-clause-others : goal.returns-clause-others
returns-clause-others c = (wrote_two _ _ _ _ c.args.i c.args.j _ _ c.self.view_is c.cref.view_is c.requires.clause c.requires.first_within c.requires.second_within c.index-first.ensures c.index.ensures).others
