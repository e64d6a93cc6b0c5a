use Rattle.std.proofs.Common.{arith, ◌∙◌}
use Rattle.sat_store.proofs.lemmas.clause.BufferLemmas.{within_words, lit_read}
use Rattle.sat_store.proofs.clause.alloc.ClauseAlloc.lit.Goals as goal

pub overflow_add-cref-inside-2 : goal.overflow_add-cref-inside-2
overflow_add-cref-inside-2 c = omega (arith, (within_words _ _ _ _ c.args.at c.self.view_is c.cref.view_is c.requires.clause c.requires.within).1, c.self.inside.words.ok.0)

pub index-requires : goal.index-requires
index-requires c = omega (arith, (within_words _ _ _ _ c.args.at c.self.view_is c.cref.view_is c.requires.clause c.requires.within).1, c.self.inside.words.ok.0)

pub from_code-requires : goal.from_code-requires
from_code-requires c = (lit_read _ _ _ _ _ _ c.self.view_is c.cref.view_is c.requires.clause c.requires.within c.index.ensures).1

pub returns-clause-value : goal.returns-clause-value
returns-clause-value c = c.from_code.ensures ∙ (lit_read _ _ _ _ _ _ c.self.view_is c.cref.view_is c.requires.clause c.requires.within c.index.ensures).0
