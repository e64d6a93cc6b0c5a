use Rattle.std.proofs.Common.{ap, ◌∙◌}
use Rattle.sat_store.specs.clause.Buffer.{HeadedClause}
use Rattle.sat_store.proofs.lemmas.clause.BufferLemmas.{alone_header}
use Rattle.sat_store.proofs.clause.view.Clause.header.Goals as goal

pub returns : goal.returns
returns c = c.from_words.ensures.value ∙ alone_header c.self.inside.words.now ∙ ap (λ (s : HeadedClause). s.header) c.self.view_is
