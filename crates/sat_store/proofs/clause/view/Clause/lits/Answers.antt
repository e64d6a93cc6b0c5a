use Rattle.std.proofs.Common.{ℕ, ◌<◌, ◌*◌, List, ap, ◌∙◌, sym, subst}
use Rattle.std.specs.List.{All}
use Rattle.sat_base.specs.values.Literals.{var_limit}
use Rattle.sat_store.specs.clause.Buffer.{HeadedClause}
use Rattle.sat_store.proofs.lemmas.clause.BufferLemmas.{alone_lits}
use Rattle.sat_store.proofs.lemmas.clause.HeldClauses.{lits_fit}
use Rattle.sat_store.proofs.clause.view.Clause.lits.Goals as goal

pub invariant_of-result : goal.invariant_of-result
invariant_of-result c = subst (λ (ls : List ℕ). All (λ x. x < 2 * var_limit) ls) (sym (alone_lits c.self.inside.words.now c.self.invariant).1) (lits_fit c.self.inside.words.now 0 c.self.invariant)

pub returns : goal.returns
returns c = (alone_lits c.self.inside.words.now c.self.invariant).1 ∙ ap (λ (s : HeadedClause). s.lits) c.self.view_is
