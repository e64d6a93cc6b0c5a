use Rattle.std.proofs.Common.{ℕ, ◌∙◌, [], ◌∷◌, ap, subst, refl, arith}
use Rattle.sat_parts.specs.clause.Stored.{lit_of}
use Rattle.sat_parts.specs.parts.Frame.{AddsOriginalClause}
use Rattle.sat_parts.proofs.lemmas.parts.WordSteps.{extends_trans}
use Rattle.sat_solver.specs.unit_simplify.Strengthening.{puts_pair}
use Rattle.sat_solver.proofs.lemmas.unit_simplify.StrengthenClauseLemmas.{stores_two}
use Rattle.sat_solver.proofs.unit_simplify.strengthen.replace.Goals as goal

pub returns : goal.returns
returns c =
    let p = c.args.parts.now in
    let mid = c.load_binary.new.parts in
    let q = c.delete_long.new.parts in
    let d = c.delete_long.ensures.dropped in
    let loaded = c.in_ok-load_binary.ensures in
    let stores : AddsOriginalClause c.args.parts.now c.load_binary.new.parts (lit_of c.args.parts.now.clauses c.args.cref 0 ∷ lit_of c.args.parts.now.clauses c.args.cref 1 ∷ []) =
    subst (λ (a : ℕ). AddsOriginalClause p mid (a ∷ lit_of p.clauses c.args.cref 1 ∷ [])) c.lit.ensures.value (subst (λ (b : ℕ). AddsOriginalClause p mid (c.lit.result ∷ b ∷ [])) c.lit-2.ensures.value loaded.stores) in
    record {
      holds = c.delete_long.ensures.holds;
      state = (d.same.0.0 ∙ loaded.state.0, d.same.0.1 ∙ loaded.state.1, d.same.0.2 ∙ loaded.state.2);
      word = extends_trans p mid q loaded.word c.delete_long.ensures.word;
      refs = d.deletes.refs ∙ ap (λ x. x.refs) (stores_two p mid (lit_of p.clauses c.args.cref 0 ∷ lit_of p.clauses c.args.cref 1 ∷ []) refl stores).1;
      puts = puts_pair (omega (arith, c.requires.some, c.if-len-gt2.false)) mid stores d;
    }
