use Rattle.std.proofs.lemmas.Grind.{common_steps}
use Rattle.std.proofs.Common.{◌≡◌, ◌∙◌, ◌<◌, List, ℕ, true, not, ap, sym, subst, length, arith}
use Rattle.std.specs.List.{Contains}
use Rattle.sat_store.specs.clause.Buffer.{lits_at}
use Rattle.sat_store.specs.clause.Header.{Header}
use Rattle.sat_parts.specs.clause.Db.{is_live}
use Rattle.sat_parts.specs.clause.Glue.{VariablesBelow}
use Rattle.sat_parts.specs.parts.Using.{MarksExactly, OccursInFirstLits}
use Rattle.sat_parts.proofs.lemmas.clause.ListLemmas.{place_in}
use Rattle.sat_parts.proofs.lemmas.parts.MarkLemmas.{long_more, long_skip}
use Rattle.sat_parts.proofs.lemmas.parts.ReduceLemmas.{in_filter}
use Rattle.sat_parts.proofs.parts.unused.mark_long.Goals as goal

pub loop-at-preserved-then-deleted : goal.loop-at-preserved-then-deleted
loop-at-preserved-then-deleted c = grind (arith, common_steps, long_skip)

pub mark_clause-requires : goal.mark_clause-requires
mark_clause-requires c =
    let p = c.args.parts.now in
    let o = c.cref-cref.result in
    let lt : c.loop-at.at < length c.args.parts.now.db.refs = omega arith in
    let live : is_live c.args.parts.now.clauses c.cref-cref.result ≡ true = ap (λ (h : Header). not h.deleted) (sym c.header.ensures.value) ∙ ap (λ b. not b) (sym c.deleted.ensures ∙ c.if-deleted.false) in
    let there : Contains c.args.parts.now.db.refs c.cref-cref.result = subst (λ z. Contains p.db.refs z) (sym c.cref-cref.ensures) (place_in p.db.refs c.loop-at.at lt) in
    let lits : c.lits.result ≡ lits_at c.args.parts.now.clauses c.cref-cref.result = c.lits.ensures ∙ c.clause.ensures.lits in
    subst (λ (ls : List ℕ). VariablesBelow ls (length c.loop-at.used)) (sym lits)
    (λ k b. omega (arith, c.requires.holds.below.propagation.clauses.below o k (in_filter (is_live p.clauses) p.db.refs o there live) b, c.loop-at.invariant.size, c.requires.size))

pub loop-at-preserved : goal.loop-at-preserved
loop-at-preserved c =
    let p = c.args.parts.now in
    let live : is_live c.args.parts.now.clauses c.cref-cref.result ≡ true = ap (λ (h : Header). not h.deleted) (sym c.header.ensures.value) ∙ ap (λ b. not b) (sym c.deleted.ensures ∙ c.if-deleted.false) in
    let lits : c.lits.result ≡ lits_at c.args.parts.now.clauses c.cref-cref.result = c.lits.ensures ∙ c.clause.ensures.lits in
    long_more c.args.used.now c.loop-at.used c.mark_clause.new.used p.clauses p.db.refs c.loop-at.at c.cref-cref.result c.loop-at.invariant (sym c.cref-cref.ensures) live
    (subst (λ (ls : List ℕ). MarksExactly c.loop-at.used c.mark_clause.new.used (OccursInFirstLits ls (length ls))) lits c.mark_clause.ensures)
