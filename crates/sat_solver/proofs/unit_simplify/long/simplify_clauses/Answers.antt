use Rattle.std.proofs.lemmas.Grind.{common_steps}
use Rattle.std.proofs.Common.{◌≡◌, ◌∙◌, ◌<◌, true, not, Ok, List, ℕ, length, get_or, sym, ap, subst, arith}
use Rattle.std.proofs.lemmas.Result.{err_from_is_err_and}
use Rattle.std.specs.List.{Contains}
use Rattle.sat_store.specs.clause.Header.{Header}
use Rattle.sat_parts.specs.clause.Db.{is_live}
use Rattle.sat_parts.proofs.lemmas.clause.ListLemmas.{place_in}
use Rattle.sat_solver.specs.proof.ProofView.{session_of}
use Rattle.sat_parts.proofs.lemmas.parts.ReduceLemmas.{in_filter}
use Rattle.sat_solver.proofs.lemmas.cdcl.GoingLemmas.{goes_none, goes_then, goes_then_fails, goes_on}
use Rattle.sat_solver.specs.unit_simplify.EmptyTrail.{IsStrengthened, StrengthensClause, StrengthensAll, AreOpenTo}
use Rattle.sat_solver.proofs.lemmas.unit_simplify.StrengthenSearchLemmas.{strengthened_refl, strengthened_trans}
use Rattle.sat_solver.proofs.lemmas.unit_simplify.WalkLemmas.{to_none, to_more, to_skip, to_all}
use Rattle.sat_solver.proofs.unit_simplify.long.simplify_clauses.Goals as goal

pub loop-at-init : goal.loop-at-init
loop-at-init g c = grind (arith, common_steps, goes_none, strengthened_refl, to_none)

pub header-requires : goal.header-requires
header-requires g c =
    let p = c.loop-at.search.parts in
    let e = ap (λ (xs : List ℕ). length xs) c.loop-at.invariant.went.ends.refs in
    let lt : c.loop-at.at < length c.loop-at.search.parts.db.refs = omega (arith, e, c.loop-at-test.true, c.len-at-end.ensures) in
    c.loop-at.invariant.went.ends.search.valid.holds.below.db_matches.holds_clauses.clauses c.cref-cref.result (subst (λ z. Contains p.db.refs z) (sym c.cref-cref.ensures) (place_in p.db.refs c.loop-at.at lt))

pub loop-at-preserved-then-deleted : goal.loop-at-preserved-then-deleted
loop-at-preserved-then-deleted g c = grind (arith, common_steps, to_skip)

pub simplify_clause-requires-clause-live : goal.simplify_clause-requires-clause-live
simplify_clause-requires-clause-live g c =
    let p = c.loop-at.search.parts in
    let e = ap (λ (xs : List ℕ). length xs) c.loop-at.invariant.went.ends.refs in
    let lt : c.loop-at.at < length c.loop-at.search.parts.db.refs = omega (arith, e, c.loop-at-test.true, c.len-at-end.ensures) in
    let live : is_live c.loop-at.search.parts.clauses c.cref-cref.result ≡ true = ap (λ (h : Header). not h.deleted) (sym c.header.ensures.value) ∙ ap (λ b. not b) (sym c.deleted.ensures ∙ c.if-deleted.false) in
    let there : Contains c.loop-at.search.parts.db.refs c.cref-cref.result = subst (λ z. Contains p.db.refs z) (sym c.cref-cref.ensures) (place_in p.db.refs c.loop-at.at lt) in
    in_filter (is_live p.clauses) p.db.refs c.cref-cref.result there live

pub returns-in_err-simplify_clause : goal.returns-in_err-simplify_clause
returns-in_err-simplify_clause g c =
    let p = err_from_is_err_and c.from_residual.result c.from_residual.ensures.1 in
    rw (p.1, p.2)
    (goes_then_fails g.W.CountedWrite.seen tt c.in_err-simplify_clause.field-0.0 c.args.proof.now c.loop-at.proof c.simplify_clause.new.proof _ (λ (_ : Unit {0}) _. StrengthensClause (session_of c.simplify_clause.new.proof) c.loop-at.search c.simplify_clause.new.search c.cref-cref.result) _
    c.loop-at.invariant.went c.in_err-simplify_clause.ensures)

pub loop-at-preserved : goal.loop-at-preserved
loop-at-preserved g c =
    let lt : c.loop-at.at < length c.args.search.now.parts.db.refs = omega (arith, c.loop-at-test.true, c.len-at-end.ensures) in
    record {
      went = goes_then g.W.CountedWrite.seen tt (Ok tt) c.args.proof.now c.loop-at.proof c.simplify_clause.new.proof _ (λ _ _. StrengthensClause (session_of c.simplify_clause.new.proof) c.loop-at.search c.simplify_clause.new.search c.cref-cref.result) _ c.loop-at.invariant.went c.in_ok-simplify_clause.ensures
          (λ xs ys y a b. strengthened_trans (session_of c.loop-at.proof) (session_of c.simplify_clause.new.proof) c.args.search.now c.loop-at.search c.simplify_clause.new.search a b.strengthened);
      left = to_more c.args.search.now c.loop-at.search c.loop-at.at c.loop-at.invariant.left (session_of c.simplify_clause.new.proof) c.simplify_clause.new.search c.cref-cref.result lt c.requires.search.valid.holds.below.db_matches.rising
          (c.cref-cref.ensures ∙ ap (λ (xs : List ℕ). get_or xs c.loop-at.at 0) c.loop-at.invariant.went.ends.refs) c.in_ok-simplify_clause.ensures.ends;
    }

pub returns : goal.returns
returns g c =
    let end : c.loop-at.at ≡ length c.args.search.now.parts.db.refs = omega (arith, c.loop-at-test.false, c.loop-at.auto.at-end, c.len-at-end.ensures) in
    goes_on g.W.CountedWrite.seen tt tt c.args.proof.now c.loop-at.proof (λ _ _. IsStrengthened (session_of c.loop-at.proof) c.args.search.now c.loop-at.search) (λ _ _. StrengthensAll (session_of c.loop-at.proof) c.args.search.now c.loop-at.search)
    (λ steps x. record { strengthened = x; left = to_all c.args.search.now c.loop-at.search x.refs (subst (λ k. AreOpenTo c.args.search.now c.loop-at.search k) end c.loop-at.invariant.left) })
    c.loop-at.invariant.went
