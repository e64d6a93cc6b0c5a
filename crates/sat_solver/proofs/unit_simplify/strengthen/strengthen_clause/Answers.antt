use Rattle.std.proofs.Common.{arith}
use Rattle.std.proofs.lemmas.Grind.{common_steps}
use Rattle.std.proofs.Common.{◌≡◌, ◌∙◌, sym, ap}
use Rattle.std.proofs.lemmas.Result.{err_from_is_err_and}
use Rattle.sat_store.specs.clause.Header.{Header, is_learned}
use Rattle.sat_solver.specs.session.Matching.{is_redundant}
use Rattle.sat_solver.proofs.lemmas.cdcl.GoingLemmas.{goes_starved}
use Rattle.sat_solver.proofs.lemmas.unit_simplify.CutEnds.{cut_named, cut_may, cut_ends}
use Rattle.sat_solver.proofs.unit_simplify.strengthen.strengthen_clause.Goals as goal

pub returns-in_err-len : goal.returns-in_err-len
returns-in_err-len g c = grind (arith, common_steps, err_from_is_err_and, goes_starved)

pub returns-in_err-replace : goal.returns-in_err-replace
returns-in_err-replace g c =
    let p = err_from_is_err_and c.from_residual-in_err-replace.result c.from_residual-in_err-replace.ensures.1 in
    rw (p.1, p.2) (goes_starved g.W.CountedWrite.seen c.args.proof.now _ c.requires.keeps)

pub write_strengthening-requires-clause-named : goal.write_strengthening-requires-clause-named
write_strengthening-requires-clause-named g c =
    let side : is_redundant c.prepare_strengthening.new.search.parts.clauses c.args.cref ≡ c.redundant-redundant.result = ap (λ (h : Header). is_learned h.tier) (sym c.header.ensures.value) ∙ sym c.redundant-redundant.ensures in
    rw c.deref.ensures.value
    (cut_named g.W.CountedWrite.seen c.args.proof.now c.args.search.now c.prepare_strengthening.new.search c.args.cref c.in_ok-len.len c.requires.search c.requires.flat c.requires.live c.requires.some c.in_ok-len.ensures.same c.prepare_strengthening.new.part.items c.in_ok-len.ensures.named c.replace.new.parts c.in_ok-replace.ensures c.redundant-redundant.result side)

pub write_strengthening-requires-clause-may : goal.write_strengthening-requires-clause-may
write_strengthening-requires-clause-may g c =
    let side : is_redundant c.prepare_strengthening.new.search.parts.clauses c.args.cref ≡ c.redundant-redundant.result = ap (λ (h : Header). is_learned h.tier) (sym c.header.ensures.value) ∙ sym c.redundant-redundant.ensures in
    rw c.deref.ensures.value
    (cut_may g.W.CountedWrite.seen c.args.proof.now c.args.search.now c.prepare_strengthening.new.search c.args.cref c.in_ok-len.len c.requires.search c.requires.flat c.requires.live c.requires.some c.in_ok-len.ensures.same c.prepare_strengthening.new.part.items c.in_ok-len.ensures.named c.replace.new.parts c.in_ok-replace.ensures c.redundant-redundant.result side)

pub returns : goal.returns
returns g c =
    let side : is_redundant c.prepare_strengthening.new.search.parts.clauses c.args.cref ≡ c.redundant-redundant.result = ap (λ (h : Header). is_learned h.tier) (sym c.header.ensures.value) ∙ sym c.redundant-redundant.ensures in
    cut_ends g.W.CountedWrite.seen c.args.proof.now c.args.search.now c.prepare_strengthening.new.search c.args.cref c.in_ok-len.len c.requires.search c.requires.flat c.requires.live c.requires.some c.in_ok-len.ensures.same c.prepare_strengthening.new.part.items c.in_ok-len.ensures.named c.replace.new.parts c.in_ok-replace.ensures c.redundant-redundant.result side
    c.write_strengthening.new.proof c.write_strengthening.result (rw c.deref.ensures.value at c.write_strengthening.ensures)
