use Rattle.std.proofs.Common.{ℕ, ◌≡◌, ◌<◌, ◌∙◌, false, ap, sym, subst, length, get_or, arith, List}
use Rattle.std.proofs.lemmas.List.{get_or_read}
use Rattle.sat_base.specs.values.Literals.{variable}
use Rattle.sat_base.specs.values.Hashes.{hash_of}
use Rattle.sat_parts.specs.clause.Db.{live_refs}
use Rattle.sat_parts.specs.prop.Graphs.{has_no_clause, node_of}
use Rattle.sat_parts.specs.prop.State.{node, lit_at}
use Rattle.sat_parts.specs.declared.prop.graph.Reason.{Reason}
use Rattle.sat_solver.specs.session.TrailEntries.{reason_clause}
use Rattle.sat_solver.specs.analyze_conflict.Derivation.{clause_of}
use Rattle.sat_parts.specs.parts.Whole.{state}
use Rattle.sat_solver.specs.session.Naming.{global_of_index}
use Rattle.sat_solver.proofs.lemmas.fits.CodeLemmas.{units_push}
use Rattle.sat_solver.proofs.lemmas.fits.UsableLemmas.{reason_clauses}
use Rattle.sat_solver.proofs.lemmas.fits.StepLemmas.{orderly_there, orderly_clause, orderly_some}
use Rattle.sat_solver.proofs.proof.map_step.collect_units.Goals as goal
use Rattle.sat_solver.proofs.proof.map_step.collect_units.Goals.{After-lit-item}

-- the literal of this iteration
module _ (c : After-lit-item) where
  within : c.loop-lit.lit-index < length c.args.parts.now.trail.lits
  within = subst (λ (xs : List ℕ). c.loop-lit.lit-index < length xs) c.trail-lit-items.ensures.lits (omega arith)

  at : c.lit-item.result ≡ get_or c.args.parts.now.trail.lits c.loop-lit.lit-index 0
  at = get_or_read c.trail-lit-items.result.now c.loop-lit.lit-index c.lit-item.result (omega arith) c.lit-item.is 0 ∙ ap (λ (xs : List ℕ). get_or xs c.loop-lit.lit-index 0) c.trail-lit-items.ensures.lits

pub reason-requires : goal.reason-requires
reason-requires c =
    let x = (goal.at.reason-requires c).After-lit-item in
    subst (λ v. v < length c.args.parts.now.graph) (sym c.var.ensures) (subst (λ l. variable l < length c.args.parts.now.graph) (sym (at x)) (orderly_there c.args.parts.now c.requires.orderly c.loop-lit.lit-index (within x)))

pub unit_of-requires-clause-clause : goal.unit_of-requires-clause-clause
unit_of-requires-clause-clause c = λ o e.
    let x = (goal.at.unit_of-requires-clause-clause c).After-lit-item in
    orderly_clause c.args.parts.now c.requires.orderly c.loop-lit.lit-index (within x) o (ap (λ l. (node (state c.args.parts.now) l).reason) (sym (at x)) ∙ e)

pub unit_of-requires-clause-some : goal.unit_of-requires-clause-some
unit_of-requires-clause-some c = λ o e.
    let x = (goal.at.unit_of-requires-clause-some c).After-lit-item in
    orderly_some c.args.parts.now c.requires.orderly c.loop-lit.lit-index (within x) o (ap (λ l. (node (state c.args.parts.now) l).reason) (sym (at x)) ∙ e)

pub loop-lit-preserved : goal.loop-lit-preserved
loop-lit-preserved c =
    let i = c.loop-lit.lit-index in
    let p = c.args.parts.now in
    let x = (goal.at.loop-lit-preserved c).After-lit-item in
    let caused : has_no_clause (node (state c.args.parts.now) (get_or c.args.parts.now.trail.lits c.loop-lit.lit-index 0)).reason ≡ false =
    ap (λ l. has_no_clause (node (state c.args.parts.now) l).reason) (sym (at x)) ∙ ap (λ v. has_no_clause (node_of c.args.parts.now.graph v).reason) (sym c.var.ensures) ∙ ap (λ (r : Reason). has_no_clause r) (sym c.reason.ensures) ∙ sym c.is_unit.ensures ∙ c.if-is_unit.false in
    let hash : hash_of (clause_of p.clauses (state p) (get_or c.args.parts.now.trail.lits c.loop-lit.lit-index 0)) ≡ hash_of (reason_clause p.clauses (get_or c.args.parts.now.trail.lits c.loop-lit.lit-index 0) (node (state p) (get_or c.args.parts.now.trail.lits c.loop-lit.lit-index 0)).reason) =
    ap (λ (xs : List ℕ). hash_of xs) (reason_clauses p.clauses (live_refs p.clauses p.db.refs) p.binary.implied (state p) i (length p.assignment.current) (node (state p) (lit_at (state p) i)).reason c.requires.orderly.clauses caused (c.requires.orderly.turns i (omega arith) (within x))) in
    rw (c.in_ok-push.ensures.items, c.unit_of.ensures, at x)
    (units_push p.clauses (state p) (global_of_index c.args.globals.now) i (hash_of (clause_of p.clauses (state p) (get_or c.args.parts.now.trail.lits c.loop-lit.lit-index 0))) c.loop-lit.units.items p.trail.lits (within x) caused hash ∙ c.loop-lit.invariant)
