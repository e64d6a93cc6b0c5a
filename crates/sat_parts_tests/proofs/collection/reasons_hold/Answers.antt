use Rattle.std.proofs.Common.{ℕ, ◌≡◌, ◌<◌, inl, inr, List, length, get_or, sym, ap, ◌∙◌, subst, arith}
use Rattle.std.proofs.lemmas.Bool.{cases_eq}
use Rattle.std.proofs.lemmas.List.{get_or_read}
use Rattle.std.specs.List.{Contains}
use Rattle.sat_base.specs.values.Literals.{variable}
use Rattle.sat_parts.specs.declared.prop.graph.Reason.TheVariants.{Long}
use Rattle.sat_parts.specs.clause.Db.{live_refs}
use Rattle.sat_parts.specs.clause.Stored.{lit_of}
use Rattle.sat_parts.specs.prop.Graphs.{node_of}
use Rattle.sat_parts_tests.specs.Firsts.{HasFirst}
use Rattle.sat_parts_tests.proofs.collection.reasons_hold.Goals as goal

pub loop-at-preserved : goal.loop-at-preserved
loop-at-preserved c = λ i lt o e. elim (cases_eq i c.loop-at.at) [
  | inl q ↦
      let inside : c.loop-at.at < length c.trail-lits.result.now = omega arith in
      let same : c.index-lits-at.result ≡ get_or c.trail-lits.result.now i 0 =
      get_or_read c.trail-lits.result.now c.loop-at.at c.index-lits-at.result inside c.index-lits-at.is 0 ∙ ap (λ k. get_or c.trail-lits.result.now k 0) (sym q) in
      subst (λ z. HasFirst c.args.clauses.now (live_refs c.args.clauses.now c.args.db.now.refs) c.args.graph.now z) same (c.reason_holds.ensures c.if-not-reason_holds.false) o e
  | inr n ↦ c.loop-at.invariant i (omega arith) o e
]

pub returns : goal.returns
returns c = λ yes.
    subst (λ (ls : List ℕ). (i o : ℕ) → i < length ls → (node_of c.args.graph.now (variable (get_or ls i 0))).reason ≡ Long o →
    Contains (live_refs c.args.clauses.now c.args.db.now.refs) o × (lit_of c.args.clauses.now o 0 ≡ get_or ls i 0))
    c.trail-lits.ensures.lits (λ i o lt e. c.loop-at.invariant i (omega arith) o e)
