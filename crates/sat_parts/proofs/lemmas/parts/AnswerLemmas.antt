-- A fully propagated assignment of all variables in clauses is a model.
use Rattle.std.proofs.Common.{inl, inr, refl, sym, ap, ◌∙◌, arith}
use Rattle.sat_base.specs.values.Literals.{variable}
use Rattle.sat_parts.specs.clause.Stored.{lit_of}
use Rattle.sat_parts.specs.prop.Values.{value_of}
use Rattle.sat_parts.proofs.lemmas.prop.StateLemmas.{level_low}
use Rattle.sat_parts.specs.declared.parts.SearchState.{SearchState}
use Rattle.sat_parts.specs.parts.Whole.{state, SearchStateInvariant, IsFullyPropagated, AllAssigned, ClausesAreSatisfied}
use Rattle.sat_parts.proofs.lemmas.parts.ValueLemmas.{open_or_true}
use Rattle.sat_parts.proofs.lemmas.parts.LevelLemmas.{model_found, complete_now}

-- a fully propagated assignment of all variables in clauses satisfies all clauses
pub is_modelled : (p : SearchState) → SearchStateInvariant p → IsFullyPropagated p → AllAssigned p → ClausesAreSatisfied p
is_modelled p h done all = record {
  long = λ o c.
      model_found p.clauses p.db.refs p.watchlists p.binary.implied (state p) o h.below.propagation done c
      (λ k b. elim (open_or_true p.assignment.current (variable (lit_of p.clauses o k))) [
        | inl e ↦ absurd ((all (variable (lit_of p.clauses o k)) (omega (arith, h.below.propagation.clauses.below o k c b)) e).long o k c b refl)
        | inr x ↦ (_, ap (λ v. value_of p.assignment.current v) (sym x.1.0) ∙ x.1.1)
      ]);
  binary = λ l k b holds.
      ((complete_now p.clauses p.db.refs p.watchlists p.binary.implied (state p) h.below.propagation done).binary l k b (holds, level_low (state p) l h.below.propagation.agrees holds)).0;
}
