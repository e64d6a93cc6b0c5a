use Rattle.std.specs.Prelude.{OnOk}
use Rattle.std.proofs.Common.{◌/◌, ◌<◌, ◌≤◌, ◌≡◌, length, refl, Result, Ok, Err}
use Rattle.sat_parts.specs.declared.parts.SearchState.{SearchState}
use Rattle.sat_parts.specs.parts.Frame.{MovesLongClauses}
use Rattle.sat_solver.specs.clause.Reduced.{CollectsWhereDue}
use Rattle.sat_solver.proofs.lemmas.clause.ReducingLemmas.{reduced_copied}
use Rattle.sat_solver.proofs.clause.reduce.collect_deleted.Goals as goal

always : {T E P : Type 0} (r : Result T E) → P → OnOk r P
always (Ok x) p = p
always (Err x) p = tt

where_due : {T E : Type 0} (r : Result T E) (p p' : SearchState) → MovesLongClauses p p' → (length p.clauses / 2 < p.db.garbage → OnOk r (p'.db.garbage ≡ 0)) → (p.db.garbage ≤ length p.clauses / 2 → p' ≡ p) → OnOk r (CollectsWhereDue p p')
where_due (Ok x) p p' copied due not_due = record { due = λ lt. (copied, due lt); not_due = not_due }
where_due (Err x) p p' copied due not_due = tt

pub returns : goal.returns
returns c = record {
  reduced = always c.collect.result (λ s search. reduced_copied s c.args.search.now _ search refl refl refl refl c.collect.ensures.holds c.collect.ensures.copied c.collect.ensures.word);
  collects = where_due c.collect.result c.args.search.now.parts c.collect.new.parts c.collect.ensures.copied c.collect.ensures.due c.collect.ensures.not_due;
  room = c.collect.ensures.room;
}
