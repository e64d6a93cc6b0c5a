use Rattle.std.proofs.Common.{◌<◌, ◌∙◌, true, sym, ap, subst}
use Rattle.sat_checker.specs.LiteralSets.{canonical}
use Rattle.sat_checker.specs.Storing.{clause_with, redundant_count}
use Rattle.sat_checker.specs.inner.FormulaView.{AreNumbered}
use Rattle.sat_checker.specs.inner.StoreView.{RepresentsClauses, with_count_removed}
use Rattle.sat_checker.proofs.lemmas.state.Checks.{kept_beside}
use Rattle.sat_checker.proofs.lemmas.state.Rooms.{stored_without}
use Rattle.sat_checker.proofs.lemmas.state.Units.{match_on}
use Rattle.sat_checker.proofs.lemmas.store.Assumed.{canonical_reversed}
use Rattle.sat_checker.proofs.formula.Formula.delete_marked.Goals as goal

pub returns-then-not-mark_distinct-clause-decides : goal.returns-then-not-mark_distinct-clause-decides
returns-then-not-mark_distinct-clause-decides c = λ f k. kept_beside c.args.self.now c.mark_distinct.new.self f c.mark_distinct.ensures.rest k

pub returns-clause-decides : goal.returns-clause-decides
returns-clause-decides c = λ f k.
    let marked = c.mark_distinct.new.self in
    let kept = kept_beside c.args.self.now c.mark_distinct.new.self f c.mark_distinct.ensures.rest k in
    let set = ap canonical (c.mark_distinct.ensures.marked c.if-not-mark_distinct.false) ∙ canonical_reversed c.args.clause.now in
    match_on c.delete_assumed.result _ _ _ _ (λ p. (
      subst (λ ls. 0 < redundant_count (clause_with ls f.clauses)) set p.0,
      record {
        clauses = subst (λ ls. RepresentsClauses c.delete_assumed.new.self (with_count_removed true ls f)) set p.1;
        units = kept.units;
        status = kept.status;
        numbered = subst (λ is. AreNumbered is f.units c.mark_distinct.new.self.status.last f.next_id) (sym c.delete_assumed.ensures.ids) kept.numbered;
        room = stored_without c.mark_distinct.new.self.units.room true (canonical c.args.clause.now) f.clauses kept.room;
        marks = stored_without c.mark_distinct.new.self.marks.room true (canonical c.args.clause.now) f.clauses kept.marks;
      },
    )) (λ q. record {
      clauses = q;
      units = kept.units;
      status = kept.status;
      numbered = subst (λ is. AreNumbered is f.units c.mark_distinct.new.self.status.last f.next_id) (sym c.delete_assumed.ensures.ids) kept.numbered;
      room = kept.room;
      marks = kept.marks;
    }) (c.delete_assumed.ensures.deleted f kept.clauses)

pub returns-clause-looks : goal.returns-clause-looks
returns-clause-looks c = record {
  rise = c.delete_assumed.ensures.looks.rise;
  most = λ f k. c.delete_assumed.ensures.looks.most f (kept_beside c.args.self.now c.mark_distinct.new.self f c.mark_distinct.ensures.rest k).clauses;
}
