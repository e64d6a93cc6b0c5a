use Rattle.std.proofs.Common.{sym, subst}
use Rattle.sat_checker.specs.inner.FormulaView.{AreNumbered}
use Rattle.sat_checker.proofs.lemmas.state.Rooms.{stored_without}
use Rattle.sat_checker.proofs.lemmas.state.Units.{match_on}
use Rattle.sat_checker.proofs.formula.Formula.take_count.Goals as goal

pub returns-clause-decides : goal.returns-clause-decides
returns-clause-decides c = λ f k.
    match_on c.delete_clause.result _ _ _ _ (λ p. (
      p.0,
      record {
        clauses = p.1;
        units = k.units;
        status = k.status;
        numbered = subst (λ is. AreNumbered is f.units c.args.self.now.status.last f.next_id) (sym c.delete_clause.ensures.ids) k.numbered;
        room = stored_without c.args.self.now.units.room c.args.redundant c.args.literals.now f.clauses k.room;
        marks = stored_without c.args.self.now.marks.room c.args.redundant c.args.literals.now f.clauses k.marks;
      },
    )) (λ n. n) (c.delete_clause.ensures.deleted f k.clauses)
