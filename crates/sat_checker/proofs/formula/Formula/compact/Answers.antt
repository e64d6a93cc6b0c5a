use Rattle.sat_checker.proofs.lemmas.formula.Numbering.{numbered_kept}
use Rattle.sat_checker.proofs.formula.Formula.compact.Goals as goal

pub returns-clause-kept : goal.returns-clause-kept
returns-clause-kept c = λ f k. record {
  clauses = c.compact.ensures.kept f k.clauses;
  units = k.units;
  status = k.status;
  numbered = numbered_kept _ _ f.units c.args.self.now.status.last f.next_id c.compact.ensures.ids k.numbered;
  room = k.room;
  marks = k.marks;
}
