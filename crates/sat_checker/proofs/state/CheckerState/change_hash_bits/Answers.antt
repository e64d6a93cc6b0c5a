use Rattle.sat_checker.proofs.lemmas.state.Refiled.{numbered_by}
use Rattle.sat_checker.proofs.state.CheckerState.change_hash_bits.Goals as goal

pub returns-clause-decides : goal.returns-clause-decides
returns-clause-decides c = λ f k. (
  tt,
  record {
    formula = record {
      clauses = c.set_bits.ensures.set f k.formula.clauses;
      units = k.formula.units;
      status = k.formula.status;
      numbered = numbered_by c.args.self.now.formula.store c.set_bits.new.self f.units c.args.self.now.formula.status.last f.next_id c.set_bits.ensures.ids k.formula.numbered;
      room = k.formula.room;
      marks = k.formula.marks;
    };
    variables = k.variables;
    assumed = k.assumed;
  },
)
