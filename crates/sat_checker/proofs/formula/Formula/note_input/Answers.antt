use Rattle.sat_checker.proofs.lemmas.listeners.Noting.{input_reported, on_ok}
use Rattle.std.proofs.Common.{ap}
use Rattle.sat_checker.specs.inner.FormulaView.{StoredStatus}
use Rattle.sat_checker.proofs.formula.Formula.note_input.Goals as goal

pub returns-clause-noted : goal.returns-clause-noted
returns-clause-noted c = on_ok c.input.result _ _
    (λ noted f clause k e h.
    input_reported c.input.new.self c.args.notes.now.news c.args.self.now.status.next_id c.has_both_signs-both_signs.result c.id_of_set-same.result c.args.literals.now clause f
    noted (ap (λ (s : StoredStatus). s.next_id) k.status) c.has_both_signs-both_signs.ensures (c.id_of_set-same.ensures.id f k) e)
    c.input.ensures.ok
