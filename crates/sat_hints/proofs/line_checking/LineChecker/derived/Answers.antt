use Rattle.std.proofs.Common.{◌≡◌, ◌||◌, eqb, length, refl, sym, ap, ◌∙◌}
use Rattle.sat_checker.proofs.lemmas.store.Entries.{on_err}
use Rattle.sat_hints.proofs.lemmas.Taken.{derived_taken, derived_faulty, derived_may, same_ready}
use Rattle.sat_hints.proofs.line_checking.LineChecker.derived.Goals as goal
use Rattle.sat_hints.proofs.line_checking.LineChecker.derived.Goals.{then-is_empty, else-is_empty}

pub returns-in-Some-clause-takes : goal.returns-in-Some-clause-takes
returns-in-Some-clause-takes c =
    derived_faulty c.args.self.now c.refute.new.self c.args.id c.args.clause.now c.args.ids.now c.in-Some.why c.if-id-self.false (rw c.in-Some.is at c.refute.ensures.refutes) c.refute.ensures.same

pub store-requires-clause-ready : goal.store-requires-clause-ready
store-requires-clause-ready c = same_ready c.args.self.now c.refute.new.self c.requires.ready c.refute.ensures.same

pub returns-in_err-store-clause-on_error : goal.returns-in_err-store-clause-on_error
returns-in_err-store-clause-on_error c =
    on_err c.from_residual.result _ (derived_may c.args.self.now c.args.id c.args.clause.now c.args.ids.now c.if-id-self.false (rw c.in-None.is at c.refute.ensures.refutes))

pub returns-clause-takes : goal.returns-clause-takes
returns-clause-takes c =
    let e : c.if-is_empty.self ≡ (eqb (length c.args.clause.now) 0 || c.store.new.self.empty) = elim c.if-is_empty.branch [
      | then-is_empty w ↦ w.self-is ∙ w.if-is_empty.true ∙ sym (ap (λ b. b || c.store.new.self.empty) (sym c.is_empty.ensures ∙ w.if-is_empty.true))
      | else-is_empty w ↦ w.self-is ∙ sym (ap (λ b. b || c.store.new.self.empty) (sym c.is_empty.ensures ∙ w.if-is_empty.false))
    ] in
    derived_taken c.args.self.now c.refute.new.self c.store.new.self _ c.args.id c.args.clause.now c.args.ids.now c.if-is_empty.self c.requires.ready c.if-id-self.false (rw c.in-None.is at c.refute.ensures.refutes) c.refute.ensures.same
    c.in_ok-store.ensures e refl
