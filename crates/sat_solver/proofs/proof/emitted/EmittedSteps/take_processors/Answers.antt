use Rattle.std.proofs.Common.{◌∙◌, sym}
use Rattle.sat_solver.proofs.lemmas.session.CheckedLemmas.{made_returned, made_returned_notified}
use Rattle.sat_solver.proofs.proof.emitted.EmittedSteps.take_processors.Goals as goal

pub returns-in-Some-clause-returned : goal.returns-in-Some-clause-returned
returns-in-Some-clause-returned g c = made_returned c.args.self.now c.in-Some.own c.into_processors.result.items (sym c.take-own.ensures.value ∙ c.in-Some.is) c.into_processors.ensures

pub returns-in-Some-clause-whole : goal.returns-in-Some-clause-whole
returns-in-Some-clause-whole g c = made_returned_notified c.args.self.now c.in-Some.own c.into_processors.result.items (sym c.take-own.ensures.value ∙ c.in-Some.is) c.into_processors.ensures
