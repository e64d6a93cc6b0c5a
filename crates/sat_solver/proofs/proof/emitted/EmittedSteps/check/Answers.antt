use Rattle.std.proofs.Common.{refl}
use Rattle.sat_solver.proofs.lemmas.session.CheckedLemmas.{begun_fed, anew_fed, listed_first, listed_again}
use Rattle.sat_solver.proofs.proof.emitted.EmittedSteps.check.Goals as goal

pub invariant_of-self-clause-fed : goal.invariant_of-self-clause-fed
invariant_of-self-clause-fed g c =
    let m = c.args.self.now in
    begun_fed g.P.ProofProcessor.takes m.own c.new.result m.lost m.roll.items m.history.steps m.fed c.in_default.is c.requires c.new.ensures

pub returns-in_default : goal.returns-in_default
returns-in_default g c = record { steps = refl; begun = c.args.self.now.roll.items; listening = refl; listed = listed_first c.args.self.now c.in_default.is; taking = refl }

pub invariant_of-self-then-self-clause-fed : goal.invariant_of-self-then-self-clause-fed
invariant_of-self-then-self-clause-fed g c =
    anew_fed g.P.ProofProcessor.takes c.begin_anew-self.new.self c.begin_anew-self.result.items c.args.self.now.history.steps c.requires c.begin_anew-self.ensures.fed

pub returns-then-self : goal.returns-then-self
returns-then-self g c =
    record { steps = refl; begun = c.begin_anew-self.result.items; listening = refl; listed = listed_again c.args.self.now c.in-Some.own c.begin_anew-self.result.items c.in-Some.is c.if-self.true c.begin_anew-self.ensures.listed; taking = refl }
