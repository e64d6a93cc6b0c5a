use Rattle.std.proofs.Common.{◌∙◌, refl, sym}
use Rattle.sat_solver.proofs.lemmas.session.CheckedLemmas.{width_fed, width_kept}
use Rattle.sat_solver.proofs.proof.checker.Checked.take_width.Goals as goal

pub returns-then-get-clause-takes : goal.returns-then-get-clause-takes
returns-then-get-clause-takes g c = width_kept g.P.ProofProcessor.takes c.args.self.now c.args.bits (sym c.get.ensures.value ∙ c.if-get.true ∙ c.get-2.ensures.value)

pub returns-clause-takes : goal.returns-clause-takes
returns-clause-takes g c = width_fed g.P.ProofProcessor.takes c.feed.result c.args.self.now _ c.args.bits (λ e. c.if-get.false (c.get.ensures.value ∙ e ∙ sym c.get-2.ensures.value)) refl c.feed.ensures
