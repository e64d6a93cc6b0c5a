use Rattle.std.proofs.Common.{◌∙◌}
use Rattle.sat_checker.proofs.lemmas.store.Rehashing.{hashes_changed}
use Rattle.sat_checker.proofs.store.Store.set_bits.Goals as goal

pub returns-clause-set : goal.returns-clause-set
returns-clause-set c = λ f k. hashes_changed c.args.self.now f c.set_bits.new.self f.solver_names c.args.bits k (λ v. c.set_bits.ensures.names v ∙ k.names v) c.set_bits.ensures.width
