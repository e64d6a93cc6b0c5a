use Rattle.std.proofs.Common.{◌∙◌, ap, sym, cond, eqb}
use Rattle.sat_checker.proofs.lemmas.store.Rehashing.{hashes_changed}
use Rattle.sat_checker.proofs.lemmas.store.Mentions.{named_still}
use Rattle.sat_checker.proofs.store.Store.set_solver_name.Goals as goal

pub returns-clause-set : goal.returns-clause-set
returns-clause-set c = λ f k.
    hashes_changed c.args.self.now f c.set_solver_name.new.self (λ w. cond (eqb w c.args.var) c.args.name (f.solver_names w)) f.width k
    (λ v. c.in_ok-set_solver_name.ensures.names v ∙ ap (λ o. cond (eqb v c.args.var) c.args.name o) (k.names v)) (c.set_solver_name.ensures.width ∙ k.width)

pub returns-then-not-mention-clause-set : goal.returns-then-not-mention-clause-set
returns-then-not-mention-clause-set c = λ f k.
    named_still c.args.self.now f c.set_solver_name.new.self c.args.var c.args.name k c.in_ok-set_solver_name.ensures.names c.set_solver_name.ensures.width (sym c.mention.ensures ∙ c.if-not-mention.true)
