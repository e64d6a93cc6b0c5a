use Rattle.std.proofs.Common.{ℕ, ◌∙◌, ap, Option}
use Rattle.sat_solver.specs.facade.Judged.{state_after_name}
use Rattle.sat_solver.proofs.lemmas.facade.Agreeing.{new_matches}
use Rattle.sat_solver.proofs.lemmas.facade.Seen.{named, new_steps, new_wrote}
use Rattle.sat_solver.proofs.lemmas.facade.SeenChecker.{new_checked}
use Rattle.sat_solver.proofs.facade.Solver.new_var.Goals as goal

pub returns-clause-names : goal.returns-clause-names
returns-clause-names g c = rw (← c.self.view_is) (named g.W.CountedWrite.seen c.self.inside.judge.state c.after-self-inside.result.state c.new_var-result.result c.self.inside.inner c.new_var-result.new.self c.self.invariant.matches (c.after-self-inside.ensures ∙ ap (λ (o : Option ℕ). state_after_name o c.self.inside.judge.state) c.name_in.ensures) c.new_var-result.ensures.names)

pub returns-clause-steps : goal.returns-clause-steps
returns-clause-steps g c = rw (← c.self.view_is) (new_steps g.W.CountedWrite.seen c.self.inside.judge.state c.after-self-inside.result.state c.new_var-result.result c.self.inside.inner c.new_var-result.new.self c.self.invariant.matches c.new_var-result.ensures.names)

pub returns-clause-text : goal.returns-clause-text
returns-clause-text g c = rw (← c.self.view_is) (new_wrote g.W.CountedWrite.seen c.self.inside.judge.state c.after-self-inside.result.state c.new_var-result.result c.self.inside.inner c.new_var-result.new.self c.new_var-result.ensures.names)

pub returns-clause-checker : goal.returns-clause-checker
returns-clause-checker g c = rw (← c.self.view_is) (new_checked g.W.CountedWrite.seen c.self.inside.judge.state c.after-self-inside.result.state c.new_var-result.result c.self.inside.inner c.new_var-result.new.self c.new_var-result.ensures.names)

pub invariant_of-self : goal.invariant_of-self
invariant_of-self g c = record { solver = c.new_var-result.ensures.solver; matches = new_matches g.W.CountedWrite.seen c.self.inside.judge.state c.after-self-inside.result.state c.self.inside.inner c.new_var-result.new.self c.self.invariant.matches c.new_var-result.result c.new_var-result.ensures.names (c.after-self-inside.ensures ∙ ap (λ (o : Option ℕ). state_after_name o c.self.inside.judge.state) c.name_in.ensures) }
