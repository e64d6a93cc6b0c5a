use Rattle.std.proofs.Common.{sym, subst}
use Rattle.certify.specs.declared.refusals.names.Names.{Names}
use Rattle.certify.specs.refusals.Names.{NamesHaveState}
use Rattle.certify.proofs.lemmas.run.RunStateCalls.{carried_stops, on_err}
use Rattle.certify.specs.run.BetweenCommands.{command_of_lent}
use Rattle.certify.proofs.run.commands.serve_allowed.Goals as goal

pub returns-clause-names : goal.returns-clause-names
returns-clause-names g c = λ j d s l. c.in_ok-accept.ensures j d (subst (λ (n : Names). NamesHaveState n j) (sym c.carry_out.ensures.names) s) l

pub returns-in_err-accept-clause-stops : goal.returns-in_err-accept-clause-stops
returns-in_err-accept-clause-stops g c left =
    on_err _ _ (carried_stops c.args.session.now c.carry_out.new.session (command_of_lent c.args.command) (g.A.CountedWrite.seen c.args.answers.now) (g.A.CountedWrite.seen c.carry_out.new.answers) left c.in_ok-carry_out.ensures.carried)
