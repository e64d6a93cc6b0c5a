use Rattle.sat_solver.specs.variables.Refusing.{names_in}
use Rattle.certify.specs.declared.refusals.NameState.TheVariants as state
use Rattle.certify.proofs.lemmas.run.Lent.{ask_allowed, ask_stops, clause_allowed, clause_carried, clause_writes, lent_hides, lent_samples, lent_witnesses, names_carried}
use Rattle.certify.specs.run.BetweenCommands.{command_of_lent}
use Rattle.certify.proofs.lemmas.run.RunStateCalls.{nothing_stops}
use Rattle.certify.specs.run.NonAskCommands.{command_for_state}
use Rattle.certify.proofs.lemmas.run.Caused.{clause_caused_by, names_caused_by}
use Rattle.certify.proofs.run.commands.carry_out.Goals as goal

pub add_clause-requires-clause-allowed : goal.add_clause-requires-clause-allowed
add_clause-requires-clause-allowed g c = clause_allowed c.args.command c.args.session.now c.requires.goes_on c.requires.allowed c.in-Clause.is

pub returns-in-Clause-clause-carried : goal.returns-in-Clause-clause-carried
returns-in-Clause-clause-carried g c =
    clause_carried c.args.command c.args.session.now c.requires.goes_on c.add_clause.result c.add_clause.new.solver (g.A.CountedWrite.seen c.args.answers.now) c.in-Clause.is c.add_clause.ensures.added

pub returns-in-Clause-clause-written : goal.returns-in-Clause-clause-written
returns-in-Clause-clause-written g c =
    clause_writes c.args.command c.args.session.now c.requires.goes_on c.add_clause.result c.add_clause.new.solver (g.A.CountedWrite.seen c.args.answers.now) c.add_clause.ensures.added c.add_clause.ensures.fails

pub answer_ask-requires-clause-allowed : goal.answer_ask-requires-clause-allowed
answer_ask-requires-clause-allowed g c = ask_allowed c.args.command c.args.session.now c.requires.goes_on c.requires.allowed c.in-Ask.is

pub returns-in-Hide-clause-carried : goal.returns-in-Hide-clause-carried
returns-in-Hide-clause-carried g c =
    names_carried c.args.command c.args.session.now c.requires.goes_on c.set_names.result c.set_names.new.solver (g.A.CountedWrite.seen c.args.answers.now) state.Hidden (names_in c.args.command.literals.now) c.set_names.ensures.obeyed (lent_hides c.args.command c.in-Hide.is)

pub returns-in-Witness-clause-carried : goal.returns-in-Witness-clause-carried
returns-in-Witness-clause-carried g c =
    names_carried c.args.command c.args.session.now c.requires.goes_on c.set_names-in-Witness.result c.set_names-in-Witness.new.solver (g.A.CountedWrite.seen c.args.answers.now) state.Witnessed (names_in c.args.command.literals.now) c.set_names-in-Witness.ensures.obeyed (lent_witnesses c.args.command c.in-Witness.is)

pub returns-in-Sample-clause-carried : goal.returns-in-Sample-clause-carried
returns-in-Sample-clause-carried g c =
    names_carried c.args.command c.args.session.now c.requires.goes_on c.set_names-in-Sample.result c.set_names-in-Sample.new.solver (g.A.CountedWrite.seen c.args.answers.now) state.Sampled (names_in c.args.command.literals.now) c.set_names-in-Sample.ensures.obeyed (lent_samples c.args.command c.in-Sample.is)

pub returns-in-Clause-clause-stops : goal.returns-in-Clause-clause-stops
returns-in-Clause-clause-stops g c left = nothing_stops c.add_clause.result c.args.session.now (record c.args.session.now { solver = c.add_clause.new.solver }) (command_of_lent c.args.command) left (g.A.CountedWrite.seen c.args.answers.now) c.add_clause.ensures.fails

pub returns-in-Hide-clause-stops : goal.returns-in-Hide-clause-stops
returns-in-Hide-clause-stops g c left = nothing_stops c.set_names.result c.args.session.now (record c.args.session.now { solver = c.set_names.new.solver }) (command_of_lent c.args.command) left (g.A.CountedWrite.seen c.args.answers.now) c.set_names.ensures.fails

pub returns-in-Witness-clause-stops : goal.returns-in-Witness-clause-stops
returns-in-Witness-clause-stops g c left = nothing_stops c.set_names-in-Witness.result c.args.session.now (record c.args.session.now { solver = c.set_names-in-Witness.new.solver }) (command_of_lent c.args.command) left (g.A.CountedWrite.seen c.args.answers.now) c.set_names-in-Witness.ensures.fails

pub returns-in-Sample-clause-stops : goal.returns-in-Sample-clause-stops
returns-in-Sample-clause-stops g c left = nothing_stops c.set_names-in-Sample.result c.args.session.now (record c.args.session.now { solver = c.set_names-in-Sample.new.solver }) (command_of_lent c.args.command) left (g.A.CountedWrite.seen c.args.answers.now) c.set_names-in-Sample.ensures.fails

pub returns-in-Clause-clause-cause : goal.returns-in-Clause-clause-cause
returns-in-Clause-clause-cause g c = clause_caused_by c.args.command c.args.session.now c.add_clause.result c.add_clause.new.solver c.in-Clause.is c.add_clause.ensures.cause

pub returns-in-Hide-clause-cause : goal.returns-in-Hide-clause-cause
returns-in-Hide-clause-cause g c =
    names_caused_by c.args.command c.args.session.now c.set_names.result c.set_names.new.solver (command_for_state state.Hidden (names_in c.args.command.literals.now)) (lent_hides c.args.command c.in-Hide.is) c.set_names.ensures.cause

pub returns-in-Witness-clause-cause : goal.returns-in-Witness-clause-cause
returns-in-Witness-clause-cause g c =
    names_caused_by c.args.command c.args.session.now c.set_names-in-Witness.result c.set_names-in-Witness.new.solver (command_for_state state.Witnessed (names_in c.args.command.literals.now)) (lent_witnesses c.args.command c.in-Witness.is) c.set_names-in-Witness.ensures.cause

pub returns-in-Sample-clause-cause : goal.returns-in-Sample-clause-cause
returns-in-Sample-clause-cause g c =
    names_caused_by c.args.command c.args.session.now c.set_names-in-Sample.result c.set_names-in-Sample.new.solver (command_for_state state.Sampled (names_in c.args.command.literals.now)) (lent_samples c.args.command c.in-Sample.is) c.set_names-in-Sample.ensures.cause

pub returns-in-Ask-clause-stops : goal.returns-in-Ask-clause-stops
returns-in-Ask-clause-stops g c left =
    ask_stops c.args.command c.args.session.now c.requires.goes_on c.answer_ask.result c.answer_ask.new.session left (g.A.CountedWrite.seen c.args.answers.now) (g.A.CountedWrite.seen c.answer_ask.new.answers) c.in-Ask.is (c.answer_ask.ensures.stops left)
