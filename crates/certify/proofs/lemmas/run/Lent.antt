-- Commands that the reader passes are carried out.
use Rattle.std.proofs.Common.{ℕ, ◌≡◌, ◌∙◌, false, None, List, [], ◌++◌, Result, Ok, Err, OnOk, IfErr, sym, ap, subst}
use Rattle.std.proofs.lemmas.List.{append-nil}
use Rattle.sat_base.specs.device.Device.{Writer}
use Rattle.sat_base.specs.script.Script.{Command, Clause, Ask, Hide, Witness, Sample}
use Rattle.sat_base.specs.script.ScriptState.{refusal_of, refusal_of_names}
use Rattle.sat_solver.specs.variables.Refusing.{names_in}
use Rattle.certify.specs.answers.AnswerForms.{named_literals}
use Rattle.certify.specs.declared.fault.RunFault.{RunFault}
use Rattle.certify.specs.declared.refusals.NameState.{NameState}
use Rattle.certify.specs.declared.refusals.NameState.TheVariants as state
use Rattle.certify.specs.declared.refusals.names.Names.{Names}
use Rattle.certify.specs.declared.script.Command.{Command as Lent}
use Rattle.certify.specs.declared.script.CommandKind.{CommandKind}
use Rattle.certify.specs.declared.script.CommandKind.TheVariants as kind
use Rattle.certify.specs.declared.run.session.RunState.{RunState}
use Rattle.certify.specs.refusals.Names.{ReportsRefusal}
use Rattle.certify.specs.script.Commands.{FirstIsPastLimit, RepresentsCommand, kind_of}
use Rattle.sat_base.specs.script.Language.{Reading, command_of}
use Rattle.certify.specs.run.SolverCalls.{ClauseAccepted, FailsSolver, AreAllowedNames}
use Rattle.certify.specs.run.NonAskCommands.{NonAskCarriedOut, command_for_state}
use Rattle.certify.specs.run.BetweenCommands.{NamesAcceptCommand, CommandCarriedOut, RunInvariant, StopsInCommand, WritesBoth, command_of_lent}
use Rattle.certify.proofs.lemmas.run.Carried.{obeyed_carried}
use Rattle.certify.proofs.lemmas.run.NamesIn.{names_same}
use Rattle.certify.proofs.lemmas.run.Obeys.{clause_obeyed, names_ask_nothing}
use Rattle.certify.proofs.lemmas.run.RunStateCalls.{solver_writes}
use Rattle.certify.specs.run.RunSolver.{Solver}

on_ok : {T E A B : Type 0} (r : Result T E) → (A → B) → OnOk r A → OnOk r B
on_ok (Ok x) f h = f h
on_ok (Err e) f h = h

-- a command without a name past the limit is passed with all its literals
pub lent_is : (lent : Lent) (c : Command) → RepresentsCommand lent c → lent.past_limit ≡ false → c ≡ command_of_lent lent
lent_is lent c (ls, f, e) within =
    let none : f.following ≡ [] = subst (λ b. FirstIsPastLimit b f.following) within f.limit in
    let whole : ls ≡ named_literals lent.literals.now = f.whole ∙ ap (λ ks. named_literals lent.literals.now ++ ks) none ∙ append-nil (named_literals lent.literals.now) in
    e ∙ ap (command_of (kind_of lent.kind)) whole

-- a command is accepted if the names report no refusal
pub lent_allowed : (names : Names) (lent : Lent) → (c : Command) × RepresentsCommand lent c → lent.past_limit ≡ false → ReportsRefusal None names lent → NamesAcceptCommand names (command_of_lent lent)
lent_allowed names lent h within judges j valid =
    sym (judges j (command_of_lent lent) valid (subst (RepresentsCommand lent) (lent_is lent h.0 h.1 within) h.1))

module _ (lent : Lent) where
  pub spelled_as : (k : CommandKind) → lent.kind ≡ k → command_of_lent lent ≡ command_of (kind_of k) (named_literals lent.literals.now)
  spelled_as k e = ap (λ x. command_of (kind_of x) (named_literals lent.literals.now)) e

  pub lent_hides : lent.kind ≡ kind.Hide → command_of_lent lent ≡ command_for_state state.Hidden (names_in lent.literals.now)
  lent_hides e = spelled_as kind.Hide e ∙ ap Hide (names_same lent.literals.now)

  pub lent_witnesses : lent.kind ≡ kind.Witness → command_of_lent lent ≡ command_for_state state.Witnessed (names_in lent.literals.now)
  lent_witnesses e = spelled_as kind.Witness e ∙ ap Witness (names_same lent.literals.now)

  pub lent_samples : lent.kind ≡ kind.Sample → command_of_lent lent ≡ command_for_state state.Sampled (names_in lent.literals.now)
  lent_samples e = spelled_as kind.Sample e ∙ ap Sample (names_same lent.literals.now)

  module _ {C : Type 0} (old : RunState C) (on : RunInvariant old) (allowed : NamesAcceptCommand old.names (command_of_lent lent)) where
    pub clause_allowed : lent.kind ≡ kind.Clause → AreAllowedNames old.solver lent.literals.now
    clause_allowed e = (
      on.judge,
      on.at.live,
      on.at.means.agree,
      subst (λ ns. refusal_of_names on.judge ns ≡ None) (names_same lent.literals.now) (subst (λ c. refusal_of on.judge c ≡ None) (spelled_as kind.Clause e) (allowed on.judge on.at.names)),
    )

    pub ask_allowed : lent.kind ≡ kind.Ask → AreAllowedNames old.solver lent.literals.now
    ask_allowed e = (
      on.judge,
      on.at.live,
      on.at.means.agree,
      subst (λ ns. refusal_of_names on.judge ns ≡ None) (names_same lent.literals.now) (subst (λ c. refusal_of on.judge c ≡ None) (spelled_as kind.Ask e) (allowed on.judge on.at.names)),
    )

  module _ {C : Type 0} (old : RunState C) (on : RunInvariant old) where
    pub ask_carried : (r : Result (Unit {0}) RunFault) (new : RunState C) (a b : Writer) → lent.kind ≡ kind.Ask → OnOk r (CommandCarriedOut old new (Ask (named_literals lent.literals.now)) a b) → OnOk r (CommandCarriedOut old new (command_of_lent lent) a b)
    ask_carried r new a b e h = subst (λ c. OnOk r (CommandCarriedOut old new c a b)) (sym (spelled_as kind.Ask e)) h

    pub ask_stops : (r : Result (Unit {0}) RunFault) (new : RunState C) (left : Reading) (a b : Writer) → lent.kind ≡ kind.Ask → StopsInCommand r old new (Ask (named_literals lent.literals.now)) left a b → StopsInCommand r old new (command_of_lent lent) left a b
    ask_stops r new left a b e h = subst (λ c. StopsInCommand r old new c left a b) (sym (spelled_as kind.Ask e)) h

    module _ (r : Result (Unit {0}) RunFault) (s : Solver) (w : Writer) where
      pub clause_carried : lent.kind ≡ kind.Clause → OnOk r (ClauseAccepted old.solver s lent.literals.now) → OnOk r (CommandCarriedOut old (record old { solver = s }) (command_of_lent lent) w w)
      clause_carried e h =
          subst (λ c. OnOk r (CommandCarriedOut old (record old { solver = s }) c w w)) (sym (spelled_as kind.Clause e))
          (on_ok r (λ (a : ClauseAccepted old.solver s lent.literals.now). obeyed_carried old s (Clause (named_literals lent.literals.now)) w tt on.free (clause_obeyed lent.literals.now old.solver s on.ready a)) h)

      pub clause_writes : OnOk r (ClauseAccepted old.solver s lent.literals.now) → IfErr r (λ e. FailsSolver e old.solver s) → WritesBoth r w w old.solver s
      clause_writes h f = solver_writes r w old.solver s (on_ok r (λ (a : ClauseAccepted old.solver s lent.literals.now). a.took) h) f

      module _ (st : NameState) (names : List ℕ) (h : OnOk r (NonAskCarriedOut (command_for_state st names) old.solver s)) where
        pub names_carried : command_of_lent lent ≡ command_for_state st names → OnOk r (CommandCarriedOut old (record old { solver = s }) (command_of_lent lent) w w)
        names_carried e =
            subst (λ c. OnOk r (CommandCarriedOut old (record old { solver = s }) c w w)) (sym e)
            (on_ok r (λ o. obeyed_carried old s (command_for_state st names) w (names_ask_nothing st names) on.free o) h)

        pub names_write : IfErr r (λ e. FailsSolver e old.solver s) → WritesBoth r w w old.solver s
        names_write f = solver_writes r w old.solver s (on_ok r (λ (o : NonAskCarriedOut (command_for_state st names) old.solver s). o.took) h) f
