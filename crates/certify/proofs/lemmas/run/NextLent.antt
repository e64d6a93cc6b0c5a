-- The next command that the reader passes is served.
use Rattle.std.proofs.Common.{◌≡◌, false, Some, None, [], ◌∷◌, Result, Ok, Err, OnErr, OnOk, sym, subst}
use Rattle.sat_base.specs.device.Device.{Writer}
use Rattle.sat_base.specs.script.Language.{Reading, prepend_commands}
use Rattle.sat_base.specs.script.Script.{Command}
use Rattle.sat_base.specs.script.ScriptState.{ScriptState, state_after_accepted, refusal_of}
use Rattle.certify.specs.declared.fault.RunFault.{RunFault}
use Rattle.certify.specs.declared.refusals.Refusal.{Refusal as CodeRefusal}
use Rattle.certify.specs.declared.script.Command.{Command as Lent}
use Rattle.certify.specs.declared.run.session.RunState.{RunState}
use Rattle.certify.specs.refusals.Names.{ReportsRefusal, NamesHaveState, refusal_of_code}
use Rattle.certify.specs.script.Commands.{RepresentsCommand}
use Rattle.certify.specs.run.Stopping.{StopsServing}
use Rattle.certify.specs.run.BetweenCommands.{CommandCarriedOut, RunInvariant, CommandRefused, CommandServed, StopsInCommand, StopsInScript, run_place, command_of_lent}
use Rattle.certify.proofs.lemmas.run.Lent.{lent_is}
use Rattle.certify.proofs.lemmas.run.Next.{counted, refused_next, taken_next}

module _ {C : Type 0} (old new : RunState C) (lent : Lent) (before after : Writer) (on : RunInvariant old) where
  -- a refused command is served
  pub refused_served : (r : Result (Unit {0}) RunFault) (refusal : CodeRefusal) → ReportsRefusal (Some refusal) old.names lent
      → OnOk r (CommandRefused (counted old) new (refusal_of_code refusal) before after) → (c : Command) → RepresentsCommand lent c → OnOk r (CommandServed old new c before after)
  refused_served (Ok x) refusal judges h c l = refused_next old new c before after on (refusal_of_code refusal) h (λ j s. sym (judges j c s l))
  refused_served (Err e) refusal judges h c l = tt

  -- an accepted command that was carried out is served
  pub taken_served : (r : Result (Unit {0}) RunFault) → lent.past_limit ≡ false → ReportsRefusal None old.names lent → OnOk r (CommandCarriedOut (counted old) new (command_of_lent lent) before after)
      → OnOk r ((j : ScriptState) (c : Command) → NamesHaveState old.names j → RepresentsCommand lent c → NamesHaveState new.names (state_after_accepted c j)) → (c : Command) → RepresentsCommand lent c → OnOk r (CommandServed old new c before after)
  taken_served (Ok x) within judges h k c l =
      taken_next old new c before after on (subst (λ d. CommandCarriedOut (counted old) new d before after) (sym (lent_is lent c l within)) h) (λ j s. sym (judges j c s l)) (λ j s. k j c s l)
  taken_served (Err e) within judges h k c l = tt

  -- a fault within a refused command leaves a prefix of correct answers
  pub refused_stops : (r : Result (Unit {0}) RunFault) (refusal : CodeRefusal) → ReportsRefusal (Some refusal) old.names lent
      → ((j : ScriptState) (c : Command) (left : Reading) → refusal_of j c ≡ Some (refusal_of_code refusal) → OnErr r (StopsServing old.budget (run_place old j) (prepend_commands (c ∷ []) left) new.solver.steps before after))
      → (c : Command) → RepresentsCommand lent c → (left : Reading) → StopsInScript r old new (prepend_commands (c ∷ []) left) before after
  refused_stops (Ok x) refusal judges h c l left = tt
  refused_stops (Err e) refusal judges h c l left = λ j at. h j c left (sym (judges j c at.names l))

  -- a fault within an accepted command leaves a prefix of correct answers
  pub taken_stops : (r : Result (Unit {0}) RunFault) → lent.past_limit ≡ false → ReportsRefusal None old.names lent → ((left : Reading) → StopsInCommand r (counted old) new (command_of_lent lent) left before after)
      → (c : Command) → RepresentsCommand lent c → (left : Reading) → StopsInScript r old new (prepend_commands (c ∷ []) left) before after
  taken_stops (Ok x) within judges h c l left = tt
  taken_stops (Err e) within judges h c l left = λ j at.
      let is = lent_is lent c l within in
      subst (λ d. StopsServing old.budget (run_place old j) (prepend_commands (d ∷ []) left) new.solver.steps before after) (sym is)
      (h left j at.live at.means (subst (λ d. refusal_of j d ≡ None) is (sym (judges j c at.names l))))
