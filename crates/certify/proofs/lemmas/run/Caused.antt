-- Why a part of a run failed, except for device and allocation failures.
use Rattle.std.proofs.Common.{ℕ, ◌+◌, ◌<◌, ◌≡◌, ◌∙◌, inl, inr, false, None, List, [], ◌∷◌, ◌++◌, drop, get_or, length, length-append, take, Result, Ok, Err, IfErr, refl, sym, ap, subst, append_assoc, arith}
use Rattle.std.proofs.lemmas.List.{map-append, take-append-drop}
use Rattle.sat_base.specs.device.Device.{Writer}
use Rattle.sat_base.specs.script.Script.{Command, Clause, Ask, Clean}
use Rattle.sat_base.specs.script.Language.{Reading, prepend_commands}
use Rattle.sat_base.specs.script.ScriptState.{ScriptState, state_after_accepted, after_command, after_script, refusal_of}
use Rattle.sat_base.specs.values.Literals.{var_limit, variable}
use Rattle.sat_solver.specs.variables.Refusing.{names_in}
use Rattle.sat_solver.specs.variables.VariableRoom.{user_vars_in}
use Rattle.sat_base.specs.steps.Steps.{Step}
use Rattle.sat_solver.specs.facade.Calls.{HasFullStore}
use Rattle.certify.specs.answers.AnswerForms.{named_literals}
use Rattle.certify.specs.declared.fault.RunFault.{RunFault}
use Rattle.certify.specs.declared.fault.RunFault.TheVariants as fault
use Rattle.certify.specs.declared.refusals.NameState.{NameState}
use Rattle.certify.specs.declared.script.Command.{Command as Lent}
use Rattle.certify.specs.declared.script.CommandKind.TheVariants as kind
use Rattle.certify.specs.declared.run.session.RunState.{RunState}
use Rattle.certify.specs.refusals.Names.{ReportsRefusal}
use Rattle.certify.specs.script.Commands.{RepresentsCommand}
use Rattle.certify.specs.run.Unfinished.{ExceedsLimit}
use Rattle.certify.specs.run.LackingVariables.{CommandLacksVariables}
use Rattle.certify.specs.run.SolverCalls.{IsCaused, LacksVariablesFor, RefusedForRoom}
use Rattle.certify.specs.run.NonAskCommands.{NonAskCarriedOut, command_for_state}
use Rattle.certify.specs.run.RunSolver.{Solver}
use Rattle.certify.specs.run.BetweenCommands.{IsCausedByCommand, IsCausedByScript, HasStateBetweenCommands, CommandServed, command_of_lent}
use Rattle.certify.proofs.lemmas.run.CallFaults.{caused_map}
use Rattle.certify.proofs.lemmas.run.Lent.{lent_is, spelled_as}
use Rattle.certify.proofs.lemmas.run.Needing.{clause_needs, names_need_more, script_grows}
use Rattle.certify.proofs.lemmas.run.Next.{after_accepted}
use Rattle.certify.proofs.lemmas.run.Obeys.{name_more}

-- an allocation failure needs no further reason
pub memory_caused : (e : RunFault) (full lacks : Type 0) → e ≡ fault.OutOfMemory → IsCaused e full lacks
memory_caused e full lacks m = subst (λ x. IsCaused x full lacks) (sym m) tt

-- a failed write of the answers needs no further reason
pub unwritten_caused : (e : RunFault) (full lacks : Type 0) → e ≡ fault.AnswersWrite → IsCaused e full lacks
unwritten_caused e full lacks m = subst (λ x. IsCaused x full lacks) (sym m) tt

pub unwritten_if : {T : Type 0} (r : Result T RunFault) (P : Type 0) → IfErr r (λ e. (e ≡ fault.AnswersWrite) × P) → IfErr r (λ e. IsCaused e ⊥ ⊥)
unwritten_if (Ok x) P h = tt
unwritten_if (Err e) P h = unwritten_caused e ⊥ ⊥ h.0

caused_if : {T : Type 0} (r : Result T RunFault) (full lacks P Q : Type 0) → (full → P) → (lacks → Q) → IfErr r (λ e. IsCaused e full lacks) → IfErr r (λ e. IsCaused e P Q)
caused_if (Ok x) full lacks P Q f g h = tt
caused_if (Err e) full lacks P Q f g h = caused_map e full lacks P Q f g h

-- reasons for each value are a reason for all values
pub caused_all : (e : RunFault) (full : Type 0) (A : Type 0) (P : A → Type 0) → A → ((x : A) → IsCaused e full (P x)) → IsCaused e full ((x : A) → P x)
caused_all fault.StoreFull full A P a h = h a
caused_all fault.CounterEnd full A P a h = h
caused_all e full A P a h = tt

-- NAMES

-- the names of literals are those before one literal, its own, and those after it
names_split : (codes : List ℕ) (k code user : ℕ) → k < length codes → code ≡ get_or codes k code → user ≡ variable code → names_in (take k codes) ++ ((user + 1) ∷ [] ++ names_in (drop (k + 1) codes)) ≡ names_in codes
names_split codes k code user lt is at =
    sym (append_assoc (names_in (take k codes)) ((user + 1) ∷ []) (names_in (drop (k + 1) codes))) ∙ ap (λ ns. ns ++ names_in (drop (k + 1) codes)) (name_more codes k code user lt is at)
    ∙ sym (map-append (λ l. variable l + 1) (take (k + 1) codes) (drop (k + 1) codes)) ∙ ap names_in (take-append-drop (k + 1) codes)

pub names_caused : (st : NameState) (codes : List ℕ) (k code user : ℕ) (a b c : Solver) (e : RunFault) → k < length codes → code ≡ get_or codes k code → user ≡ variable code
    → NonAskCarriedOut (command_for_state st (names_in (take k codes))) a b → IsCaused e ⊥ (RefusedForRoom b c (user ∷ [])) → IsCaused e ⊥ (LacksVariablesFor a c (command_for_state st (names_in codes)))
names_caused st codes k code user a b c e lt is at done h =
    caused_map e ⊥ (RefusedForRoom b c (user ∷ [])) ⊥ (LacksVariablesFor a c (command_for_state st (names_in codes))) (λ x. x)
    (λ lacks. subst (λ names. LacksVariablesFor a c (command_for_state st names)) (names_split codes k code user lt is at) (names_need_more st (names_in (take k codes)) (names_in (drop (k + 1) codes)) user a b c done lacks)) h

-- COMMANDS

module _ {C : Type 0} (lent : Lent) (old : RunState C) (r : Result (Unit {0}) RunFault) (new : Solver) where
  pub clause_caused_by : lent.kind ≡ kind.Clause → IfErr r (λ e. IsCaused e (HasFullStore new) (RefusedForRoom old.solver new (user_vars_in lent.literals.now))) → IsCausedByCommand r old (record old { solver = new }) (command_of_lent lent)
  clause_caused_by e h = subst (λ c. IsCausedByCommand r old (record old { solver = new }) c) (sym (spelled_as lent kind.Clause e))
      (caused_if r (HasFullStore new) (RefusedForRoom old.solver new (user_vars_in lent.literals.now)) (HasFullStore new) (LacksVariablesFor old.solver new (Clause (named_literals lent.literals.now))) (λ x. x) (clause_needs old.solver new lent.literals.now) h)

  pub names_caused_by : (c : Command) → command_of_lent lent ≡ c → IfErr r (λ e. IsCaused e ⊥ (LacksVariablesFor old.solver new c)) → IsCausedByCommand r old (record old { solver = new }) (command_of_lent lent)
  names_caused_by c e h = subst (λ d. IsCausedByCommand r old (record old { solver = new }) d) (sym e)
      (caused_if r ⊥ (LacksVariablesFor old.solver new c) (HasFullStore new) (LacksVariablesFor old.solver new c) (λ x. absurd x) (λ x. x) h)

pub ask_caused_by : {C : Type 0} (lent : Lent) (old new : RunState C) (r : Result (Unit {0}) RunFault) → lent.kind ≡ kind.Ask → IsCausedByCommand r old new (Ask (named_literals lent.literals.now)) → IsCausedByCommand r old new (command_of_lent lent)
ask_caused_by lent old new r e h = subst (λ c. IsCausedByCommand r old new c) (sym (spelled_as lent kind.Ask e)) h

-- WHAT IS LEFT OF A SCRIPT

-- a script exceeds a limit if its first command lacks variables
pub needs_exceed : {C : Type 0} (old : RunState C) (new : Solver) (c : Command) (left : Reading) (j : ScriptState) → HasStateBetweenCommands old j → refusal_of j c ≡ None → LacksVariablesFor old.solver new c
    → ExceedsLimit old.commands j (prepend_commands (c ∷ []) left) new.steps
needs_exceed old new c left j at free needs =
    let both = needs j at.live at.means.agree in
    let h = both.0 in
    let g = script_grows left.0 (state_after_accepted c j) in
    inr (
      subst (λ i. var_limit < (after_script left.0 i).identity_count) (sym (after_accepted j c free)) (omega arith),
      record { before = []; command = c; following = left.0; whole = refl; accepted_one = free; lacks = both.1 },
    )

module _ {C : Type 0} (old mid new : RunState C) (lent : Lent) (r : Result (Unit {0}) RunFault) where
  pub taken_caused : lent.past_limit ≡ false → ReportsRefusal None old.names lent → mid.solver ≡ old.solver → IsCausedByCommand r mid new (command_of_lent lent) → (c : Command) → RepresentsCommand lent c → (left : Reading) → IsCausedByScript r old new (prepend_commands (c ∷ []) left)
  taken_caused within judges same h c l left =
      caused_if r (HasFullStore new.solver) (LacksVariablesFor mid.solver new.solver (command_of_lent lent)) (HasFullStore new.solver) ((j : ScriptState) → HasStateBetweenCommands old j → ExceedsLimit old.commands j (prepend_commands (c ∷ []) left) new.solver.steps) (λ x. x)
      (λ needs j at. needs_exceed old new.solver c left j at (sym (judges j c at.names l)) (subst (λ s. LacksVariablesFor s new.solver c) same (subst (LacksVariablesFor mid.solver new.solver) (sym (lent_is lent c l within)) needs))) h

-- a fault that is caused by neither a full store nor a counter
pub blameless : {T C : Type 0} (r : Result T RunFault) (old new : RunState C) (script : Reading) → IfErr r (λ e. IsCaused e ⊥ ⊥) → IsCausedByScript r old new script
blameless r old new script h = caused_if r ⊥ ⊥ (HasFullStore new.solver) ((j : ScriptState) → HasStateBetweenCommands old j → ExceedsLimit old.commands j script new.solver.steps) (λ x. absurd x) (λ x. absurd x) h

-- the state after two lists of commands is that after both in turn
pub after_both : (xs ys : List Command) (i : ScriptState) → after_script (xs ++ ys) i ≡ after_script ys (after_script xs i)
after_both [] ys i = refl
after_both (x ∷ xs) ys i = after_both xs ys (after_command x i)

-- a limit that is exceeded after some commands is exceeded by the complete script
pub exceeds_later : (n m : ℕ) (cs : List Command) (script : Reading) (j : ScriptState) (steps : List Step) → m ≡ n + length cs → ExceedsLimit m (after_script cs j) script steps → ExceedsLimit n j (prepend_commands cs script) steps
exceeds_later n m cs script j steps e (inl few) = inl (let l = length-append cs script.0 in omega arith)
exceeds_later n m cs script j steps e (inr (needs, one)) = inr (
  subst (λ i. var_limit < i.identity_count) (sym (after_both cs script.0 j)) needs,
  record {
    before = cs ++ one.before;
    command = one.command;
    following = one.following;
    whole = ap (λ (xs : List Command). cs ++ xs) one.whole ∙ sym (append_assoc cs one.before (one.command ∷ one.following));
    accepted_one = subst (λ i. refusal_of i one.command ≡ None) (sym (after_both cs one.before j)) one.accepted_one;
    lacks = subst (λ i. CommandLacksVariables i one.command steps) (sym (after_both cs one.before j)) one.lacks;
  },
)

-- a fault after one command was served
pub caused_after : {T C : Type 0} (r : Result T RunFault) (c : Command) (script : Reading) (a b new : RunState C) (u v : Writer) → CommandServed a b c u v → IsCausedByScript r b new script → IsCausedByScript r a new (prepend_commands (c ∷ []) script)
caused_after r c script a b new u v f h =
    caused_if r (HasFullStore new.solver) ((j : ScriptState) → HasStateBetweenCommands b j → ExceedsLimit b.commands j script new.solver.steps) (HasFullStore new.solver) ((j : ScriptState) → HasStateBetweenCommands a j → ExceedsLimit a.commands j (prepend_commands (c ∷ []) script) new.solver.steps) (λ x. x)
    (λ k j at. exceeds_later a.commands b.commands (c ∷ []) script j new.solver.steps f.commands (k (after_command c j) (f.serves j at).0)) h

-- a fault at the ask that a header adds
pub asked_caused : {T C : Type 0} (a new : RunState C) (r : Result T RunFault) → IsCausedByCommand r a new (Ask []) → IsCausedByScript r a new (Ask [] ∷ [], Clean)
asked_caused a new r h =
    caused_if r (HasFullStore new.solver) (LacksVariablesFor a.solver new.solver (Ask [])) (HasFullStore new.solver) ((j : ScriptState) → HasStateBetweenCommands a j → ExceedsLimit a.commands j (Ask [] ∷ [], Clean) new.solver.steps) (λ x. x)
    (λ needs j at. needs_exceed a new.solver (Ask []) ([], Clean) j at refl needs) h
