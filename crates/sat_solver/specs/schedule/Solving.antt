-- The result of successive rounds.
use Rattle.std.specs.Prelude.{ℕ, ◌≡◌, ◌+◌, ◌-◌, ◌<◌, ◌⊎◌, true, Option, MatchOption, List, [], ◌∷◌, ◌++◌, length}
use Rattle.sat_base.specs.device.Device.{Writer}
use Rattle.sat_base.specs.steps.Steps.{Step, AtClause}
use Rattle.sat_checker.specs.declared.processing.ProofProcessor.{Ghosts}
use Rattle.sat_parts.specs.prop.TrailWord.{Letter}
use Rattle.sat_solver.specs.proof.ProofView.{EmitsChecked, HasAllowedSteps, steps_of, session_of}
use Rattle.sat_solver.specs.session.AllowedSteps.{OnlyAllowedSteps, OnlyWidthAfterUnsat}
use Rattle.sat_solver.specs.session.Session.{Session, session_after}
use Rattle.sat_parts.specs.parts.Frame.{SameClauses}
use Rattle.sat_parts.specs.parts.Words.{IsTrailWordSinceAsk}
use Rattle.sat_solver.specs.session.Empowering.{IsEmpowering}
use Rattle.sat_solver.specs.session.Quiet.{IsNeverEmpowering, is_quiet}
use Rattle.sat_solver.specs.declared.schedule.RoundOutcome.{RoundOutcome}
use Rattle.sat_solver.specs.declared.schedule.RoundOutcome.TheVariants as outcomes
use Rattle.sat_solver.specs.declared.error.SolverError.{SolverError}
use Rattle.sat_solver.specs.declared.context.Context.{Context}
use Rattle.sat_solver.specs.declared.context.Search.{Search}
use Rattle.sat_solver.specs.cdcl.Joint.{assumed_indices, SearchInvariant, SameVarsAndAssumptions}
use Rattle.sat_solver.specs.cdcl.Ending.{RoundEnds}
use Rattle.sat_solver.specs.clause.Reduced.{Reduces}
use Rattle.sat_solver.specs.cdcl.Rounds.{RoundFindsCore, RoundFindsModel}
use Rattle.sat_solver.specs.variables.Calls.{KeepsScriptState}
use Rattle.sat_solver.specs.declared.variables.Variables.{Variables}
use Rattle.sat_solver.specs.variables.Shared.{SharesIndices}
use Rattle.sat_solver.specs.unit_simplify.FreedIndices.{KeepsAsked}
use Rattle.sat_parts.specs.parts.Full.{IsBufferFull}
use Rattle.sat_solver.specs.unit_simplify.Passes.{PassFailsOr}

-- `IsEmpoweringStep s step` holds if `step` is an `AtClause` step whose clause is empowering, for its first literal, in
-- the session `s`
abbrev pub IsEmpoweringStep : Session → Step → Type 0
IsEmpoweringStep s (AtClause redundant clause hashes) = IsEmpowering s clause
IsEmpoweringStep s step = ⊥

-- `IsNeverEmpoweringByForm s step` holds if `step` is no `AtClause` step, or derives the empty clause or a clause with
-- at most one hash that is empowering for none of its literals
pub record IsNeverEmpoweringByForm (s : Session) (step : Step) : Type 0 where
  pub quiet : is_quiet step ≡ true
  pub never : IsNeverEmpowering s step

-- `CountsEmpowering earlier steps k` holds if exactly `k` of `steps` are `AtClause` steps whose clause is empowering
-- after the steps before; every other one has the empty clause or at most one hash, and is empowering for no literal
abbrev pub CountsEmpowering : (earlier steps : List Step) → ℕ → Type 0
CountsEmpowering earlier [] k = k ≡ 0
CountsEmpowering earlier (step ∷ steps) k = (CountsEmpowering earlier steps k × IsNeverEmpoweringByForm (session_after (steps ++ earlier)) step)
    ⊎ ((j : ℕ) × (k ≡ j + 1) × IsEmpoweringStep (session_after (steps ++ earlier)) step × CountsEmpowering earlier steps j)

-- `CountsEmpoweringIn from to k` holds if exactly `k` of the steps made after `from` derive a clause that is empowering
-- when it is derived; the others never do
pub record CountsEmpoweringIn (from to : List Step) (k : ℕ) : Type 0 where
  pub steps : List Step
  pub following : to ≡ steps ++ from
  pub times : CountsEmpowering from steps k

-- `ContextInvariant c` holds if, as between rounds, all steps were allowed, the search is consistent and matches the
-- session of the steps, and the intervals of reductions are positive
pub record ContextInvariant {W L : Type 0} {G : Ghosts L} (c : Context W L G) : Type 0 where
  pub keeps : HasAllowedSteps c.proof
  pub search : SearchInvariant (session_of c.proof) c.search
  pub locals : 0 < c.config.reduce_locals_interval
  pub mids : 0 < c.config.reduce_mids_interval

-- `IsWordOf c w` holds if `w` encodes the trail of the search since the ask began, as a word of letters for decisions
-- (`D`) and propagated literals (`P`)
abbrev pub IsWordOf : {W L : Type 0} {G : Ghosts L} → Context W L G → List Letter → Type 0
IsWordOf c w = IsTrailWordSinceAsk (assumed_indices c.search) c.search.parts w

-- the number of indices of the search, used or released
abbrev pub search_var_count : {W L : Type 0} {G : Ghosts L} → Context W L G → ℕ
search_var_count c = length c.search.parts.assignment.current

-- `RoundsLeadTo seen a n k b m` holds if steps of which exactly `k` derive an empowering clause lead from `a` (names
-- `n`) to `b` (names `m`), as `k` rounds do that end in a conflict. Script state, assumptions and parameters are
-- unchanged.
pub record RoundsLeadTo {W L : Type 0} {G : Ghosts L} (seen : W → Writer) (a : Context W L G) (n : Variables) (k : ℕ) (b : Context W L G) (m : Variables) : Type 0 where
  pub steps : List Step
  pub adds : EmitsChecked seen steps a.proof b.proof
  pub does : KeepsScriptState n m (steps_of a.proof) (steps_of b.proof)
  pub asked : KeepsAsked n m (session_of a.proof) (session_of b.proof)
  pub moved : SameVarsAndAssumptions a.search b.search
  pub config : b.config ≡ a.config
  pub times : CountsEmpowering (steps_of a.proof) steps k

-- `ReachedByAsManyRounds seen b c` holds if, from wherever `k` rounds that end in a conflict lead to `b`, `k` such
-- rounds also lead to `c`, with the same names
abbrev pub ReachedByAsManyRounds : {W L : Type 0} {G : Ghosts L} → (W → Writer) → Context W L G → Context W L G → Type 0
ReachedByAsManyRounds {W} {L} {G} seen b c = (a : Context W L G) (n m : Variables) (k : ℕ) → RoundsLeadTo seen a n k b m → RoundsLeadTo seen a n k c m

-- `OutcomeResult outcome s m c c'` holds if `outcome` is an answer and the search fits it: everything assigned without
-- conflict for `Model`, a false assumption for `Failed`, unsat recorded in the session for `Unsat`; never for `Learned`
abbrev pub OutcomeResult : RoundOutcome → Session → Variables → Search → Search → Type 0
OutcomeResult outcomes.Learned s m c c' = ⊥
OutcomeResult outcomes.Model s m c c' = RoundFindsModel s c c' × SharesIndices m c'
OutcomeResult outcomes.Unsat s m c c' = s.unsat ≡ true
OutcomeResult outcomes.Failed s m c c' = RoundFindsCore s c c' × SharesIndices m c'

-- `AskEnds seen a n k outcome b m` holds if an ask found the answer `outcome` after `k` rounds that ended in a
-- conflict: of the steps from `a` to `b`, exactly `k` derive an empowering clause, and after unsat is recorded they
-- only change the width
pub record AskEnds {W L : Type 0} {G : Ghosts L} (seen : W → Writer) (a : Context W L G) (n : Variables) (k : ℕ) (outcome : RoundOutcome) (b : Context W L G) (m : Variables) : Type 0 where
  pub steps : List Step
  pub adds : EmitsChecked seen steps a.proof b.proof
  pub does : KeepsScriptState n m (steps_of a.proof) (steps_of b.proof)
  pub asked : KeepsAsked n m (session_of a.proof) (session_of b.proof)
  pub keeps : HasAllowedSteps b.proof
  pub config : b.config ≡ a.config
  pub comes : OnlyAllowedSteps OnlyWidthAfterUnsat (steps_of a.proof) (steps_of b.proof)
  pub says : OutcomeResult outcome (session_of b.proof) m a.search b.search
  pub times : CountsEmpowering (steps_of a.proof) steps k

-- `AskEndsWithin seen rounds answer a n b m` holds if `answer` is `None`, or an ask found it from `a` (names `n`) to
-- `b` (names `m`) after `rounds - 1` rounds that ended in a conflict: exactly `rounds - 1` of the steps made derive an
-- empowering clause (`AskEnds`)
abbrev pub AskEndsWithin : {W L : Type 0} {G : Ghosts L} → (W → Writer) → (rounds : ℕ) → Option RoundOutcome → Context W L G → Variables → Context W L G → Variables → Type 0
AskEndsWithin seen rounds answer a n b m = MatchOption answer (Unit {0}) (λ o. AskEnds seen a n (rounds - 1) o b m)

-- `SearchFails seen a e b` holds if the search failed with `e` after some steps from `a` to `b`, and the underlying
-- error is stored; `StoreFull` only if the clause buffer is full
abbrev pub SearchFails : {W L : Type 0} {G : Ghosts L} → (W → Writer) → Context W L G → SolverError → Context W L G → Type 0
SearchFails seen a e b = PassFailsOr (IsBufferFull b.search.parts) seen e a.proof b.proof

-- `Restarted a b` holds if decisions were undone, down to the levels of assumptions; clauses, names of indices, proof
-- and parameters are unchanged
pub record Restarted {W L : Type 0} {G : Ghosts L} (a b : Context W L G) : Type 0 where
  pub levels : length b.search.parts.trail.starts ≡ length a.search.assumptions.below.items
  pub clauses : SameClauses a.search.parts b.search.parts
  pub same : b ≡ record a { search = record a.search { parts = b.search.parts } }

-- `ReducedAt seen a round b` holds if the reductions that are due before the round with the number `round` were made,
-- with their steps, from `a` to `b`; variables, assumptions and parameters are unchanged
pub record ReducedAt {W L : Type 0} {G : Ghosts L} (seen : W → Writer) (a : Context W L G) (round : ℕ) (b : Context W L G) : Type 0 where
  pub steps : List Step
  pub adds : EmitsChecked seen steps a.proof b.proof
  pub reduces : Reduces a.config round a.search.parts b.search.parts
  pub moved : SameVarsAndAssumptions a.search b.search
  pub config : b.config ≡ a.config

-- `RoundOf seen a n outcome b m` holds if one round's search, after restart and reductions, leads from `a` (names `n`)
-- to `b` (names `m`) with this outcome; parameters are unchanged
pub record RoundOf {W L : Type 0} {G : Ghosts L} (seen : W → Writer) (a : Context W L G) (n : Variables) (outcome : RoundOutcome) (b : Context W L G) (m : Variables) : Type 0 where
  pub ends : RoundEnds seen outcome n m a.proof b.proof a.search b.search
  pub config : b.config ≡ a.config
