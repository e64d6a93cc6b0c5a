-- Adding a formula only appends steps.
use Rattle.std.proofs.Common.{ℕ, ◌≡◌, ◌⊎◌, inl, inr, sym, subst, Result, Ok, Err, List, [], ◌∷◌}
use Rattle.anyhow.specs.declared.error.Error.{Error}
use Rattle.sat_base.specs.device.Device.{Reader}
use Rattle.sat_checker.specs.announcements.Announcements.{Notice}
use Rattle.sat_solver.specs.declared.error.SolverError.{SolverError}
use Rattle.sat_solver.specs.declared.error.SolverError.TheVariants as errors
use Rattle.sat_solver.specs.facade.View.{SolverView}
use Rattle.sat_solver.specs.facade.Calls.{ReachesBySteps}
use Rattle.sat_solver.specs.facade.Extending.{CallsAddClause}
use Rattle.sat_solver.specs.facade.Formulas.{AddsAll, AddsText, ClauseFails, StopsAtClause, TextFails, with_fault}
use Rattle.sat_solver.proofs.lemmas.facade.FormulaLemmas.{AddedSo}
use Rattle.sat_solver.proofs.lemmas.facade.LawLemmas.{calls_go_on}
use Rattle.sat_solver.proofs.lemmas.facade.Steps.{reaches_more}
use Rattle.sat_base.specs.declared.dimacs.error.DimacsError.{DimacsError}

module _ {L : Type 0} (takes : L → Notice → Result Unit Error → L → Type 0) where
  by_call : (r : Result (Unit {0}) SolverError) (a b : SolverView L) (clause : List ℕ) → CallsAddClause takes r a b clause → ReachesBySteps a b
  by_call (Ok x) a b clause h = (calls_go_on a b).makes h.text
  by_call (Err e) a b clause h = (calls_go_on a b).breaks e h.text

  by_calls : (a b : SolverView L) (clauses : List (List ℕ)) → AddsAll takes a clauses b → ReachesBySteps a b
  by_calls a b [] h = (calls_go_on a b).stays h
  by_calls a b (c ∷ cs) h = reaches_more a h.0 b (by_call (Ok tt) a h.0 c h.1) (by_calls h.0 b cs h.2)

  stopped : (e : SolverError) (a b : SolverView L) (clauses : List (List ℕ)) → StopsAtClause takes e a b clauses → ReachesBySteps a b
  stopped e a b clauses h = reaches_more a h.mid b (by_calls a h.mid h.before h.added) (by_call (Err e) h.mid b h.clause h.stops)

  -- the clauses so far were added
  pub so_reached : (a b : SolverView L) (clauses rest : List (List ℕ)) → AddedSo takes a b clauses rest → ReachesBySteps a b
  so_reached a b clauses rest so = by_calls a b so.before so.added

  pub so_stopped : (e : SolverError) (a m b : SolverView L) (clauses rest : List (List ℕ)) (clause : List ℕ) → AddedSo takes a m clauses rest → CallsAddClause takes (Err e) m b clause → ReachesBySteps a b
  so_stopped e a m b clauses rest clause so h = reaches_more a m b (so_reached a m clauses rest so) (by_call (Err e) m b clause h)

  faulty : (fault : DimacsError) (a b : SolverView L) → ReachesBySteps a b → ReachesBySteps a (with_fault fault b)
  faulty fault a b h = record { steps = h.steps; history = h.history; target = h.target }

  text_stopped : (e : SolverError) (a b : SolverView L) (from to : Reader) → TextFails takes e a b from to ⊎ ClauseFails takes e a b from to → ReachesBySteps a b
  text_stopped e a b from to h = elim h [
    | inl k ↦ subst (λ (w : SolverView L). ReachesBySteps a w) (sym k.new_is) (faulty k.fault a k.mid (by_calls a k.mid k.clauses k.added))
    | inr k ↦ stopped e a b k.clauses k.stops
  ]

  pub text_reached : (r : Result (Unit {0}) SolverError) (a b : SolverView L) (from to : Reader) → AddsText takes r a b from to → ReachesBySteps a b
  text_reached (Ok x) a b from to h = by_calls a b h.clauses h.added
  text_reached (Err errors.HasFailed) a b from to h = (calls_go_on a b).stays h.0.same
  text_reached (Err e) a b from to h = text_stopped e a b from to h
