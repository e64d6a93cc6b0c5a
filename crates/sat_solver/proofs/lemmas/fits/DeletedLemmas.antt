-- Long clauses are deleted: redundant ones, and those with a true literal of level 0.
use Rattle.std.proofs.Common.{ℕ, ◌≡◌, true, false, List, map}
use Rattle.std.specs.List.{Contains}
use Rattle.sat_base.specs.steps.Steps.{DeleteClause, Redundant, Satisfied}
use Rattle.sat_store.specs.clause.Buffer.{lits_at}
use Rattle.sat_checker.specs.LiteralSets.{is_among}
use Rattle.sat_parts.specs.clause.Db.{Db, DbMatchesBuffer, live_refs, DeletesClause}
use Rattle.sat_parts.specs.clause.Orders.{IsReordering}
use Rattle.sat_parts.specs.prop.State.{PropagationState}
use Rattle.sat_solver.specs.session.Session.{Session, after, IsAllowedStep}
use Rattle.sat_solver.specs.session.LiveClauses.{LiveClause, with_var}
use Rattle.sat_solver.specs.session.SolverClauses.{solver_clauses, InsertsClause}
use Rattle.sat_parts.specs.parts.Frame.{IsUnitLit}
use Rattle.sat_solver.specs.session.Matching.{is_redundant, SessionMatches}
use Rattle.sat_solver.specs.session.Listed.{MatchesClauseList}
use Rattle.sat_solver.proofs.lemmas.fits.ListedLemmas.{listed, fits_listed, listed_redundant, listed_satisfied, some_unit}
use Rattle.sat_solver.proofs.lemmas.fits.ChangedLemmas.{deleted_there}

-- the step has the literals of the clause in some order, `ls`
module _ (words words' : List ℕ) (db db' : Db) (implied : List (List ℕ)) (st : PropagationState) (s : Session) (global : ℕ → ℕ) (fits : SessionMatches words (live_refs words db.refs) implied st s global) (held : DbMatchesBuffer words db) (o : ℕ) (there : Contains (live_refs words db.refs) o) (gone : DeletesClause words db words' db' o) (ls : List ℕ) (order : IsReordering ls (lits_at words o)) where
  abbrev old : List LiveClause
  old = solver_clauses (is_redundant words) words (live_refs words db.refs) implied

  abbrev new : List LiveClause
  new = solver_clauses (is_redundant words') words' (live_refs words' db'.refs) implied

  its : MatchesClauseList old st s global
  its = listed words (live_refs words db.refs) implied st s global fits

  inserted : InsertsClause new old (record { redundant = is_redundant words o; literals = lits_at words o })
  inserted = deleted_there words words' db db' implied o held there gone

  pub fits_deleted_redundant : is_redundant words o ≡ true →
      IsAllowedStep s (DeleteClause (map (with_var global) ls) Redundant) × SessionMatches words' (live_refs words' db'.refs) implied st (after (DeleteClause (map (with_var global) ls) Redundant) s) global
  fits_deleted_redundant r =
      let x = listed_redundant s global st old new (is_redundant words o) ls (lits_at words o) order inserted its r in
      (x.0, fits_listed words' (live_refs words' db'.refs) implied st (after (DeleteClause (map (with_var global) ls) Redundant) s) global x.1 fits.paired)

  pub fits_deleted_satisfied : is_redundant words o ≡ false → (l : ℕ) → is_among ls l ≡ true → IsUnitLit st l →
      IsAllowedStep s (DeleteClause (map (with_var global) ls) Satisfied) × SessionMatches words' (live_refs words' db'.refs) implied st (after (DeleteClause (map (with_var global) ls) Satisfied) s) global
  fits_deleted_satisfied r l t unit =
      let u = some_unit s global st old new (is_redundant words o) ls (lits_at words o) order inserted its l t (fits.known l unit) in
      let x = listed_satisfied s global st old new (is_redundant words o) ls (lits_at words o) order inserted its r u in
      (x.0, fits_listed words' (live_refs words' db'.refs) implied st (after (DeleteClause (map (with_var global) ls) Satisfied) s) global x.1 fits.paired)
