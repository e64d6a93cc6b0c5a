-- A list of clauses still matches the session after steps are written.
use Rattle.std.proofs.Common.{ℕ, ◌<◌, ◌≡◌, Bool, true, false, List, [], ◌∷◌, ◌++◌, map, length, refl, sym, ◌∙◌, ap, subst, arith, inl, inr, Option}
use Rattle.std.specs.List.{list_any}
use Rattle.sat_base.specs.values.Literals.{variable}
use Rattle.sat_base.specs.steps.Steps.{AddClause, AtClause, DeleteClause, Redundant, Satisfied, Simplified}
use Rattle.sat_checker.specs.LiteralSets.{is_among, is_tautology, canonical}
use Rattle.sat_checker.specs.SortedSets.{NoRepeats}
use Rattle.sat_checker.proofs.lemmas.sets.Subsets.{any_true}
use Rattle.sat_parts.specs.clause.Orders.{IsReordering}
use Rattle.sat_parts.specs.prop.State.{PropagationState}
use Rattle.sat_solver.specs.session.Session.{Session, after, IsAllowedStep, CanDeleteSimplified}
use Rattle.sat_solver.proofs.lemmas.session.Changes.{with_live_clause, with_live, without_live, knowing_literals, session_if}
use Rattle.sat_solver.specs.session.LiveClauses.{LiveClause, IsIn, with_var, mapped, AreMapped, AreLiveClausesOf}
use Rattle.sat_solver.proofs.lemmas.session.Lists.{in_counts}
use Rattle.sat_solver.proofs.lemmas.session.Mapped.{once_mapped, among_mapped}
use Rattle.sat_solver.proofs.lemmas.session.Represented.{comes_in, goes, still_of}
use Rattle.sat_solver.proofs.lemmas.session.StepsOfClauses.{length_sorted, length_mapped}
use Rattle.sat_solver.specs.session.SolverClauses.{solver_clauses, InsertsClause}
use Rattle.sat_solver.specs.session.Matching.{ArePaired, is_redundant, SessionMatches}
use Rattle.sat_solver.specs.session.Listed.{MatchesClauseList, SameFacts}
use Rattle.sat_solver.proofs.lemmas.fits.SetLemmas.{set_shuffled, taut_shuffled, clause_of_set}

module _ (words live : List ℕ) (implied : List (List ℕ)) (st : PropagationState) (s : Session) (global : ℕ → ℕ) where
  pub listed : SessionMatches words live implied st s global → MatchesClauseList (solver_clauses (is_redundant words) words live implied) st s global
  listed h = record { clauses = h.clauses; known = h.known; sound = h.sound; consistent = h.consistent; width = h.width }

  pub fits_listed : MatchesClauseList (solver_clauses (is_redundant words) words live implied) st s global → ArePaired implied → SessionMatches words live implied st s global
  fits_listed h p = record { clauses = h.clauses; paired = p; known = h.known; sound = h.sound; consistent = h.consistent; width = h.width }

module _ (cs : List LiveClause) (st : PropagationState) (s : Session) (global : ℕ → ℕ) (h : MatchesClauseList cs st s global) where
  -- the match holds for another session with the same facts and its own clauses
  pub listed_as : (t : Session) (ds : List LiveClause) → SameFacts s t → AreLiveClausesOf t global ds → MatchesClauseList ds st t global
  listed_as t ds f a = record {
    clauses = a;
    known = λ l u. f.units (with_var global l) ∙ h.known l u;
    sound = λ l n u. h.sound l (sym (f.names (global (variable l))) ∙ n) (sym (f.units (with_var global l)) ∙ u);
    consistent = f.unsat ∙ h.consistent;
    width = f.width ∙ h.width;
  }

-- a step that changes neither facts nor live clauses preserves the match
pub listed_stays : (cs : List LiveClause) (st : PropagationState) (s t : Session) (global : ℕ → ℕ) → MatchesClauseList cs st s global → SameFacts s t → t.solver_names ≡ s.solver_names → ((r : Bool) (set : List ℕ) → t.live r set ≡ s.live r set) →
    MatchesClauseList cs st t global
listed_stays cs st s t global h f n e = listed_as cs st s global h t cs f (still_of s t global cs e n h.clauses)

-- CLAUSES ARE ADDED AND DELETED

-- a clause that may be added: it has two or more different literals `ms`, in the step in some order `ls`
pub record MayCome (names : ℕ → Option ℕ) (global : ℕ → ℕ) (ls ms : List ℕ) : Type 0 where
  pub order : IsReordering ls ms
  pub mapped : AreMapped global names ms
  pub once : NoRepeats ms
  pub long : 1 < length ms
  pub plain : is_tautology (map (with_var global) ms) ≡ false

module _ (s : Session) (global : ℕ → ℕ) (ls ms : List ℕ) (c : MayCome s.solver_names global ls ms) where
  abbrev ks : List ℕ
  ks = map (with_var global) ls

  abbrev set : List ℕ
  set = canonical (map (with_var global) ms)

  -- the step adds the sorted set of these literals
  pub comes_as : (r : Bool) (t : Session) → with_live_clause r ks t ≡ with_live r set t
  comes_as r t =
      clause_of_set r ks set t (set_shuffled (with_var global) ls ms c.order)
      (let e : length (canonical (map (with_var global) ms)) ≡ length (map (with_var global) ms) = length_sorted (map (with_var global) ms) (once_mapped global s.solver_names ms c.mapped c.once) in
      let f : length (map (with_var global) ms) ≡ length ms = length_mapped (with_var global) ms in
      let n : 1 < length ms = c.long in omega arith)
      (taut_shuffled (with_var global) ls ms c.order ∙ c.plain)

  module _ (st : PropagationState) (old new : List LiveClause) (r : Bool) (i : InsertsClause old new (record { redundant = r; literals = ms })) (h : MatchesClauseList old st s global) where
    pub listed_derived : (hashes : List ℕ) → MatchesClauseList new st (after (AtClause r ks hashes) s) global
    listed_derived hashes =
        let d : LiveClause = record { redundant = r; literals = ms } in
        let t : Session = after (AtClause r ks hashes) s in
        let same : with_live_clause r ks (knowing_literals ks s) ≡ with_live r set (knowing_literals ks s) = comes_as r (knowing_literals ks s) in
        let from : AreLiveClausesOf s global (i.before ++ i.following) = subst (λ cs. AreLiveClausesOf s global cs) i.was h.clauses in
        listed_as old st s global h t new
        (record {
          names = λ v. ap (λ (x : Session). x.solver_names v) same;
          units = λ l. ap (λ (x : Session). x.units l) same;
          unsat = ap (λ (x : Session). x.unsat) same;
          width = ap (λ (x : Session). x.width) same;
        })
        (subst (λ cs. AreLiveClausesOf t global cs) (sym i.is)
        (still_of (with_live r set s) t global (i.before ++ d ∷ i.following) (λ q u. ap (λ (x : Session). x.live q u) same) (ap (λ (x : Session). x.solver_names) same)
        (comes_in s global i.before i.following d from c.mapped c.once)))

-- a clause of the formula changes the session as an irredundant derived one does, unless unsat is recorded
pub listed_by : (cs : List LiveClause) (st : PropagationState) (s : Session) (global : ℕ → ℕ) (ks hashes : List ℕ) → s.unsat ≡ false →
    MatchesClauseList cs st (after (AtClause false ks hashes) s) global → MatchesClauseList cs st (after (AddClause ks) s) global
listed_by cs st s global ks hashes u h =
    let same : session_if s.unsat s (with_live_clause false ks (knowing_literals ks s)) ≡ with_live_clause false ks (knowing_literals ks s) = ap (λ b. session_if b s (with_live_clause false ks (knowing_literals ks s))) u in
    listed_stays cs st (after (AtClause false ks hashes) s) (after (AddClause ks) s) global h
    (record {
      names = λ v. ap (λ (x : Session). x.solver_names v) same;
      units = λ l. ap (λ (x : Session). x.units l) same;
      unsat = ap (λ (x : Session). x.unsat) same;
      width = ap (λ (x : Session). x.width) same;
    })
    (ap (λ (x : Session). x.solver_names) same) (λ r set. ap (λ (x : Session). x.live r set) same)

in_mapped_middle : (global : ℕ → ℕ) (xs ys : List LiveClause) (c : LiveClause) → IsIn (mapped global c) (map (mapped global) (xs ++ c ∷ ys))
in_mapped_middle global [] ys c = inl refl
in_mapped_middle global (x ∷ xs) ys c = inr (in_mapped_middle global xs ys c)

module _ (s : Session) (global : ℕ → ℕ) (st : PropagationState) (old new : List LiveClause) (r : Bool) (ls ms : List ℕ) (order : IsReordering ls ms) (i : InsertsClause new old (record { redundant = r; literals = ms })) (h : MatchesClauseList old st s global) where
  abbrev d : LiveClause
  d = record { redundant = r; literals = ms }

  abbrev its : List ℕ
  its = canonical (map (with_var global) ls)

  same_set : canonical (map (with_var global) ls) ≡ canonical (map (with_var global) ms)
  same_set = set_shuffled (with_var global) ls ms order

  from : AreLiveClausesOf s global (i.before ++ d ∷ i.following)
  from = subst (λ cs. AreLiveClausesOf s global cs) i.is h.clauses

  pub is_counted : 0 < s.live r its
  is_counted =
      subst (λ n. 0 < n) (sym (ap (s.live r) same_set ∙ from.counts r (canonical (map (with_var global) ms)))) (in_counts (map (mapped global) (i.before ++ d ∷ i.following)) (mapped global d) (in_mapped_middle global i.before i.following d))

  -- the match holds without the clause, if the step deletes it and changes no facts
  listed_without : (t : Session) → SameFacts s t → t.solver_names ≡ s.solver_names → ((q : Bool) (set : List ℕ) → t.live q set ≡ (without_live r its s).live q set) → MatchesClauseList new st t global
  listed_without t f n e =
      listed_as old st s global h t new f
      (subst (λ cs. AreLiveClausesOf t global cs) (sym i.was)
      (still_of (without_live r (canonical (map (with_var global) ms)) s) t global (i.before ++ i.following) (λ q set. e q set ∙ ap (λ k. (without_live r k s).live q set) same_set) n (goes s global i.before i.following d from)))

  pub listed_redundant : r ≡ true → IsAllowedStep s (DeleteClause (map (with_var global) ls) Redundant) × MatchesClauseList new st (after (DeleteClause (map (with_var global) ls) Redundant) s) global
  listed_redundant e = (
    subst (λ b. 0 < s.live b its) e is_counted,
    listed_without (after (DeleteClause (map (with_var global) ls) Redundant) s) (record { names = λ v. refl; units = λ l. refl; unsat = refl; width = refl }) refl
        (λ q set. ap (λ b. (without_live b its s).live q set) (sym e)),
  )

  pub listed_satisfied : r ≡ false → list_any s.units (map (with_var global) ls) ≡ true → IsAllowedStep s (DeleteClause (map (with_var global) ls) Satisfied) × MatchesClauseList new st (after (DeleteClause (map (with_var global) ls) Satisfied) s) global
  listed_satisfied e u = (
    (subst (λ b. 0 < s.live b its) e is_counted, u),
    listed_without (after (DeleteClause (map (with_var global) ls) Satisfied) s) (record { names = λ v. refl; units = λ l. refl; unsat = refl; width = refl }) refl
        (λ q set. ap (λ b. (without_live b its s).live q set) (sym e)),
  )

  pub listed_simplified : r ≡ false → CanDeleteSimplified s (map (with_var global) ls) → IsAllowedStep s (DeleteClause (map (with_var global) ls) Simplified) × MatchesClauseList new st (after (DeleteClause (map (with_var global) ls) Simplified) s) global
  listed_simplified e p = (
    (subst (λ b. 0 < s.live b its) e is_counted, p),
    listed_without (after (DeleteClause (map (with_var global) ls) Simplified) s) (record { names = λ v. refl; units = λ l. refl; unsat = refl; width = refl }) refl
        (λ q set. ap (λ b. (without_live b its s).live q set) (sym e)),
  )

  -- a literal of the clause is a unit of the session
  pub some_unit : (l : ℕ) → is_among ls l ≡ true → s.units (with_var global l) ≡ true → list_any s.units (map (with_var global) ls) ≡ true
  some_unit l t u = any_true s.units (map (with_var global) ls) (with_var global l) (among_mapped (with_var global) ls l t) u
