-- Steps of a search leave assumptions, solver names and modes unchanged.
use Rattle.std.proofs.Common.{ℕ, ◌≡◌, ◌∙◌, Bool, true, false, Option, List, [], ◌∷◌, ◌++◌, map, refl, ap, cond, eqb, ◌||◌}
use Rattle.std.specs.List.{AllByRecursion}
use Rattle.sat_base.specs.values.Literals.{variable, negated}
use Rattle.sat_base.specs.steps.Steps.{Step, AtClause, UnitClauses, DeleteClause, Redundant, Simplified, Satisfied}
use Rattle.sat_checker.specs.LiteralSets.{is_among, is_tautology, canonical}
use Rattle.sat_checker.specs.Stored.{Variable}
use Rattle.sat_solver.specs.session.Session.{Session, with_unit_added, after, session_after}
use Rattle.sat_solver.proofs.lemmas.session.Changes.{with_facts, with_sorted, with_live_clause, knowing_literals, session_if}
use Rattle.sat_solver.specs.cdcl.StepEffects.{is_search_step, AreSearchSteps, IsSearchStep}
use Rattle.sat_solver.specs.cdcl.Joint.{SameAssumedAndNames}

-- KINDS OF STEPS

kind_of : (names : ℕ → Option ℕ) (step : Step) → IsSearchStep names step → is_search_step step ≡ true
kind_of names (AtClause r c hs) h = refl
kind_of names (UnitClauses us) h = refl
kind_of names (DeleteClause c proof) h = refl
kind_of names step h = absurd h

pub kinds_of : (names : ℕ → Option ℕ) (steps : List Step) → AreSearchSteps names steps → AllByRecursion (λ step. is_search_step step ≡ true) steps
kinds_of names [] h = tt
kinds_of names (step ∷ steps) h = (kind_of names step h.0, kinds_of names steps h.1)

-- WHAT STEPS OF A SEARCH LEAVE UNCHANGED

-- two sessions have the same assumptions, solver names and modes
record Kept (s t : Session) : Type 0 where
  asked : t.assumed ≡ s.assumed
  names : t.solver_names ≡ s.solver_names
  modes : (v : ℕ) → (t.variables v).mode ≡ (s.variables v).mode

kept_refl : (s : Session) → Kept s s
kept_refl s = record { asked = refl; names = refl; modes = λ v. refl }

kept_trans : (s t u : Session) → Kept s t → Kept t u → Kept s u
kept_trans s t u x y = record { asked = y.asked ∙ x.asked; names = y.names ∙ x.names; modes = λ v. y.modes v ∙ x.modes v }

both : (b : Bool) (s x y : Session) → Kept s x → Kept s y → Kept s (session_if b x y)
both true s x y e f = e
both false s x y e f = record { asked = f.asked; names = f.names; modes = f.modes }

fact : (l : ℕ) (s : Session) → Kept s (with_unit_added l s)
fact l s =
    let opposed : Session = record s { unsat = true } in
    let wider : Session = record s { units = λ m. eqb l m || s.units m } in
    both (s.units l) s s (session_if (s.units (negated l)) opposed wider) (kept_refl s)
    (both (s.units (negated l)) s opposed wider (record { asked = refl; names = refl; modes = λ v. refl }) (record { asked = refl; names = refl; modes = λ v. refl }))

facts : (ls : List ℕ) (s : Session) → Kept s (with_facts ls s)
facts [] s = kept_refl s
facts (l ∷ ls) s = kept_trans s (with_unit_added l s) (with_facts ls (with_unit_added l s)) (fact l s) (facts ls (with_unit_added l s))

sorted : (r : Bool) (ls : List ℕ) (s : Session) → Kept s (with_sorted r ls s)
sorted r [] s = record { asked = refl; names = refl; modes = λ v. refl }
sorted r (l ∷ []) s = fact l s
sorted r (l ∷ m ∷ ls) s = record { asked = refl; names = refl; modes = λ v. refl }

clause : (r : Bool) (ls : List ℕ) (s : Session) → Kept s (with_live_clause r ls s)
clause r ls s = both (is_tautology ls) s s _ (kept_refl s) (sorted r (canonical ls) s)

mode_of : (b : Bool) (x : Variable) → (cond b (record x { known = true }) x).mode ≡ x.mode
mode_of true x = refl
mode_of false x = refl

knowing_mode : (ls : List ℕ) (s : Session) (v : ℕ) → ((knowing_literals ls s).variables v).mode ≡ (s.variables v).mode
knowing_mode ls s v = mode_of (is_among (map variable ls) v) (s.variables v)

one : (step : Step) (s : Session) → is_search_step step ≡ true → Kept s (after step s)
one (AtClause r c hs) s h = (let k = clause r c (knowing_literals c s) in record { asked = k.asked; names = k.names; modes = λ v. k.modes v ∙ knowing_mode c s v })
one (UnitClauses us) s h = (let k = facts (map (λ u. u.0) us) (knowing_literals (map (λ u. u.0) us) s) in record { asked = k.asked; names = k.names; modes = λ v. k.modes v ∙ knowing_mode (map (λ u. u.0) us) s v })
one (DeleteClause c Redundant) s h = record { asked = refl; names = refl; modes = λ v. refl }
one (DeleteClause c Simplified) s h = record { asked = refl; names = refl; modes = λ v. refl }
one (DeleteClause c Satisfied) s h = record { asked = refl; names = refl; modes = λ v. refl }
one step s h = absurd cc

all : (steps earlier : List Step) → AllByRecursion (λ step. is_search_step step ≡ true) steps → Kept (session_after earlier) (session_after (steps ++ earlier))
all [] earlier h = kept_refl (session_after earlier)
all (step ∷ steps) earlier h = kept_trans (session_after earlier) (session_after (steps ++ earlier)) (session_after (step ∷ steps ++ earlier)) (all steps earlier h.1) (one step (session_after (steps ++ earlier)) h.0)

pub asked_after : (steps earlier : List Step) → AllByRecursion (λ step. is_search_step step ≡ true) steps → (session_after (steps ++ earlier)).assumed ≡ (session_after earlier).assumed
asked_after steps earlier h = (all steps earlier h).asked

-- steps of a search leave the solver names unchanged
pub names_after : (steps earlier : List Step) (names : ℕ → Option ℕ) → AreSearchSteps names steps → (session_after (steps ++ earlier)).solver_names ≡ (session_after earlier).solver_names
names_after steps earlier names h = (all steps earlier (kinds_of names steps h)).names

-- the same, for a later history that adds only these steps
pub names_following : (steps later earlier : List Step) (names : ℕ → Option ℕ) → later ≡ steps ++ earlier → AreSearchSteps names steps → (session_after later).solver_names ≡ (session_after earlier).solver_names
names_following steps later earlier names written h = ap (λ ss. (session_after ss).solver_names) written ∙ names_after steps earlier names h

-- steps of a search leave assumptions and solver names unchanged
pub leaves_after : (steps earlier : List Step) → AllByRecursion (λ step. is_search_step step ≡ true) steps → SameAssumedAndNames (session_after earlier) (session_after (steps ++ earlier))
leaves_after steps earlier h = let k = all steps earlier h in record { assumed = k.asked; names = λ v. ap (λ f. f v) k.names }

pub names_added : (ks : List ℕ) (s : Session) → (with_live_clause false ks (knowing_literals ks s)).solver_names ≡ s.solver_names
names_added ks s = (clause false ks (knowing_literals ks s)).names
