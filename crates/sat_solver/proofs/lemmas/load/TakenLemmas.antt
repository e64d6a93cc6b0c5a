-- The clause that a call over names received is the one that the search loads.
use Rattle.std.proofs.Common.{ℕ, zero, suc, ◌≡◌, ◌<◌, ◌∙◌, true, false, List, [], ◌∷◌, length, get_or, refl, sym, ap, subst, arith, Bool, eqb, inl, inr, Some}
use Rattle.std.proofs.lemmas.Bool.{true≢false, or_cases, or_left, or_right, eq-eqb, eqb-true}
use Rattle.sat_base.specs.values.Literals.{variable, is_positive}
use Rattle.sat_base.specs.steps.Steps.{Step, AddClause}
use Rattle.sat_checker.specs.LiteralSets.{is_among, is_tautology, canonical}
use Rattle.sat_checker.specs.SortedSets.{NoRepeats}
use Rattle.sat_checker.proofs.lemmas.sets.Canonical.{canonical_increasing, canonical_tautology, canonical_among}
use Rattle.sat_checker.proofs.lemmas.sets.Marks.{once}
use Rattle.sat_parts.specs.clause.Orders.{AreDistinct}
use Rattle.sat_solver.specs.session.Session.{Session, session_after, after}
use Rattle.sat_solver.proofs.lemmas.session.Changes.{with_live_clause, knowing_literals, session_if}
use Rattle.sat_solver.proofs.lemmas.fits.FitLemmas.{among_at, all_at}
use Rattle.sat_solver.specs.load.Literals.{MapsClause, AreImages, IsImage}
use Rattle.sat_solver.specs.declared.variables.Variables.{Variables}
use Rattle.sat_solver.specs.declared.load.literals.MappedLits.{MappedLits}
use Rattle.sat_solver.specs.declared.context.Search.{Search}
use Rattle.sat_solver.specs.cdcl.Joint.{SearchInvariant}
use Rattle.sat_solver.specs.load.Loaded.{CanLoad, IsAdded}
use Rattle.std.specs.List.{AllByRecursion}
use Rattle.sat_solver.specs.variables.Variables.{VariablesInvariant, solver_of, global_at}
use Rattle.sat_base.proofs.lemmas.script.LiteralValues.{coded_half}
use Rattle.sat_solver.proofs.lemmas.cdcl.AskedLemmas.{names_added}
use Rattle.sat_solver.specs.variables.Shared.{SharesIndices}
use Rattle.sat_solver.proofs.lemmas.load.SharedLemmas.{AreOver, over_below, over_named, over_same}

distinct_once : (ls : List ℕ) → NoRepeats ls → (j k : ℕ) → j < length ls → k < length ls → get_or ls j 0 ≡ get_or ls k 0 → j ≡ k
distinct_once [] h j k a b e = absurd (omega (arith, a))
distinct_once (l ∷ ls) h zero zero a b e = refl
distinct_once (l ∷ ls) h zero (suc k) a b e = absurd (true≢false (sym (subst (λ z. is_among ls z ≡ true) (sym e) (among_at ls k (omega (arith, b)))) ∙ h.0))
distinct_once (l ∷ ls) h (suc j) zero a b e = absurd (true≢false (sym (subst (λ z. is_among ls z ≡ true) e (among_at ls j (omega (arith, a)))) ∙ h.0))
distinct_once (l ∷ ls) h (suc j) (suc k) a b e = ap (λ i. suc i) (distinct_once ls h.1 j k (omega (arith, a)) (omega (arith, b)) e)

pub canonical_differ : (ls : List ℕ) → AreDistinct (canonical ls)
canonical_differ ls = distinct_once (canonical ls) (once (canonical ls) (canonical_increasing ls))

-- LITERALS OF A CALL

member : (P : ℕ → Type 0) (ls : List ℕ) (l : ℕ) → AllByRecursion P ls → is_among ls l ≡ true → P l
member P [] l h t = absurd (true≢false (sym t))
member P (x ∷ xs) l h t = elim (or_cases (eqb x l) (is_among xs l) t) [ inl e ↦ subst P (eqb-true x l e) h.0 | inr k ↦ member P xs l h.1 k ]

all_members : (P : ℕ → Type 0) (ls ms : List ℕ) → AllByRecursion P ls → ((m : ℕ) → is_among ms m ≡ true → is_among ls m ≡ true) → AllByRecursion P ms
all_members P ls [] h f = tt
all_members P ls (m ∷ ms) h f =
    (member P ls m h (f m (or_left (eqb m m) (is_among ms m) (eq-eqb m m refl))), all_members P ls ms h (λ k t. f k (or_right (eqb m k) (is_among ms k) t)))

-- every literal is over an index
pub images_over : (n : Variables) (user ls : List ℕ) → VariablesInvariant n → AreImages n user ls → AreOver n ls
images_over n user ls tidy i = all_at (λ l. (v : ℕ) × (global_at n (variable l) ≡ Some v)) ls (λ k lt.
    let x : IsImage n (get_or user k 0) (get_or ls k 0) = i.each k (omega (arith, i.count)) in
    let half : variable (get_or ls k 0) ≡ x.index_is = ap variable x.is ∙ coded_half x.index_is (is_positive (get_or user k 0)) in
    (x.variable_is, ap (global_at n) half ∙ tidy.solvers.back x.variable_is x.index_is x.indexed))

pub set_over : (n : Variables) (ls : List ℕ) → AreOver n ls → AreOver n (canonical ls)
set_over n ls h = all_members (λ l. (v : ℕ) × (global_at n (variable l) ≡ Some v)) ls (canonical ls) h (λ m t. sym (canonical_among ls m) ∙ t)

-- adding a clause leaves solver names unchanged
pub added_names : (ks : List ℕ) (s : Session) (v : ℕ) → (after (AddClause ks) s).solver_names v ≡ s.solver_names v
added_names ks s v = ap (λ f. f v) (go s.unsat)
  where
    go : (b : Bool) → (session_if b s (with_live_clause false ks (knowing_literals ks s))).solver_names ≡ s.solver_names
    go true = refl
    go false = names_added ks s

-- THE CLAUSE OF A CALL

module _ (new : Variables) (t : MappedLits) (user : List ℕ) (between to : List Step) (c : Search) (tidy : VariablesInvariant new) (images : AreImages new user t.order.items) (maps : MapsClause new t) (shares : SharesIndices new c) where
  over : AreOver new t.lits.items
  over = subst (λ ls. AreOver new ls) (sym maps.lits) (set_over new t.order.items (images_over new user t.order.items tidy images))

  -- the clause may be loaded
  pub taken_may : c.parts.trail.starts ≡ [] → is_tautology t.order.items ≡ false → CanLoad c t.lits.items
  taken_may bottom plain = record {
    bottom = bottom;
    differ = subst (λ ls. AreDistinct ls) (sym maps.lits) (canonical_differ t.order.items);
    plain = ap (λ ls. is_tautology ls) maps.lits ∙ canonical_tautology t.order.items ∙ plain;
    below = λ k lt. (let z : variable (get_or t.lits.items k 0) < length c.parts.assignment.current = over_below new c t.lits.items shares over k lt in omega (arith, z));
  }

  -- the last step added the clause
  pub taken_added : to ≡ AddClause t.globals.items ∷ between → ((v : ℕ) → (session_after to).solver_names v ≡ solver_of new v) → SearchInvariant (session_after between) c → IsAdded to c t.lits.items
  taken_added written names search = record {
    earlier = between;
    added = written ∙ ap (λ ks. AddClause ks ∷ between) (maps.globals ∙ over_same new c t.lits.items tidy shares over);
    search = search;
    named = over_named new c (session_after between) t.lits.items tidy (λ v. sym (added_names t.globals.items (session_after between) v) ∙ ap (λ ss. (session_after ss).solver_names v) (sym written) ∙ names v) shares over;
  }
