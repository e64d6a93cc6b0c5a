-- What a derivation derives holds.
use Rattle.std.proofs.Common.{ℕ, ◌≡◌, Bool, true, false, cond, eqb, not, ◌||◌, List, [], ◌∷◌, map, Option, None, Some, refl, sym, ◌∙◌, ap, subst, inl, inr}
use Rattle.std.proofs.lemmas.Bool.{cases_Bool, both_ways, or_parts, true≢false}
use Rattle.sat_base.specs.values.Literals.{negated}
use Rattle.sat_base.specs.values.Clauses.{Valuation, literal_true, clause_true, flipped, AllLitsTrue, AllClausesTrue}
use Rattle.sat_checker.specs.LiteralSets.{mentions, canonical}
use Rattle.sat_checker.proofs.lemmas.meaning.Deleting.{other_clause}
use Rattle.sat_checker.proofs.lemmas.propagation.Soundness.{negated_value, true_among, conflict_never, not_false}
use Rattle.sat_checker.proofs.lemmas.sets.Canonical.{both_signs}
use Rattle.sat_checker.proofs.lemmas.sets.Subsets.{subset_canonical, superset_true}
use Rattle.sat_hints.specs.Lines.{Line, Input, Derived, Removed, Core, Fresh}
use Rattle.sat_hints.specs.Hints.{and_clauses, is_unit_of_variable, unless_unit_of_variable, clause_under, clauses_under, Conflicts, IsInLongClause, IsHintDerivation}
use Rattle.sat_hints.specs.Laws.{LinesAllow, DerivedClausesHold, CoreLinesFail, PresentClausesHold, EmptyMeansNoModel, LinesAllowModels, LinesAllowOnlyModels}

-- if a clause is false, the negations of its literals are true
negations_true : (a : Valuation) (clause : List ℕ) → clause_true a clause ≡ false → AllLitsTrue a (map negated clause)
negations_true a [] e = tt
negations_true a (l ∷ ls) e =
    let parts = or_parts (literal_true a l) (clause_true a ls) e in
    (negated_value a l ∙ not_false (literal_true a l) parts.0, negations_true a ls parts.1)

-- if a clause is true, so is its sorted set
set_true : (a : Valuation) (ls c : List ℕ) → clause_true a ls ≡ true → Some (canonical ls) ≡ Some c → clause_true a c ≡ true
set_true a ls c h e = let f : canonical ls ≡ c = cc in subst (λ x. clause_true a x ≡ true) f (superset_true a ls (canonical ls) (subset_canonical ls) h)

-- assumed literals that conflict with clauses are not all true if the clauses hold
conflicts_never : (a : Valuation) (assumed : List ℕ) (cs : List (List ℕ)) → AllClausesTrue a cs → Conflicts assumed cs → AllLitsTrue a assumed → ⊥
conflicts_never a assumed cs h (inl t) true_all =
    let s = both_signs assumed t in
    let p = true_among a assumed s.literal true_all s.within in
    let q = true_among a assumed (negated s.literal) true_all s.negation in
    both_ways (literal_true a (negated s.literal)) (negated_value a s.literal ∙ ap not p) q
conflicts_never a assumed cs h (inr u) true_all = conflict_never a assumed cs true_all h u

-- so a clause holds if its negation conflicts with clauses that hold
holds_too : (a : Valuation) (clause : List ℕ) (cs : List (List ℕ)) → AllClausesTrue a cs → Conflicts (map negated clause) cs → clause_true a clause ≡ true
holds_too a clause cs h k = elim (cases_Bool (clause_true a clause)) [
  | inl t ↦ t
  | inr n ↦ absurd (conflicts_never a (map negated clause) cs h k (negations_true a clause n))
]

-- `Present lines a` holds if every clause that is present after the lines holds in `a`.
abbrev Present : List Line → Valuation → Type 0
Present lines a = (id : ℕ) (c : List ℕ) → clause_under id lines ≡ Some c → clause_true a c ≡ true

named_hold : (lines : List Line) (a : Valuation) → Present lines a → (ids : List ℕ) (cs : List (List ℕ)) → clauses_under ids lines ≡ Some cs → AllClausesTrue a cs
named_hold lines a p [] cs e = let f : [] ≡ cs = cc in subst (AllClausesTrue a) f tt
named_hold lines a p (id ∷ ids) cs e = go (λ ds. named_hold lines a p ids ds) (clause_under id lines) refl (clauses_under ids lines) refl e
  where
    go : ((ds : List (List ℕ)) → clauses_under ids lines ≡ Some ds → AllClausesTrue a ds) → (c : Option (List ℕ)) → clause_under id lines ≡ c → (ds : Option (List (List ℕ))) → clauses_under ids lines ≡ ds → and_clauses c ds ≡ Some cs → AllClausesTrue a cs
    go ih None h ds k e = absurd cc
    go ih (Some c) h None k e = absurd cc
    go ih (Some c) h (Some ds) k e = let f : c ∷ ds ≡ cs = cc in subst (AllClausesTrue a) f (p id c h, ih ds k)

-- A NEW VARIABLE
-- a clause that is present after the line was present before, and is not a unit over the variable
pub still : (v : ℕ) (o : Option (List ℕ)) (c : List ℕ) → unless_unit_of_variable v o ≡ Some c → (o ≡ Some c) × (is_unit_of_variable v c ≡ false)
still v None c e = absurd cc
still v (Some d) c e = go (is_unit_of_variable v d) refl e
  where
    go : (b : Bool) → is_unit_of_variable v d ≡ b → cond b None (Some d) ≡ Some c → (Some d ≡ Some c) × (is_unit_of_variable v c ≡ false)
    go true u f = absurd cc
    go false u f = let g : d ≡ c = cc in (f, subst (λ x. is_unit_of_variable v x ≡ false) g u)

-- so it does not have the variable, if that is not in use
pub not_mentioned : (v : ℕ) (earlier : List Line) → (IsInLongClause v earlier → ⊥) → (id : ℕ) (c : List ℕ) → clause_under id earlier ≡ Some c → is_unit_of_variable v c ≡ false → mentions c v ≡ false
not_mentioned v earlier none id [] e u = refl
not_mentioned v earlier none id (l ∷ []) e u = ap (λ b. b || false) u
not_mentioned v earlier none id (l ∷ m ∷ ls) e u = go (mentions (l ∷ m ∷ ls) v) refl
  where
    go : (b : Bool) → mentions (l ∷ m ∷ ls) v ≡ b → b ≡ false
    go true t = absurd (none (record { id = id; clause = l ∷ m ∷ ls; present = e; long = refl; within = t }))
    go false t = refl

-- EVERY CLAUSE THAT IS PRESENT
pub present_hold : PresentClausesHold
present_hold [] a id c d h e = absurd cc
present_hold (Input i ls ∷ lines) a id c d h e = go (eqb id i) (present_hold lines a id c d.0 h.0) e
  where
    go : (b : Bool) → (clause_under id lines ≡ Some c → clause_true a c ≡ true) → cond b (Some (canonical ls)) (clause_under id lines) ≡ Some c → clause_true a c ≡ true
    go true ih f = set_true a ls c h.1 f
    go false ih f = ih f
present_hold (Derived i ls ids ∷ lines) a id c d h e =
    let p : Present lines a = λ j x g. present_hold lines a j x d.0 h g in
    go (eqb id i) (p id c) (holds_too a ls d.1.clauses (named_hold lines a p ids d.1.clauses d.1.present) d.1.conflict) e
  where
    go : (b : Bool) → (clause_under id lines ≡ Some c → clause_true a c ≡ true) → clause_true a ls ≡ true → cond b (Some (canonical ls)) (clause_under id lines) ≡ Some c → clause_true a c ≡ true
    go true ih t f = set_true a ls c t f
    go false ih t f = ih f
present_hold (Removed i ∷ lines) a id c d h e = go (eqb id i) (present_hold lines a id c d.0 h) e
  where
    go : (b : Bool) → (clause_under id lines ≡ Some c → clause_true a c ≡ true) → cond b None (clause_under id lines) ≡ Some c → clause_true a c ≡ true
    go true ih f = absurd cc
    go false ih f = ih f
present_hold (Core ls ids ∷ lines) a id c d h e = present_hold lines a id c d.0 h e
present_hold (Fresh v ∷ lines) a id c d h e =
    let s = still v (clause_under id lines) c e in
    let n = not_mentioned v lines d.1.unused id c s.0 s.1 in
    elim h [
      | inl x ↦ present_hold lines a id c d.0 x s.0
      | inr y ↦ sym (other_clause a v c n) ∙ present_hold lines (flipped v a) id c d.0 y s.0
    ]

present_all : (lines : List Line) (a : Valuation) → IsHintDerivation lines → LinesAllow lines a → Present lines a
present_all lines a d h = λ id c e. present_hold lines a id c d h e

-- WHAT A DERIVATION DERIVES
pub derived_follow : DerivedClausesHold
derived_follow [] d = tt
derived_follow (Input id clause ∷ lines) d = derived_follow lines d.0
derived_follow (Derived id clause ids ∷ lines) d = (
  derived_follow lines d.0,
  λ a h. holds_too a clause d.1.clauses (named_hold lines a (present_all lines a d.0 h) ids d.1.clauses d.1.present) d.1.conflict,
)
derived_follow (Removed id ∷ lines) d = derived_follow lines d.0
derived_follow (Core core ids ∷ lines) d = derived_follow lines d.0
derived_follow (Fresh v ∷ lines) d = derived_follow lines d.0

pub cores_fail : CoreLinesFail
cores_fail [] d = tt
cores_fail (Input id clause ∷ lines) d = cores_fail lines d.0
cores_fail (Derived id clause ids ∷ lines) d = cores_fail lines d.0
cores_fail (Removed id ∷ lines) d = cores_fail lines d.0
cores_fail (Core core ids ∷ lines) d = (
  cores_fail lines d.0,
  λ a h. conflicts_never a core d.1.clauses (named_hold lines a (present_all lines a d.0 h) ids d.1.clauses d.1.present) d.1.conflict,
)
cores_fail (Fresh v ∷ lines) d = cores_fail lines d.0

pub empty_means_none : EmptyMeansNoModel
empty_means_none [] a d e h = true≢false (sym e)
empty_means_none (Input id clause ∷ lines) a d e h = empty_means_none lines a d.0 e h.0
empty_means_none (Derived id [] ids ∷ lines) a d e h =
    true≢false (sym (holds_too a [] d.1.clauses (named_hold lines a (present_all lines a d.0 h) ids d.1.clauses d.1.present) d.1.conflict))
empty_means_none (Derived id (l ∷ ls) ids ∷ lines) a d e h = empty_means_none lines a d.0 e h
empty_means_none (Removed id ∷ lines) a d e h = empty_means_none lines a d.0 e h
empty_means_none (Core core ids ∷ lines) a d e h = empty_means_none lines a d.0 e h
empty_means_none (Fresh v ∷ lines) a d e h = elim h [ inl x ↦ empty_means_none lines a d.0 e x | inr y ↦ empty_means_none lines (flipped v a) d.0 e y ]

-- without new variables, exactly the models of the formula are left
pub formula_leaves : LinesAllowOnlyModels
formula_leaves [] a k = (λ h. tt, λ h. tt)
formula_leaves (Input id clause ∷ lines) a k = let p = formula_leaves lines a k.1 in (λ h. (h.1, p.0 h.0), λ h. (p.1 h.1, h.0))
formula_leaves (Derived id clause ids ∷ lines) a k = formula_leaves lines a k.1
formula_leaves (Removed id ∷ lines) a k = formula_leaves lines a k.1
formula_leaves (Core core ids ∷ lines) a k = formula_leaves lines a k.1
formula_leaves (Fresh v ∷ lines) a k = absurd k.0

-- the models of the formula are left, even with new variables
pub formula_is_left : LinesAllowModels
formula_is_left [] a h = tt
formula_is_left (Input id clause ∷ lines) a h = (formula_is_left lines a h.1, h.0)
formula_is_left (Derived id clause ids ∷ lines) a h = formula_is_left lines a h
formula_is_left (Removed id ∷ lines) a h = formula_is_left lines a h
formula_is_left (Core core ids ∷ lines) a h = formula_is_left lines a h
formula_is_left (Fresh v ∷ lines) a h = inl (formula_is_left lines a h)
