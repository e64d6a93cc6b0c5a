-- A learned clause may be written: it follows from the clauses that the analysis used.
use Rattle.std.proofs.Common.{ℕ, zero, suc, ◌-◌, ◌*◌, ◌/◌, ◌^◌, ◌<◌, ◌≡◌, ◌≢◌, Bool, true, false, ◌||◌, ◌&&◌, cond, eqb, List, [], ◌∷◌, ◌++◌, map, length, get_or, refl, sym, ◌∙◌, ap, subst, arith, ◌⊎◌, inl, inr}
use Rattle.std.proofs.lemmas.Bool.{or_cases, or_left, or_right, eqb-true, eq-eqb, cases_eq, true≢false, and_parts, and_from}
use Rattle.std.specs.List.{AllByRecursion}
use Rattle.sat_base.specs.values.Literals.{variable, negated}
use Rattle.sat_base.specs.values.Hashes.{hash_of}
use Rattle.sat_checker.specs.LiteralSets.{is_among}
use Rattle.sat_checker.specs.Propagation.{UnitInTurn}
use Rattle.sat_checker.proofs.lemmas.sets.Order.{among-append}
use Rattle.sat_parts.specs.declared.prop.graph.Reason.{Reason}
use Rattle.sat_parts.specs.clause.Stored.{AreLongClauses}
use Rattle.sat_parts.specs.prop.ReasonLits.{conflict_lits}
use Rattle.sat_parts.specs.prop.Graphs.{has_no_clause}
use Rattle.sat_parts.specs.prop.Values.{IsTrueLit}
use Rattle.sat_parts.specs.prop.State.{PropagationState, node, level, lit_at, StateIsConsistent}
use Rattle.sat_parts.specs.prop.Reasons.{ReasonsAreUnit}
use Rattle.sat_parts.proofs.lemmas.prop.RoomLemmas.{below_from_value}
use Rattle.sat_checker.specs.ConflictPropagation.{PropagatesToConflict}
use Rattle.sat_solver.specs.session.Session.{Session, AreLiveByHash, rup_assumptions, by_clauses}
use Rattle.sat_solver.specs.session.LiveClauses.{with_var}
use Rattle.sat_solver.proofs.lemmas.session.Mapped.{leads_mapped, denied_mapped}
use Rattle.sat_solver.specs.session.TrailUnits.{IsUsable}
use Rattle.sat_solver.specs.session.AnswerFacts.{is_true}
use Rattle.sat_solver.proofs.lemmas.trail.AnswerLemmas.{true_lit, lit_true}
use Rattle.sat_solver.specs.analyze_conflict.Marks.{IsReasoned}
use Rattle.sat_solver.specs.analyze_conflict.Derivation.{clause_of, AreLevelZeroLits}
use Rattle.sat_parts.specs.parts.Round.{UnitsHaveNoReason}
use Rattle.sat_solver.specs.session.Matching.{SessionMatches}
use Rattle.sat_solver.specs.session.MatchingLaws.{named_clauses, LearnedIsAllowed}
use Rattle.sat_solver.proofs.lemmas.fits.UsableLemmas.{reason_usable, conflict_usable, reason_clauses}

-- THE LITERALS OF LEVEL 0 AS A LIST

abbrev upto : (ℕ → Bool) → ℕ → List ℕ
upto p zero = []
upto p (suc n) = cond (p n) (n ∷ upto p n) (upto p n)

upto_all : (p : ℕ → Bool) (n l : ℕ) → l < n → p l ≡ true → is_among (upto p n) l ≡ true
upto_all p zero l lt t = absurd (omega arith)
upto_all p (suc n) l lt t = go (p n) refl (cases_eq n l) (λ d. upto_all p n l (omega arith) t)
  where
    go : (b : Bool) → p n ≡ b → (n ≡ l) ⊎ (n ≢ l) → (n ≢ l → is_among (upto p n) l ≡ true) → is_among (cond b (n ∷ upto p n) (upto p n)) l ≡ true
    go true e (inl q) ih = or_left (eqb n l) (is_among (upto p n) l) (eq-eqb n l q)
    go true e (inr d) ih = or_right (eqb n l) (is_among (upto p n) l) (ih d)
    go false e (inl q) ih = absurd (true≢false (sym (ap p q ∙ t) ∙ e))
    go false e (inr d) ih = ih d

upto_only : (p : ℕ → Bool) (n l : ℕ) → is_among (upto p n) l ≡ true → p l ≡ true
upto_only p zero l t = absurd (true≢false (sym t))
upto_only p (suc n) l t = go (p n) refl t (upto_only p n l)
  where
    go : (b : Bool) → p n ≡ b → is_among (cond b (n ∷ upto p n) (upto p n)) l ≡ true → (is_among (upto p n) l ≡ true → p l ≡ true) → p l ≡ true
    go true e k ih = elim (or_cases (eqb n l) (is_among (upto p n) l) k) [ inl q ↦ ap p (sym (eqb-true n l q)) ∙ e | inr r ↦ ih r ]
    go false e k ih = ih k

abbrev is_bottom : PropagationState → ℕ → Bool
is_bottom st l = is_true st.values l && eqb (level st l) 0

abbrev pub bottom : PropagationState → List ℕ
bottom st = upto (is_bottom st) (2 * length st.values)

pub bottom_units : (st : PropagationState) → AreLevelZeroLits st (bottom st)
bottom_units st = record {
  all = λ l t z.
      let lt : variable l < length st.values = below_from_value st.values (variable l) _ t in
      upto_all (is_bottom st) (2 * length st.values) l (omega arith) (and_from (is_true st.values l) (eqb (level st l) 0) (true_lit st.values l t) (eq-eqb (level st l) 0 z));
  only = λ l t.
      let p = and_parts (is_true st.values l) (eqb (level st l) 0) (upto_only (is_bottom st) (2 * length st.values) l t) in
      (lit_true st.values l p.0, eqb-true (level st l) 0 p.1);
}

-- UNIT IN TURN, IN TERMS OF SESSIONS

all_known : (known : ℕ → Bool) (us c : List ℕ) → ((l : ℕ) → is_among us l ≡ true → known l ≡ true) → AllByRecursion (λ l. is_among us (negated l) ≡ true) c → AllByRecursion (λ l. known (negated l) ≡ true) c
all_known known us [] m h = tt
all_known known us (l ∷ ls) m h = (m (negated l) h.0, all_known known us ls m h.1)

others_known : (known : ℕ → Bool) (us c : List ℕ) (o : ℕ) → ((l : ℕ) → is_among us l ≡ true → known l ≡ true) → AllByRecursion (λ l. (l ≡ o) ⊎ (is_among us (negated l) ≡ true)) c → AllByRecursion (λ l. (l ≡ o) ⊎ (known (negated l) ≡ true)) c
others_known known us [] o m h = tt
others_known known us (l ∷ ls) o m h = (elim h.0 [ inl e ↦ inl e | inr k ↦ inr (m (negated l) k) ], others_known known us ls o m h.1)

pub leads_from_turns : (cs : List (List ℕ)) (known : ℕ → Bool) (us : List ℕ) → ((l : ℕ) → is_among us l ≡ true → known l ≡ true) → UnitInTurn us cs → PropagatesToConflict known cs
leads_from_turns [] known us m h = h
leads_from_turns (c ∷ []) known us m h = all_known known us c m h
leads_from_turns (c ∷ d ∷ cs) known us m h = (
  h.0,
  others_known known us c h.0 m h.1.others,
  h.1.within,
  leads_from_turns (d ∷ cs) (λ l. eqb h.0 l || known l) (h.0 ∷ us)
      (λ l k. elim (or_cases (eqb h.0 l) (is_among us l) k) [ inl e ↦ or_left (eqb h.0 l) (known l) e | inr r ↦ or_right (eqb h.0 l) (known l) (m l r) ]) h.2,
)

-- HASHES

abbrev pub AllUsable : Session → (ℕ → ℕ) → List (List ℕ) → Type 0
AllUsable s global [] = Unit {0}
AllUsable s global (c ∷ cs) = IsUsable s global c × AllUsable s global cs

pub whole : (s : Session) (h : ℕ) → s.width ≡ 64 → h ≡ h / 2 ^ (64 - s.width)
whole s h e = (let one : h ≡ h / 1 = omega arith in one) ∙ ap (λ w. h / 2 ^ (64 - w)) (sym e)

pub named_by : (s : Session) (global : ℕ → ℕ) (cs : List (List ℕ)) → s.width ≡ 64 → AllUsable s global cs → AreLiveByHash s (map (map (with_var global)) cs) (map hash_of cs)
named_by s global [] w h = tt
named_by s global (c ∷ cs) w h = (h.0.live, whole s (hash_of c) w ∙ h.0.hash, named_by s global cs w h.1)

module _ (words live : List ℕ) (implied : List (List ℕ)) (st : PropagationState) (s : Session) (global : ℕ → ℕ) (fits : SessionMatches words live implied st s global) (clauses : AreLongClauses words live (length st.values)) (turns : ReasonsAreUnit words live implied st 0) where
  pub place_usable : (i : ℕ) → i < length st.trail.lits → has_no_clause (node st (lit_at st i)).reason ≡ false → IsUsable s global (clause_of words st (lit_at st i))
  place_usable i lt u =
      subst (λ c. IsUsable s global c) (sym (reason_clauses words live implied st i (length st.values) (node st (lit_at st i)).reason clauses u (turns i (omega arith) lt)))
      (reason_usable words live implied s global fits.clauses fits.paired st i (node st (lit_at st i)).reason u (turns i (omega arith) lt))

  all_used : (used : List ℕ) (c : List ℕ) → ((k : ℕ) → k < length used → IsReasoned st 0 (get_or used k 0)) → IsUsable s global c → AllUsable s global (map (clause_of words st) used ++ c ∷ [])
  all_used [] c r u = (u, tt)
  all_used (l ∷ ls) c r u =
      let x : IsReasoned st 0 l = r 0 (omega arith) in (
        subst (λ m. IsUsable s global (clause_of words st m)) x.there (place_usable x.place x.within (ap (λ m. has_no_clause (node st m).reason) x.there ∙ x.caused)),
        all_used ls c (λ k lt. r (suc k) (omega arith)) u,
      )

  -- if no clause is a reason at level 0, every true literal of level 0 is a unit of the session
  pub bottom_known : StateIsConsistent st → UnitsHaveNoReason st → (l : ℕ) → IsTrueLit st.values l → level st l ≡ 0 → s.units (with_var global l) ≡ true
  bottom_known agrees bare l t z = elim (agrees.known l t) [
    | inl b ↦
        let low : level st (lit_at st b.place) ≡ 0 = ap (λ m. level st m) b.there ∙ z in
        fits.known l (inr (record { place = b.place; within = b.within; there = b.there; bottom = z; none = ap (λ m. has_no_clause (node st m).reason) (sym b.there) ∙ ap (λ (r : Reason). has_no_clause r) (bare b.place b.within low) }))
    | inr r ↦ fits.known l (inl r)
  ]

hashes_same : (f : ℕ → List ℕ) (used : List ℕ) (c : List ℕ) → map hash_of (map f used ++ c ∷ []) ≡ map (λ l. hash_of (f l)) used ++ hash_of c ∷ []
hashes_same f [] c = refl
hashes_same f (l ∷ ls) c = ap (λ hs. hash_of (f l) ∷ hs) (hashes_same f ls c)

pub learned_may : LearnedIsAllowed
learned_may words live implied st s global e w back fits agrees clauses bare turns conflict learns =
    let us : List ℕ = bottom st in
    let known : ℕ → Bool = λ l. is_among (map negated w.clause) l || is_among (bottom st) l in
    let units : AreLevelZeroLits st (bottom st) = bottom_units st in
    let all : AllUsable s global (named_clauses words st w.used e) =
    all_used words live implied st s global fits clauses turns w.used (conflict_lits words e) learns.reasons (conflict_usable words live implied s global fits.clauses fits.paired st.values e conflict) in
    let leads : PropagatesToConflict known (named_clauses words st w.used e) =
    leads_from_turns (named_clauses words st w.used e) known (map negated w.clause ++ bottom st) (λ l k. sym (among-append (map negated w.clause) (bottom st) l) ∙ k) (learns.acceptable (bottom st) units) in
    by_clauses (map (map (with_var global)) (named_clauses words st w.used e)) (subst (AreLiveByHash s (map (map (with_var global)) (named_clauses words st w.used e))) (hashes_same (clause_of words st) w.used (conflict_lits words e)) (named_by s global (named_clauses words st w.used e) fits.width all))
    (leads_mapped global (named_clauses words st w.used e) known (rup_assumptions s (map (with_var global) w.clause))
    (denied_mapped global s w.clause (is_among (bottom st)) (λ l k. let o = units.only l k in bottom_known words live implied st s global fits clauses turns agrees bare l o.0 o.1)) leads)
