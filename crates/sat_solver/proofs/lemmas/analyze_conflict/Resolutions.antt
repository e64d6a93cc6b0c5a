-- Minimization and sorting preserve what resolution has seen. Antecedents are live.
use Rattle.std.proofs.Common.{ℕ, ◌≡◌, ◌<◌, inl, inr, List, [], ◌∷◌, length, get_or, sym, ap, ◌∙◌, subst, arith, get_or-take, Result, Ok, Err, IfOk, OnOk}
use Rattle.std.proofs.lemmas.Bool.{cases_lt}
use Rattle.std.proofs.lemmas.List.Elements.{Contains-append_cases}
use Rattle.std.proofs.lemmas.List.Sorted.{IsPermutation-sym, Contains-permutation}
use Rattle.std.specs.List.{Contains}
use Rattle.std.specs.List.Sorted.{IsPermutation}
use Rattle.sat_parts.specs.declared.prop.graph.Conflict.{Conflict}
use Rattle.sat_parts.specs.declared.prop.graph.Conflict.TheVariants as conflicts
use Rattle.sat_parts.specs.declared.prop.graph.Reason.{Reason}
use Rattle.sat_parts.specs.declared.prop.graph.Reason.TheVariants.{Unit as NoCause, Binary, Long}
use Rattle.sat_parts.specs.clause.Glue.{FlagsAreClear}
use Rattle.sat_parts.specs.clause.Orders.{AreDistinct}
use Rattle.sat_parts.specs.prop.ReasonLits.{conflict_lits}
use Rattle.sat_parts.specs.prop.Ready.{IsConflict}
use Rattle.sat_parts.specs.prop.Reasons.{ReasonImplies, ReasonsAreUnit}
use Rattle.sat_parts.specs.prop.State.{PropagationState, node, level, current_level, StateIsConsistent}
use Rattle.sat_parts.proofs.lemmas.clause.ListLemmas.{at_place, place_in, in_head, in_tail}
use Rattle.sat_solver.specs.analyze_conflict.AnalysisState.{AnalysisState, long_of, long_falsified}
use Rattle.sat_solver.specs.analyze_conflict.Marks.{IsReasoned}
use Rattle.sat_solver.specs.analyze_conflict.Derivation.{ResolutionResult, AnalysisResult}
use Rattle.sat_solver.specs.analyze_conflict.Seen.{longs_of, AreSeen, IsResolution, CollectionResult, AppendsLowerUsedLits}
use Rattle.sat_solver.proofs.lemmas.analyze_conflict.InTurn.{above_first}

pub is_resolution : (words : List ℕ) (s : PropagationState) (e : Conflict) (w0 w w' : AnalysisState) → ResolutionResult words s (conflict_lits words e) w0 → CollectionResult words s e w0 → AppendsLowerUsedLits s w0 w → IsPermutation w.used w'.used → w'.seen ≡ w.seen → w'.antecedents ≡ w.antecedents →
    IsResolution words s e w'
is_resolution words s e w0 w w' r c k order seen antecedents =
    let at : (i : ℕ) → i < length w0.used → get_or w.used i 0 ≡ get_or w0.used i 0 = λ i lt. sym (get_or-take (length w0.used) w.used i 0 lt) ∙ ap (λ (xs : List ℕ). get_or xs i 0) k.front.front in
    let forth : (l : ℕ) → Contains w0.used l → Contains w.used l = λ l x.
    subst (λ z. Contains w.used z) (at x.0 x.1 ∙ at_place w0.used l x) (place_in w.used x.0 (omega (arith, x.1, k.front.longer))) in
    let back : (l : ℕ) → Contains w.used l → level s l ≡ current_level s → Contains w0.used l = λ l x top. elim (cases_lt x.0 (length w0.used)) [
      | inl lt ↦ subst (λ z. Contains w0.used z) (sym (at x.0 lt) ∙ at_place w.used l x) (place_in w0.used x.0 lt)
      | inr ge ↦ absurd (omega (arith, k.rest x.0 ge x.1, ap (λ z. level s z) (at_place w.used l x)))
    ] in
    let m : w'.seen ≡ w0.seen = seen ∙ k.front.seen in
    record {
      resolved = w0.used;
      falling = r.falling;
      forth = λ l x. (Contains-permutation w.used w'.used l order (forth l x), subst (λ z. level s z ≡ current_level s) (at_place w0.used l x) (r.tops x.0 x.1));
      needed = c.needed;
      back = λ l x top. back l (Contains-permutation w'.used w.used l (IsPermutation-sym w.used w'.used order) x) top;
      distinct = subst (λ (xs : List ℕ). AreDistinct xs) (sym m) c.distinct;
      within = λ v x. c.within v (subst (λ (xs : List ℕ). Contains xs v) m x);
      seen = subst (λ (xs : List ℕ). AreSeen words s (conflict_lits words e) w0.used xs) (sym m) c.seen;
      antecedents = antecedents ∙ k.front.antecedents ∙ c.antecedents;
    }

-- the long clause of a reason on the trail is live
reason_live : (words live : List ℕ) (implied : List (List ℕ)) (s : PropagationState) (p o : ℕ) (r : Reason) → ReasonImplies words live implied s p r → Contains (long_of r) o → Contains live o
reason_live words live implied s p o NoCause h c = absurd (omega (arith, c.1))
reason_live words live implied s p o (Binary ls) h c = absurd (omega (arith, c.1))
reason_live words live implied s p o (Long q) h c =
    let e : 0 ≡ c.0 = omega (arith, c.1) in
    subst (λ z. Contains live z) (ap (λ k. get_or (q ∷ []) k 0) e ∙ at_place (q ∷ []) o c) h.0

longs_live : (words live : List ℕ) (implied : List (List ℕ)) (s : PropagationState) (o : ℕ) (ls : List ℕ) → ((l : ℕ) → Contains ls l → (p : ℕ) × ReasonImplies words live implied s p (node s l).reason) → Contains (longs_of s ls) o → Contains live o
longs_live words live implied s o [] h c = absurd (omega (arith, c.1))
longs_live words live implied s o (l ∷ ls) h c = elim (Contains-append_cases (long_of (node s l).reason) (longs_of s ls) o c) [
  | inl x ↦
      let i : (p : ℕ) × ReasonImplies words live implied s p (node s l).reason = h l (in_head l ls) in
      reason_live words live implied s i.0 o (node s l).reason i.1 x
  | inr y ↦ longs_live words live implied s o ls (λ m d. h m (in_tail l ls m d)) y
]

conflict_live : (words live : List ℕ) (implied : List (List ℕ)) (s : PropagationState) (o : ℕ) (e : Conflict) → IsConflict words live implied s.values e → Contains (long_falsified e) o → Contains live o
conflict_live words live implied s o (conflicts.Binary ls) h c = absurd (omega (arith, c.1))
conflict_live words live implied s o (conflicts.Long q) h c =
    let e : 0 ≡ c.0 = omega (arith, c.1) in
    subst (λ z. Contains live z) (ap (λ k. get_or (q ∷ []) k 0) e ∙ at_place (q ∷ []) o c) h.0

-- every antecedent is live
pub involved_live : (words live : List ℕ) (implied : List (List ℕ)) (s : PropagationState) (e : Conflict) (w : AnalysisState) → StateIsConsistent s → 0 < current_level s → ReasonsAreUnit words live implied s (get_or s.trail.starts 0 0) → IsConflict words live implied s.values e →
    ((l : ℕ) → Contains w.used l → IsReasoned s 0 l) → IsResolution words s e w → (o : ℕ) → Contains w.antecedents o → Contains live o
involved_live words live implied s e w a above turns conflict reasons r o c =
    elim (Contains-append_cases (long_falsified e) (longs_of s r.resolved) o (subst (λ (xs : List ℕ). Contains xs o) r.antecedents c)) [
      | inl x ↦ conflict_live words live implied s o e conflict x
      | inr y ↦ longs_live words live implied s o r.resolved (λ l d.
          let x : IsReasoned s 0 l = reasons l (r.forth l d).0 in
          (x.place, subst (λ z. ReasonImplies words live implied s x.place (node s z).reason) x.there (turns x.place (above_first s x.place l a x.within x.there x.above above) x.within))) y
    ]

-- every antecedent is live if the analysis succeeds
pub live_ok : {E : Type 0} (words live : List ℕ) (implied : List (List ℕ)) (s : PropagationState) (e : Conflict) (w : AnalysisState) (r : Result ℕ E) → StateIsConsistent s → 0 < current_level s → ReasonsAreUnit words live implied s (get_or s.trail.starts 0 0) →
    IsConflict words live implied s.values e → IfOk r (λ back. AnalysisResult words s (conflict_lits words e) w back) → OnOk r (IsResolution words s e w) → OnOk r ((o : ℕ) → Contains w.antecedents o → Contains live o)
live_ok words live implied s e w (Ok back) a above turns conflict l i = λ o c.
    involved_live words live implied s e w a above turns conflict (λ m d. subst (λ z. IsReasoned s 0 z) (at_place w.used m d) (l.reasons d.0 d.1)) i o c
live_ok words live implied s e w (Err x) a above turns conflict l i = tt

-- the flags are clear if the analysis succeeds
pub clear_ok : {E : Type 0} (words : List ℕ) (s : PropagationState) (e : Conflict) (w : AnalysisState) (r : Result ℕ E) → IfOk r (λ back. AnalysisResult words s (conflict_lits words e) w back) → OnOk r (FlagsAreClear w.flags)
clear_ok words s e w (Ok back) l = l.clear
clear_ok words s e w (Err x) l = tt
