-- A core of failed assumptions may be written.
use Rattle.std.proofs.Common.{ℕ, suc, ◌<◌, ◌≡◌, Bool, true, false, ◌||◌, List, [], ◌∷◌, ◌++◌, map, length, get_or, refl, sym, ◌∙◌, ap, subst, arith, inl, inr, eqb}
use Rattle.std.proofs.lemmas.Bool.{or_cases, or_left, or_right, eq-eqb}
use Rattle.sat_base.specs.values.Literals.{negated}
use Rattle.sat_base.specs.values.Hashes.{hash_of}
use Rattle.sat_base.specs.steps.Steps.{FailedAssumptions}
use Rattle.sat_checker.specs.LiteralSets.{is_among, is_subset_of, is_tautology}
use Rattle.sat_checker.specs.Propagation.{UnitInTurn}
use Rattle.sat_checker.proofs.lemmas.sets.Order.{among-append}
use Rattle.sat_checker.proofs.lemmas.sets.Canonical.{tautology_from, both_signs}
use Rattle.sat_parts.specs.clause.Stored.{AreLongClauses}
use Rattle.sat_parts.specs.prop.Graphs.{has_no_clause, node_of}
use Rattle.sat_parts.specs.prop.State.{PropagationState, node, level, StateIsConsistent}
use Rattle.sat_parts.specs.prop.Reasons.{ReasonsAreUnit}
use Rattle.sat_parts.specs.prop.Values.{IsFalseLit}
use Rattle.sat_parts.proofs.lemmas.prop.StateLemmas.{negated_twice, negated_variable, true_from_false}
use Rattle.sat_checker.specs.ConflictPropagation.{PropagatesToConflict}
use Rattle.sat_solver.specs.session.Session.{Session, IsAllowedStep, CanDerive, AreLiveByHash, rup_assumptions, by_clauses, by_derivation, by_signs, by_unit}
use Rattle.sat_solver.specs.session.LiveClauses.{with_var}
use Rattle.sat_solver.proofs.lemmas.session.Mapped.{negated_mapped, among_mapped, leads_mapped, Carries}
use Rattle.sat_solver.specs.session.TrailUnits.{IsUsable}
use Rattle.sat_solver.specs.analyze_conflict.Marks.{IsReasoned}
use Rattle.sat_solver.specs.analyze_conflict.Derivation.{clause_of, AreLevelZeroLits}
use Rattle.sat_parts.specs.parts.Round.{UnitsHaveNoReason}
use Rattle.sat_solver.specs.session.Matching.{SessionMatches}
use Rattle.sat_solver.proofs.lemmas.fits.MayLemmas.{bottom, bottom_units, leads_from_turns, AllUsable, named_by, place_usable, bottom_known}
use Rattle.sat_solver.proofs.lemmas.fits.AnswerLemmas.{assumed_part}

twice : (ls : List ℕ) → map negated (map negated ls) ≡ ls
twice [] = refl
twice (l ∷ ls) = ap (λ m. m ∷ map negated (map negated ls)) (negated_twice l) ∙ ap (λ ms. l ∷ ms) (twice ls)

hashes_of : (f : ℕ → List ℕ) (ls : List ℕ) → map hash_of (map f ls) ≡ map (λ l. hash_of (f l)) ls
hashes_of f [] = refl
hashes_of f (l ∷ ls) = ap (λ hs. hash_of (f l) ∷ hs) (hashes_of f ls)

one_part : (l : ℕ) (ls : List ℕ) → is_among ls l ≡ true → is_subset_of (l ∷ []) ls ≡ true
one_part l ls t = rw t refl

-- the reasons of the used literals refute the core: they are unit in turn under it, and the last one is falsified
module _ (words live : List ℕ) (implied : List (List ℕ)) (st : PropagationState) (s : Session) (global : ℕ → ℕ) (fits : SessionMatches words live implied st s global) (agrees : StateIsConsistent st) (clauses : AreLongClauses words live (length st.values)) (bare : UnitsHaveNoReason st) (turns : ReasonsAreUnit words live implied st 0) where
  all_usable : (used : List ℕ) → ((k : ℕ) → k < length used → IsReasoned st 0 (get_or used k 0)) → AllUsable s global (map (clause_of words st) used)
  all_usable [] r = tt
  all_usable (l ∷ ls) r =
      let x : IsReasoned st 0 l = r 0 (omega arith) in (
        subst (λ m. IsUsable s global (clause_of words st m)) x.there (place_usable words live implied st s global fits clauses turns x.place x.within (ap (λ m. has_no_clause (node st m).reason) x.there ∙ x.caused)),
        all_usable ls (λ k lt. r (suc k) (omega arith)),
      )

  core_derives : (core used : List ℕ) → ((k : ℕ) → k < length used → IsReasoned st 0 (get_or used k 0)) → ((units : List ℕ) → AreLevelZeroLits st units → UnitInTurn (core ++ units) (map (clause_of words st) used)) →
      CanDerive s (map negated (map (with_var global) core)) (map (λ l. hash_of (clause_of words st l)) used)
  core_derives core used reasons acceptable =
      let cs : List (List ℕ) = map (clause_of words st) used in
      let known : ℕ → Bool = λ l. is_among core l || is_among (bottom st) l in
      let units : AreLevelZeroLits st (bottom st) = bottom_units st in
      let leads : PropagatesToConflict known (map (clause_of words st) used) =
      leads_from_turns cs known (core ++ bottom st) (λ l k. sym (among-append core (bottom st) l) ∙ k) (acceptable (bottom st) units) in
      let ks : List ℕ = map negated (map (with_var global) core) in
      let carries : Carries global known (rup_assumptions s ks) = λ l k. elim (or_cases (is_among core l) (is_among (bottom st) l) k) [
        | inl t ↦ or_left (is_among (map negated ks) (with_var global l)) (s.units (with_var global l)) (subst (λ ms. is_among ms (with_var global l) ≡ true) (sym (twice (map (with_var global) core))) (among_mapped (with_var global) core l t))
        | inr t ↦ or_right (is_among (map negated ks) (with_var global l)) (s.units (with_var global l)) (let o = units.only l t in bottom_known words live implied st s global fits clauses turns agrees bare l o.0 o.1)
      ] in
      by_clauses (map (map (with_var global)) cs) (subst (AreLiveByHash s (map (map (with_var global)) cs)) (hashes_of (clause_of words st) used) (named_by s global cs fits.width (all_usable used reasons)))
      (leads_mapped global cs known (rup_assumptions s ks) carries leads)

  pub core_may : (core used assumed : List ℕ) → s.assumed ≡ map (with_var global) assumed → is_subset_of core assumed ≡ true → ((k : ℕ) → k < length used → IsReasoned st 0 (get_or used k 0)) →
      ((units : List ℕ) → AreLevelZeroLits st units → UnitInTurn (core ++ units) (map (clause_of words st) used)) →
      IsAllowedStep s (FailedAssumptions (map (with_var global) core) (map (λ l. hash_of (clause_of words st l)) used))
  core_may core used assumed e within reasons acceptable = (assumed_part s global core assumed e within, by_derivation (core_derives core used reasons acceptable))

  -- an assumption that is false at level 0 is a core by itself
  pub core_bottom_may : (failed : ℕ) (assumed hashes : List ℕ) → s.assumed ≡ map (with_var global) assumed → is_among assumed failed ≡ true → IsFalseLit st.values failed → level st failed ≡ 0 →
      IsAllowedStep s (FailedAssumptions (with_var global failed ∷ []) hashes)
  core_bottom_may failed assumed hashes e among fails low =
      let z : level st (negated failed) ≡ 0 = ap (λ v. (node_of st.nodes v).level) (negated_variable failed) ∙ low in
      let u : s.units (with_var global (negated failed)) ≡ true = bottom_known words live implied st s global fits clauses turns agrees bare (negated failed) (true_from_false st.values failed fails) z in (
        assumed_part s global (failed ∷ []) assumed e (one_part failed assumed among),
        by_derivation (by_unit (or_left (s.units (negated (with_var global failed))) false (subst (λ l. s.units l ≡ true) (negated_mapped global failed) u))),
      )

-- assumptions with both signs of a variable are a core without any clause
pub core_signs_may : (s : Session) (global : ℕ → ℕ) (core assumed hashes : List ℕ) → s.assumed ≡ map (with_var global) assumed → is_subset_of core assumed ≡ true → is_tautology core ≡ true →
    IsAllowedStep s (FailedAssumptions (map (with_var global) core) hashes)
core_signs_may s global core assumed hashes e within taut =
    let b = both_signs core taut in
    let ks : List ℕ = map (with_var global) core in
    let first : is_among (map negated ks) (negated (with_var global b.literal)) ≡ true = among_mapped negated ks (with_var global b.literal) (among_mapped (with_var global) core b.literal b.within) in
    let second : is_among (map negated ks) (negated (negated (with_var global b.literal))) ≡ true =
    among_mapped negated ks (negated (with_var global b.literal)) (subst (λ m. is_among ks m ≡ true) (negated_mapped global b.literal) (among_mapped (with_var global) core (negated b.literal) b.negation)) in
    (assumed_part s global core assumed e within, by_signs (tautology_from (map negated ks) (negated (with_var global b.literal)) first second))

-- an assumption and its negation are a core
pub core_pair_may : (s : Session) (global : ℕ → ℕ) (failed : ℕ) (assumed hashes : List ℕ) → s.assumed ≡ map (with_var global) assumed → is_subset_of (failed ∷ negated failed ∷ []) assumed ≡ true →
    IsAllowedStep s (FailedAssumptions (map (with_var global) (failed ∷ negated failed ∷ [])) hashes)
core_pair_may s global failed assumed hashes e within =
    core_signs_may s global (failed ∷ negated failed ∷ []) assumed hashes e within
    (or_left (is_among (negated failed ∷ []) (negated failed)) (is_tautology (negated failed ∷ [])) (or_left (eqb (negated failed) (negated failed)) false (eq-eqb (negated failed) (negated failed) refl)))
