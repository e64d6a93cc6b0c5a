-- What is stored has the same meaning as the steps.
use Rattle.std.proofs.Common.{ℕ, ◌+◌, ◌/◌, ◌≡◌, ◌<◌, Bool, true, false, not, cond, eqb, List, [], ◌∷◌, ◌++◌, map, Some, None, Option, refl, sym, ◌∙◌, subst, arith, ◌⊎◌, inl, inr}
use Rattle.std.proofs.lemmas.Bool.{cases_Bool, or_cases, or_left, or_parts, both_ways, true≢false, eqb-false, ne_eqb}
use Rattle.sat_base.specs.values.Literals.{variable, negated}
use Rattle.sat_base.specs.values.Clauses.{Valuation, literal_true, clause_true, flipped, AllLitsTrue, AllClausesTrue}
use Rattle.sat_base.specs.steps.Steps.{Redundant, Simplified, Satisfied, Step, SolverVarName, UserVarName, DeleteVar, ChangeSamplingMode, AddClause, AtClause, UnitClauses, DeleteClause, ChangeHashBits, Model, Assumptions, FailedAssumptions, End}
use Rattle.sat_checker.specs.LiteralSets.{is_among, mentions, is_subset_of, is_tautology, canonical}
use Rattle.sat_checker.specs.Stored.{Stored, StoredUnit, LastIrredundant, NoneYet, Empty, UnitClause, LongClause, Satisfies, is_unit, unit_literals, long_clauses}
use Rattle.sat_checker.specs.Storing.{irredundant_count, without_clause, with_unit, with_contradiction, with_new_unit, settled_by, with_sorted_set, last_clause_or, with_canonical, with_stored, with_input, with_units, with_literals_known, without_variable, unit_with_id, last_literals}
use Rattle.sat_checker.specs.Accepts.{VariablesDistinct, IsStrictSubset, UnitsPassInTurn, PassesByHashes, CanBeDeleted, AcceptsAll, effect, stored_after, ready_after}
use Rattle.sat_checker.specs.Fold.{Holds}
use Rattle.sat_checker.proofs.lemmas.sets.Subsets.{superset_true}
use Rattle.sat_checker.proofs.lemmas.propagation.Soundness.{true_among, negated_value, unit_in_clause, tautology_true, derived_hold}
use Rattle.sat_checker.proofs.lemmas.meaning.Clauses.{Kept, literals_of, canonical_true, more_asks, more_kept, more_true, less_asks, less_kept, less_true, counted_true, others_stay}
use Rattle.sat_checker.proofs.lemmas.meaning.Deleting.{units_of_left, units_left, units_left_flipped, units_either, kept_by_flip, true_by_flip, to_flipped, from_flipped, apart_left}
use Rattle.sat_checker.proofs.lemmas.meaning.Orderly.{IsSatisfiedOrIrredundant, LastClauseHolds, OrderInvariant, orderly_settled}
use Rattle.sat_checker.proofs.lemmas.meaning.OrderlySteps.{orderly, strict_differs}

units_push : (a : Valuation) (us : List StoredUnit) (u : StoredUnit) → AllLitsTrue a (map (λ w. w.literal) us) → literal_true a u.literal ≡ true → AllLitsTrue a (map (λ w. w.literal) (us ++ u ∷ []))
units_push a [] u h t = (t, tt)
units_push a (w ∷ ws) u h t = (h.0, units_push a ws u h.1 t)

units_pop : (a : Valuation) (us : List StoredUnit) (u : StoredUnit) → AllLitsTrue a (map (λ w. w.literal) (us ++ u ∷ [])) → AllLitsTrue a (map (λ w. w.literal) us) × (literal_true a u.literal ≡ true)
units_pop a [] u h = (tt, h.0)
units_pop a (w ∷ ws) u h = let p = units_pop a ws u h.1 in ((h.0, p.0), p.1)

single : (a : Valuation) (l : ℕ) → clause_true a (l ∷ []) ≡ true → literal_true a l ≡ true
single a l t = elim (or_cases (literal_true a l) false t) [ inl x ↦ x | inr y ↦ absurd (true≢false (sym y)) ]

single_from : (a : Valuation) (l : ℕ) → literal_true a l ≡ true → clause_true a (l ∷ []) ≡ true
single_from a l t = or_left (literal_true a l) false t

not_true : (b : Bool) → b ≡ true → not b ≡ true → ⊥
not_true true e n = true≢false (sym n)
not_true false e n = true≢false (sym e)

-- storing a clause requires only that the clause is true, if it is irredundant
module _ (f : Stored) (a : Valuation) where
  set_asks : (r : Bool) (c : List ℕ) → Satisfies (with_sorted_set r c f) a → Satisfies f a × (r ≡ false → clause_true a c ≡ true)
  set_asks r [] s = absurd (true≢false s.consistent)
  set_asks r (l ∷ []) s = go (is_unit f l) refl (is_unit f (negated l)) s
    where
      go : (b : Bool) → is_unit f l ≡ b → (d : Bool) → Satisfies (cond b f (cond d (with_contradiction l f) (with_new_unit l f))) a → Satisfies f a × (r ≡ false → clause_true a (l ∷ []) ≡ true)
      go true e d k = (k, λ _. single_from a l (true_among a (unit_literals f) l k.units e))
      go false e true k = absurd (true≢false k.consistent)
      go false e false k = let p = units_pop a f.units (record { id = f.next_id; literal = l }) k.units in (record { consistent = k.consistent; kept = k.kept; units = p.0 }, λ _. single_from a l p.1)
  set_asks r (l ∷ m ∷ ls) s = let p = more_asks a r f.next_id (l ∷ m ∷ ls) f.clauses s.kept in (record { consistent = s.consistent; kept = p.0; units = s.units }, p.1)

  set_holds : (r : Bool) (c : List ℕ) → Satisfies f a → clause_true a c ≡ true → Satisfies (with_sorted_set r c f) a
  set_holds r [] s t = absurd (true≢false (sym t))
  set_holds r (l ∷ []) s t = go (is_unit f l) (is_unit f (negated l)) refl
    where
      go : (b d : Bool) → is_unit f (negated l) ≡ d → Satisfies (cond b f (cond d (with_contradiction l f) (with_new_unit l f))) a
      go true d e = s
      go false true e = absurd (not_true (literal_true a l) (single a l t) (sym (negated_value a l) ∙ true_among a (unit_literals f) (negated l) s.units e))
      go false false e = record { consistent = s.consistent; kept = s.kept; units = units_push a f.units (record { id = f.next_id; literal = l }) s.units (single a l t) }
  set_holds r (l ∷ m ∷ ls) s t = record { consistent = s.consistent; kept = more_kept a r f.next_id (l ∷ m ∷ ls) f.clauses s.kept t; units = s.units }

  set_true : (r : Bool) (c : List ℕ) → AllClausesTrue a (long_clauses f) → clause_true a c ≡ true → AllClausesTrue a (long_clauses (with_sorted_set r c f))
  set_true r [] h t = h
  set_true r (l ∷ []) h t = go (is_unit f l) (is_unit f (negated l))
    where
      go : (b d : Bool) → AllClausesTrue a (long_clauses (cond b f (cond d (with_contradiction l f) (with_new_unit l f))))
      go true d = h
      go false true = h
      go false false = h
  set_true r (l ∷ m ∷ ls) h t = more_true a r f.next_id (l ∷ m ∷ ls) f.clauses h t

apart_push : (us : List StoredUnit) (u : StoredUnit) → VariablesDistinct (map (λ w. w.literal) us) → is_among (map (λ w. w.literal) us) u.literal ≡ false → is_among (map (λ w. w.literal) us) (negated u.literal) ≡ false → VariablesDistinct (map (λ w. w.literal) (us ++ u ∷ []))
apart_push [] u p n m = (refl, tt)
apart_push (w ∷ ws) u p n m =
    let x = or_parts (eqb w.literal u.literal) (is_among (map (λ v. v.literal) ws) u.literal) n in
    let y = or_parts (eqb w.literal (negated u.literal)) (is_among (map (λ v. v.literal) ws) (negated u.literal)) m in
    let no : (w.literal ≡ u.literal → ⊥) = eqb-false w.literal u.literal x.0 in
    let nn : (w.literal ≡ negated u.literal → ⊥) = eqb-false w.literal (negated u.literal) y.0 in
    (push ws p.0 (ne_eqb (u.literal / 2) (w.literal / 2) (λ e. apart_literals u.literal w.literal e no nn)), apart_push ws u p.1 x.1 y.1)
  where
    apart_literals : (l k : ℕ) → l / 2 ≡ k / 2 → (k ≡ l → ⊥) → (k ≡ negated l → ⊥) → ⊥
    apart_literals l k e differs opposed = omega arith

    push : (vs : List StoredUnit) → mentions (map (λ v. v.literal) vs) (variable w.literal) ≡ false → eqb (variable u.literal) (variable w.literal) ≡ false → mentions (map (λ v. v.literal) (vs ++ u ∷ [])) (variable w.literal) ≡ false
    push [] h t = rw t refl
    push (v ∷ vs) h t = let k = or_parts (eqb (variable v.literal) (variable w.literal)) (mentions (map (λ x. x.literal) vs) (variable w.literal)) h in rw k.0 (push vs k.1 t)

apart_set : (f : Stored) (r : Bool) (c : List ℕ) → VariablesDistinct (unit_literals f) → VariablesDistinct (unit_literals (with_sorted_set r c f))
apart_set f r [] p = p
apart_set f r (l ∷ []) p = go (is_unit f l) refl (is_unit f (negated l)) refl
  where
    go : (b : Bool) → is_unit f l ≡ b → (d : Bool) → is_unit f (negated l) ≡ d → VariablesDistinct (unit_literals (cond b f (cond d (with_contradiction l f) (with_new_unit l f))))
    go true n d m = p
    go false n true m = p
    go false n false m = apart_push f.units (record { id = f.next_id; literal = l }) p n m
apart_set f r (l ∷ m ∷ ls) p = p

-- every stored clause follows from the irredundant ones and the units, and no variable has two units
pub record IsCoherent (f : Stored) : Type 0 where
  pub follows : (a : Valuation) → Satisfies f a → AllClausesTrue a (long_clauses f)
  pub apart : VariablesDistinct (unit_literals f)

-- the state is coherent, and exactly these valuations satisfy it
pub record Does (g : Stored) (Meant : Valuation → Type 0) : Type 0 where
  pub coherent : IsCoherent g
  pub to : (a : Valuation) → Meant a → Satisfies g a
  pub back : (a : Valuation) → Satisfies g a → Meant a

-- only unsat, the clauses and the units matter
aside_to : (f g : Stored) (a : Valuation) → g.unsat ≡ f.unsat → g.clauses ≡ f.clauses → g.units ≡ f.units → Satisfies f a → Satisfies g a
aside_to f g a u c l s = record { consistent = u ∙ s.consistent; kept = subst (Kept a) (sym c) s.kept; units = subst (λ us. AllLitsTrue a (map (λ w. w.literal) us)) (sym l) s.units }

aside : (f g : Stored) (Meant : Valuation → Type 0) → g.unsat ≡ f.unsat → g.clauses ≡ f.clauses → g.units ≡ f.units → Does f Meant → Does g Meant
aside f g Meant u c l d = record {
  coherent = record {
    follows = λ a s. subst (λ x. AllClausesTrue a (literals_of x)) (sym c) (d.coherent.follows a (aside_to g f a (sym u) (sym c) (sym l) s));
    apart = subst (λ us. VariablesDistinct (map (λ w. w.literal) us)) (sym l) d.coherent.apart;
  };
  to = λ a h. aside_to f g a u c l (d.to a h);
  back = λ a s. d.back a (aside_to g f a (sym u) (sym c) (sym l) s);
}

itself : (f : Stored) → IsCoherent f → Does f (Satisfies f)
itself f s = record { coherent = s; to = λ a h. h; back = λ a h. h }

-- storing a set that is irredundant or follows
sets : (f : Stored) (r : Bool) (c : List ℕ) → IsCoherent f → ((a : Valuation) → Satisfies f a → r ≡ true → clause_true a c ≡ true) → Does (with_sorted_set r c f) (λ a. Satisfies f a × (clause_true a c ≡ true))
sets f r c s derived = record {
  coherent = record { follows = λ a t. set_true f a r c (s.follows a (set_asks f a r c t).0) (true_then a t); apart = apart_set f r c s.apart };
  to = λ a h. set_holds f a r c h.0 h.1;
  back = λ a t. ((set_asks f a r c t).0, true_then a t);
}
  where
    true_then : (a : Valuation) → Satisfies (with_sorted_set r c f) a → clause_true a c ≡ true
    true_then a t = let p = set_asks f a r c t in elim (cases_Bool r) [ inl e ↦ derived a p.0 e | inr e ↦ p.1 e ]

canonicals : (f : Stored) (r : Bool) (c : List ℕ) → IsCoherent f → ((a : Valuation) → Satisfies f a → r ≡ true → clause_true a c ≡ true) → Does (with_canonical r c f) (λ a. Satisfies f a × (clause_true a c ≡ true))
canonicals f true c s derived = sets f true c s derived
canonicals f false c s derived = aside (with_sorted_set false c f) (record (with_sorted_set false c f) { last = last_clause_or f.next_id c (with_sorted_set false c f) f.last }) (λ a. Satisfies f a × (clause_true a c ≡ true)) refl refl refl (sets f false c s derived)

-- storing a clause that is irredundant or follows
stores : (f : Stored) (r : Bool) (c : List ℕ) → IsCoherent f → ((a : Valuation) → Satisfies f a → r ≡ true → clause_true a c ≡ true) → Does (with_stored r c f) (λ a. Satisfies f a × (clause_true a c ≡ true))
stores f r c s derived = go (is_tautology c) refl
  where
    go : (d : Bool) → is_tautology c ≡ d → Does (cond d f (with_canonical r (canonical c) f)) (λ a. Satisfies f a × (clause_true a c ≡ true))
    go true e = record { coherent = s; to = λ a h. h.0; back = λ a h. (h, tautology_true a c e) }
    go false e =
        let d = canonicals f r (canonical c) s (λ a h k. canonical_true a c ∙ derived a h k) in
        record { coherent = d.coherent; to = λ a h. d.to a (h.0, canonical_true a c ∙ h.1); back = λ a h. let p = d.back a h in (p.0, sym (canonical_true a c) ∙ p.1) }

known : (f : Stored) (ls : List ℕ) → IsCoherent f → Does (with_literals_known ls f) (Satisfies f)
known f ls s = aside f (with_literals_known ls f) (Satisfies f) refl refl refl (itself f s)

adds : (f : Stored) (c : List ℕ) → IsCoherent f → Does (effect (AddClause c) f) (λ a. Satisfies f a × (clause_true a c ≡ true))
adds f c s = go f.unsat refl
  where
    go : (b : Bool) → f.unsat ≡ b → Does (cond b f (with_input c (with_literals_known c f))) (λ a. Satisfies f a × (clause_true a c ≡ true))
    go true e = record { coherent = s; to = λ a h. h.0; back = λ a h. absurd (both_ways f.unsat h.consistent e) }
    go false e =
        let g : Stored = with_literals_known c f in
        let k = known f c s in
        let d = aside (with_stored false c g) (with_input c g) (λ a. Satisfies g a × (clause_true a c ≡ true)) refl refl refl (stores g false c k.coherent (λ a t z. absurd (true≢false (sym z)))) in
        record { coherent = d.coherent; to = λ a h. d.to a (k.to a h.0, h.1); back = λ a h. let p = d.back a h in (k.back a p.0, p.1) }

derives : (f : Stored) (r : Bool) (c hashes : List ℕ) → IsCoherent f → PassesByHashes f c hashes → Does (effect (AtClause r c hashes) f) (Satisfies f)
derives f r c hashes s p =
    let k = known f c s in
    let d = stores (with_literals_known c f) r c k.coherent (λ a t e. holds a (k.back a t)) in
    record { coherent = d.coherent; to = λ a h. d.to a (k.to a h, holds a h); back = λ a h. k.back a (d.back a h).0 }
  where
    holds : (a : Valuation) → Satisfies f a → clause_true a c ≡ true
    holds a h = derived_hold f c hashes a p h.units (s.follows a h)

one_unit : (f : Stored) (l hash : ℕ) → IsCoherent f → PassesByHashes f (l ∷ []) (hash ∷ []) → Does (with_unit l f) (Satisfies f)
one_unit f l hash s p =
    let d = sets f false (l ∷ []) s (λ a t e. absurd (true≢false (sym e))) in
    record { coherent = d.coherent; to = λ a h. d.to a (h, derived_hold f (l ∷ []) (hash ∷ []) a p h.units (s.follows a h)); back = λ a h. (d.back a h).0 }

-- adding units one by one, each of which passes
units_pass : (us : List (ℕ × ℕ)) (f : Stored) → IsCoherent f → UnitsPassInTurn f us → Does (with_units (map (λ u. u.0) us) f) (Satisfies f)
units_pass [] f s p = itself f s
units_pass (u ∷ us) f s p =
    let first = one_unit f u.0 u.1 s p.0 in
    let rest = units_pass us (with_unit u.0 f) first.coherent p.1 in
    record { coherent = rest.coherent; to = λ a h. rest.to a (first.to a h); back = λ a h. first.back a (rest.back a h) }

-- removing a count, if its clause is still true without it
deletes : (f : Stored) (r : Bool) (c : List ℕ) → IsCoherent f → ((a : Valuation) → Satisfies (record f { clauses = without_clause r (canonical c) f.clauses }) a → r ≡ false → clause_true a c ≡ true) → Does (record f { clauses = without_clause r (canonical c) f.clauses }) (Satisfies f)
deletes f r c s holds = record {
  coherent = record { follows = λ a h. less_true a r (canonical c) f.clauses (s.follows a (before a h)); apart = s.apart };
  to = λ a h. record { consistent = h.consistent; kept = less_kept a r (canonical c) f.clauses h.kept; units = h.units };
  back = before;
}
  where
    before : (a : Valuation) → Satisfies (record f { clauses = without_clause r (canonical c) f.clauses }) a → Satisfies f a
    before a h = record { consistent = h.consistent; kept = less_asks a r (canonical c) f.clauses (λ e. canonical_true a c ∙ holds a h e) h.kept; units = h.units }

unit_found : (a : Valuation) (id : ℕ) (ls : List ℕ) (us : List StoredUnit) → unit_with_id id us ≡ Some ls → AllLitsTrue a (map (λ u. u.literal) us) → clause_true a ls ≡ true
unit_found a id ls [] e h = absurd cc
unit_found a id ls (u ∷ us) e h = go (λ k. unit_found a id ls us k h.1) (eqb u.id id) e
  where
    go : (unit_with_id id us ≡ Some ls → clause_true a ls ≡ true) → (b : Bool) → cond b (Some (u.literal ∷ [])) (unit_with_id id us) ≡ Some ls → clause_true a ls ≡ true
    go ih true e = let k : u.literal ∷ [] ≡ ls = cc in subst (λ x. clause_true a x ≡ true) k (single_from a u.literal h.0)
    go ih false e = ih e

-- a clause that contains the last irredundant clause is still true after its count is removed
last_true : (f : Stored) (c : List ℕ) (a : Valuation) → OrderInvariant f → IsStrictSubset (last_literals f.last f) c → Satisfies (record f { clauses = without_clause false (canonical c) f.clauses }) a → clause_true a c ≡ true
last_true f c a o p h = go f.last o.last_holds p
  where
    by_found : (x : Option (List ℕ)) → IsStrictSubset x c → ((ms : List ℕ) → x ≡ Some ms → is_subset_of c ms ≡ false → clause_true a ms ≡ true) → clause_true a c ≡ true
    by_found None p w = absurd p
    by_found (Some ms) p w = superset_true a ms c p.0 (w ms refl p.1)

    supported : (ms : List ℕ) → is_subset_of c ms ≡ false → IsSatisfiedOrIrredundant (unit_literals f) f.clauses ms → clause_true a ms ≡ true
    supported ms n (inl t) = unit_in_clause a (unit_literals f) ms h.units t
    supported ms n (inr k) = counted_true a ms (without_clause false (canonical c) f.clauses) h.kept (subst (λ x. 0 < irredundant_count x) (sym (others_stay false ms (canonical c) f.clauses (strict_differs ms c n))) k)

    go : (last : LastIrredundant) → LastClauseHolds last f.unsat (unit_literals f) f.clauses → IsStrictSubset (last_literals last f) c → clause_true a c ≡ true
    go NoneYet k p = absurd p
    go (Empty id) k p = absurd (both_ways f.unsat h.consistent k)
    go (UnitClause id) k p = by_found (unit_with_id id f.units) p (λ ms e n. unit_found a id ms f.units e h.units)
    go (LongClause id) k p = by_found (last_literals (LongClause id) f) p (λ ms e n. supported ms n (k ms e))

drops : (f : Stored) (v : ℕ) → IsCoherent f → CanBeDeleted f v → Does (without_variable v f) (λ a. Satisfies f a ⊎ Satisfies f (flipped v a))
drops f v s free = record {
  coherent = record {
    follows = λ a h. elim (back a h) [ inl k ↦ s.follows a k | inr k ↦ true_by_flip (flipped v a) a v f.clauses (from_flipped a v) free.unused (s.follows (flipped v a) k) ];
    apart = subst VariablesDistinct (sym (units_of_left v f.units)) (apart_left v (unit_literals f) s.apart);
  };
  to = λ a e. elim e [
    | inl k ↦ record { consistent = k.consistent; kept = k.kept; units = subst (AllLitsTrue a) (sym (units_of_left v f.units)) (units_left a v (unit_literals f) k.units) }
    | inr k ↦ record { consistent = k.consistent; kept = kept_by_flip (flipped v a) a v f.clauses (from_flipped a v) free.unused k.kept; units = subst (AllLitsTrue a) (sym (units_of_left v f.units)) (units_left_flipped a v (unit_literals f) k.units) }
  ];
  back = back;
}
  where
    back : (a : Valuation) → Satisfies (without_variable v f) a → Satisfies f a ⊎ Satisfies f (flipped v a)
    back a h = elim (units_either a v (unit_literals f) s.apart (subst (AllLitsTrue a) (units_of_left v f.units) h.units)) [
      | inl u ↦ inl (record { consistent = h.consistent; kept = h.kept; units = u })
      | inr u ↦ inr (record { consistent = h.consistent; kept = kept_by_flip a (flipped v a) v f.clauses (to_flipped a v) free.unused h.kept; units = u })
    ]

-- making variables known does not change the check
same_unit : (f : Stored) (ls : List ℕ) (l : ℕ) → with_unit l (with_literals_known ls f) ≡ with_literals_known ls (with_unit l f)
same_unit f ls l = go (is_unit f l) (is_unit f (negated l))
  where
    go : (b d : Bool) → cond b (with_literals_known ls f) (cond d (with_contradiction l (with_literals_known ls f)) (with_new_unit l (with_literals_known ls f))) ≡ with_literals_known ls (cond b f (cond d (with_contradiction l f) (with_new_unit l f)))
    go true d = refl
    go false true = refl
    go false false = refl

pub pass_known : (us : List (ℕ × ℕ)) (ls : List ℕ) (f : Stored) → UnitsPassInTurn f us → UnitsPassInTurn (with_literals_known ls f) us
pass_known [] ls f p = tt
pass_known (u ∷ us) ls f p = (p.0, subst (λ g. UnitsPassInTurn g us) (sym (same_unit f ls u.0)) (pass_known us ls (with_unit u.0 f) p.1))

-- two changes of the state, one after the other
further : (f g : Stored) (Meant : Valuation → Type 0) → Does f Meant → Does g (Satisfies f) → Does g Meant
further f g Meant m d = record { coherent = d.coherent; to = λ a h. d.to a (m.to a h); back = λ a h. m.back a (d.back a h) }

-- settling a unit conflict does not change the meaning
settle : (earlier : List Step) → Does (stored_after earlier) (Holds earlier) → Does (ready_after earlier) (Holds earlier)
settle earlier d = go (stored_after earlier) d (stored_after earlier).conflict
  where
    go : (f : Stored) → Does f (Holds earlier) → (x : Option (ℕ × ℕ)) → Does (settled_by x f) (Holds earlier)
    go f d None = d
    go f d (Some units) = aside f (record f { conflict = None; next_id = f.next_id + 1 }) (Holds earlier) refl refl refl d

-- the meaning of all accepted steps
pub means : (steps : List Step) → AcceptsAll steps → Does (stored_after steps) (Holds steps)
means [] ok = record {
  coherent = record { follows = λ a h. tt; apart = tt };
  to = λ a h. record { consistent = refl; kept = tt; units = tt };
  back = λ a h. tt;
}
means (AddClause c ∷ earlier) ok =
    let m = settle earlier (means earlier ok.0) in
    let d = adds (ready_after earlier) c m.coherent in
    record { coherent = d.coherent; to = λ a h. d.to a (m.to a h.0, h.1); back = λ a h. let p = d.back a h in (m.back a p.0, p.1) }
means (DeleteVar v ∷ earlier) ok =
    let m = settle earlier (means earlier ok.0) in
    let d = drops (ready_after earlier) v m.coherent ok.1 in
    record {
      coherent = d.coherent;
      to = λ a h. d.to a (elim h [ inl x ↦ inl (m.to a x) | inr y ↦ inr (m.to (flipped v a) y) ]);
      back = λ a h. elim (d.back a h) [ inl x ↦ inl (m.back a x) | inr y ↦ inr (m.back (flipped v a) y) ];
    }
means (AtClause r c hashes ∷ earlier) ok =
    let m = settle earlier (means earlier ok.0) in
    further (ready_after earlier) (stored_after (AtClause r c hashes ∷ earlier)) (Holds earlier) m (derives (ready_after earlier) r c hashes m.coherent ok.1)
means (UnitClauses us ∷ earlier) ok =
    let m = settle earlier (means earlier ok.0) in
    let f : Stored = ready_after earlier in
    let k = known f (map (λ u. u.0) us) m.coherent in
    let d = units_pass us (with_literals_known (map (λ u. u.0) us) f) k.coherent (pass_known us (map (λ u. u.0) us) f ok.1) in
    further f (stored_after (UnitClauses us ∷ earlier)) (Holds earlier) m (further (with_literals_known (map (λ u. u.0) us) f) (stored_after (UnitClauses us ∷ earlier)) (Satisfies f) k d)
means (DeleteClause c Redundant ∷ earlier) ok =
    let m = settle earlier (means earlier ok.0) in
    further (ready_after earlier) (stored_after (DeleteClause c Redundant ∷ earlier)) (Holds earlier) m (deletes (ready_after earlier) true c m.coherent (λ a h e. absurd (true≢false e)))
means (DeleteClause c Satisfied ∷ earlier) ok =
    let m = settle earlier (means earlier ok.0) in
    further (ready_after earlier) (stored_after (DeleteClause c Satisfied ∷ earlier)) (Holds earlier) m (deletes (ready_after earlier) false c m.coherent (λ a h e. unit_in_clause a (unit_literals (ready_after earlier)) c h.units ok.1.1))
means (DeleteClause c Simplified ∷ earlier) ok =
    let m = settle earlier (means earlier ok.0) in
    further (ready_after earlier) (stored_after (DeleteClause c Simplified ∷ earlier)) (Holds earlier) m (deletes (ready_after earlier) false c m.coherent (λ a h e. last_true (ready_after earlier) c a (orderly_settled (stored_after earlier) (orderly earlier ok.0)) ok.1.1 h))
means (SolverVarName v None ∷ earlier) ok = aside (ready_after earlier) (stored_after (SolverVarName v None ∷ earlier)) (Holds earlier) refl refl refl (settle earlier (means earlier ok.0))
means (SolverVarName v (Some n) ∷ earlier) ok = aside (ready_after earlier) (stored_after (SolverVarName v (Some n) ∷ earlier)) (Holds earlier) refl refl refl (settle earlier (means earlier ok.0))
means (UserVarName v (Some n) ∷ earlier) ok = aside (ready_after earlier) (stored_after (UserVarName v (Some n) ∷ earlier)) (Holds earlier) refl refl refl (settle earlier (means earlier ok.0))
means (UserVarName v None ∷ earlier) ok = aside (ready_after earlier) (stored_after (UserVarName v None ∷ earlier)) (Holds earlier) refl refl refl (settle earlier (means earlier ok.0))
means (ChangeSamplingMode v s ∷ earlier) ok = aside (ready_after earlier) (stored_after (ChangeSamplingMode v s ∷ earlier)) (Holds earlier) refl refl refl (settle earlier (means earlier ok.0))
means (ChangeHashBits n ∷ earlier) ok = aside (ready_after earlier) (stored_after (ChangeHashBits n ∷ earlier)) (Holds earlier) refl refl refl (settle earlier (means earlier ok.0))
means (Model ls ∷ earlier) ok = aside (ready_after earlier) (stored_after (Model ls ∷ earlier)) (Holds earlier) refl refl refl (settle earlier (means earlier ok.0))
means (Assumptions ls ∷ earlier) ok = aside (ready_after earlier) (stored_after (Assumptions ls ∷ earlier)) (Holds earlier) refl refl refl (settle earlier (means earlier ok.0))
means (FailedAssumptions c hs ∷ earlier) ok = settle earlier (means earlier ok.0)
means (End ∷ earlier) ok = aside (ready_after earlier) (stored_after (End ∷ earlier)) (Holds earlier) refl refl refl (settle earlier (means earlier ok.0))

pub means_ready : (steps : List Step) → AcceptsAll steps → Does (ready_after steps) (Holds steps)
means_ready steps ok = settle steps (means steps ok)
