-- The bridge still holds when a hidden variable gets a name.
use Rattle.std.proofs.Common.{ℕ, ◌+◌, ◌/◌, ◌<◌, ◌≡◌, map, Bool, true, false, cond, eqb, List, [], ◌∷◌, Some, refl, sym, ◌∙◌, ap, subst, inl, inr, unwrap_or}
use Rattle.std.proofs.lemmas.Bool.{eqb-true, eqb-false, eq-eqb, ne_eqb}
use Rattle.std.specs.List.{AllByRecursion}
use Rattle.sat_base.specs.script.Script.{Literal, Among}
use Rattle.sat_base.specs.script.ScriptState.{ScriptState, identity_in, identity_of, identity_lit, with_clause}
use Rattle.sat_base.specs.values.Literals.{mk_lit}
use Rattle.sat_base.specs.steps.Steps.{Step, UserVarName}
use Rattle.sat_checker.specs.matching.Checking.{variable_named, CheckerRules, IsSound}
use Rattle.sat_checker.specs.matching.Bridge.{LiveVariables, IsBridge}
use Rattle.sat_solver.specs.variables.Observing.{observed}
use Rattle.sat_base.proofs.lemmas.script.LiteralValues.{placed_found, all_map, all_at, coded_half}

pub named_again : (k : CheckerRules) → IsSound k → (j : ScriptState) (earlier : List Step) (live : LiveVariables) → IsBridge k j earlier live → (name v index i : ℕ) → index + 1 ≡ name → Among (v, i) live → ((m : ℕ) → variable_named earlier m ≡ Some v → ⊥)
    → k.Accepts earlier (UserVarName v (Some index)) → IsBridge k (observed name i j) (UserVarName v (Some index) ∷ earlier) live
named_again k sound j earlier live bridge name v index i is there hidden acc = record {
  accepted = (bridge.accepted, acc);
  once = bridge.once;
  known = all_map (λ p. k.knows earlier p.0 ≡ true) (λ p. k.knows (UserVarName v (Some index) ∷ earlier) p.0 ≡ true) live (λ p h. elim (sound.keeps earlier (UserVarName v (Some index)) p.0 acc h) [ inl t ↦ t | inr e ↦ absurd (cc) ]) bridge.known;
  below = bridge.below;
  clauses_below = bridge.clauses_below;
  named = λ m w e. found m w (eqb (index + 1) m) refl e;
  in_use = λ m n e. has m n (eqb name m) refl (sym (placed_found (record { name = name; identity = i }) j.in_use m) ∙ e);
  distinct = λ m n w e f. one m n w (eqb (index + 1) m) refl (eqb (index + 1) n) refl e f;
  to = bridge.to;
  back = bridge.back;
}
  where
    found : (m w : ℕ) (b : Bool) → eqb (index + 1) m ≡ b → cond b (Some v) (variable_named earlier m) ≡ Some w → (n : ℕ) × (identity_of (observed name i j) m ≡ Some n) × Among (w, n) live
    found m w true e f =
        let x : eqb name m ≡ true = eq-eqb name m (sym is ∙ eqb-true (index + 1) m e) in
        let vw : v ≡ w = cc in
        (i, placed_found (record { name = name; identity = i }) j.in_use m ∙ ap (λ b. cond b (Some i) (identity_in j.in_use m)) x, subst (λ u. Among (u, i) live) vw there)
    found m w false e f =
        let x : eqb name m ≡ false = ne_eqb name m (λ y. eqb-false (index + 1) m e (is ∙ y)) in
        let p = bridge.named m w f in
        (p.0, placed_found (record { name = name; identity = i }) j.in_use m ∙ ap (λ b. cond b (Some i) (identity_in j.in_use m)) x ∙ p.1, p.2)

    has : (m n : ℕ) (b : Bool) → eqb name m ≡ b → cond b (Some i) (identity_in j.in_use m) ≡ Some n → (w : ℕ) × (variable_named (UserVarName v (Some index) ∷ earlier) m ≡ Some w) × Among (w, n) live
    has m n true e f =
        let x : eqb (index + 1) m ≡ true = eq-eqb (index + 1) m (is ∙ eqb-true name m e) in
        let same : i ≡ n = cc in
        (v, ap (λ b. cond b (Some v) (variable_named earlier m)) x, subst (λ u. Among (v, u) live) same there)
    has m n false e f =
        let x : eqb (index + 1) m ≡ false = ne_eqb (index + 1) m (λ y. eqb-false name m e (sym is ∙ y)) in
        let p = bridge.in_use m n f in
        (p.0, ap (λ b. cond b (Some v) (variable_named earlier m)) x ∙ p.1, p.2)

    one : (m n w : ℕ) (b : Bool) → eqb (index + 1) m ≡ b → (d : Bool) → eqb (index + 1) n ≡ d → cond b (Some v) (variable_named earlier m) ≡ Some w → cond d (Some v) (variable_named earlier n) ≡ Some w → m ≡ n
    one m n w true x true y e f = sym (eqb-true (index + 1) m x) ∙ eqb-true (index + 1) n y
    one m n w true x false y e f = absurd (hidden n (f ∙ sym e))
    one m n w false x true y e f = absurd (hidden m (e ∙ sym f))
    one m n w false x false y e f = bridge.distinct m n w e f

-- every literal is over a name in use
abbrev pub InUse : ScriptState → List Literal → Type 0
InUse j ls = AllByRecursion (λ l. (i : ℕ) × (identity_of j l.name ≡ Some i)) ls

-- once unsat is recorded, a clause is left out of the proof
pub left_out : (k : CheckerRules) → IsSound k → (j : ScriptState) (earlier : List Step) (live : LiveVariables) → IsBridge k j earlier live → k.unsat earlier ≡ true → (ls : List Literal) → InUse j ls → IsBridge k (with_clause ls j) earlier live
left_out k sound j earlier live bridge u ls used = record {
  accepted = bridge.accepted;
  once = bridge.once;
  known = bridge.known;
  below = bridge.below;
  clauses_below = (low ls used, bridge.clauses_below);
  named = bridge.named;
  in_use = bridge.in_use;
  distinct = bridge.distinct;
  to = λ a h. absurd (sound.none_left earlier a bridge.accepted u h);
  back = λ a m. bridge.back a (m.0, m.1, m.2.1);
}
  where
    one : (l : Literal) (i : ℕ) → identity_of j l.name ≡ Some i → identity_lit j l / 2 < j.identity_count
    one l i e =
        let p = bridge.in_use l.name i e in
        let h : i < j.identity_count = all_at (λ q. q.1 < j.identity_count) (p.0, i) live bridge.below p.2 in
        let x : identity_lit j l / 2 ≡ i = ap (λ o. mk_lit (unwrap_or o 0) l.positive / 2) e ∙ coded_half i l.positive in
        rw x h

    low : (ks : List Literal) → InUse j ks → AllByRecursion (λ l. l / 2 < j.identity_count) (map (identity_lit j) ks)
    low [] h = tt
    low (l ∷ ks) h = (one l h.0.0 h.0.1, low ks h.1)
