-- The relation between proof variables and identities is preserved by every name, clause and deletion.
use Rattle.std.proofs.Common.{ℕ, ◌+◌, ◌/◌, ◌<◌, ◌≡◌, Bool, true, false, not, cond, eqb, List, [], ◌∷◌, map, filter, Option, Some, None, refl, sym, ◌∙◌, ap, subst, arith, ◌⊎◌, inl, inr, unwrap_or}
use Rattle.std.proofs.lemmas.Bool.{both_ways, eqb-true, eqb-false, eq-eqb, ne_eqb}
use Rattle.std.specs.List.{AllByRecursion}
use Rattle.sat_base.specs.values.Literals.{mk_lit}
use Rattle.sat_base.specs.values.Clauses.{Valuation, literal_true, clause_true, flipped, AllLitsTrue}
use Rattle.sat_base.specs.script.Script.{Literal, Among}
use Rattle.sat_base.specs.script.ScriptState.{ScriptState, Named, identity_in, identity_of, identity_lit, with_name, without_name, with_clause, initial_state}
use Rattle.sat_base.specs.steps.Steps.{Step, UserVarName, AddClause, DeleteVar}
use Rattle.sat_checker.specs.Fold.{Holds}
use Rattle.sat_checker.specs.matching.Checking.{is_variable, variable_named, CheckerRules, IsSound}
use Rattle.sat_checker.specs.matching.Expected.{IsLiteralOf, EachHasItsLiteral, IsSameLiteralSet}
use Rattle.sat_checker.specs.matching.Bridge.{LiveVariables, AgreesOnLive, AreDistinctVariables, IsBridge}
use Rattle.sat_base.proofs.lemmas.script.LiteralValues.{coded_half, literal_same, among_true, some_true, some_mapped, among_mapped, all_at, all_map, updated, Below, updated_clauses, placed_found, removed_found, removed_gone}

pub begun : (k : CheckerRules) → IsBridge k initial_state [] []
begun k = record {
  accepted = tt;
  once = tt;
  known = tt;
  below = tt;
  clauses_below = tt;
  named = λ name v e. absurd (cc);
  in_use = λ name i e. absurd (cc);
  distinct = λ m n v e f. absurd (cc);
  to = λ a h. ((λ x. false), tt, tt);
  back = λ a h. tt;
}

-- a literal and its identity have the same value
module _ (k : CheckerRules) (j : ScriptState) (earlier : List Step) (live : LiveVariables) (bridge : IsBridge k j earlier live) (a b : Valuation) (agrees : AgreesOnLive live a b) where
  pub value : (l : Literal) (code : ℕ) → IsLiteralOf (variable_named earlier) l code → literal_true a code ≡ literal_true b (identity_lit j l)
  value l code s =
      let p = bridge.named l.name s.variable s.named in
      let e : a s.variable ≡ b p.0 = all_at (λ q. a q.0 ≡ b q.1) (s.variable, p.0) live agrees p.2 in
      let o : identity_lit j l ≡ mk_lit p.0 l.positive = ap (λ x. mk_lit (unwrap_or x 0) l.positive) p.1 in
      ap (literal_true a) s.is ∙ literal_same a b s.variable p.0 l.positive e ∙ sym (ap (literal_true b) o)

  pub clause_to : (ls : List Literal) (c : List ℕ) → IsSameLiteralSet (variable_named earlier) ls c → clause_true a c ≡ true → clause_true b (map (identity_lit j) ls) ≡ true
  clause_to ls c same t =
      let x = some_true a c t in
      let l = all_at (λ code. (l : Literal) × IsLiteralOf (variable_named earlier) l code × Among l ls) x.0 c same.1 x.1 in
      among_true b (identity_lit j l.0) (map (identity_lit j) ls) (among_mapped (identity_lit j) l.0 ls l.2) (sym (value l.0 x.0 l.1) ∙ x.2)

  pub clause_back : (ls : List Literal) (c : List ℕ) → EachHasItsLiteral (variable_named earlier) ls c → clause_true b (map (identity_lit j) ls) ≡ true → clause_true a c ≡ true
  clause_back ls c spelt t =
      let l = some_mapped b (identity_lit j) ls t in
      let x = all_at (λ l. (code : ℕ) × IsLiteralOf (variable_named earlier) l code × Among code c) l.0 ls spelt l.1 in
      among_true a x.0 c x.2 (value l.0 x.0 x.1 ∙ l.2)

  -- if the literals of the model are true, so are those of its line
  pub line_true : (ls : List Literal) (c : List ℕ) → EachHasItsLiteral (variable_named earlier) ls c → AllLitsTrue a c → AllByRecursion (λ l. literal_true b (identity_lit j l) ≡ true) ls
  line_true ls c spelt t = all_map (λ l. (code : ℕ) × IsLiteralOf (variable_named earlier) l code × Among code c) (λ l. literal_true b (identity_lit j l) ≡ true) ls
      (λ l x. sym (value l x.0 x.1) ∙ all_at (λ y. literal_true a y ≡ true) x.0 c t x.2) spelt

  pub core_true : (ls : List Literal) (c : List ℕ) → IsSameLiteralSet (variable_named earlier) ls c → AllByRecursion (λ l. literal_true b (identity_lit j l) ≡ true) ls → AllLitsTrue a c
  core_true ls c same t = all_map (λ code. (l : Literal) × IsLiteralOf (variable_named earlier) l code × Among l ls) (λ y. literal_true a y ≡ true) c
      (λ code l. value l.0 code l.1 ∙ all_at (λ l. literal_true b (identity_lit j l) ≡ true) l.0 ls t l.2) same.1

-- the valuation of the live proof variables that a valuation of identities gives
abbrev pub pulled : LiveVariables → Valuation → Valuation
pulled [] b = λ x. false
pulled (p ∷ ps) b = λ x. cond (eqb x p.0) (b p.1) (pulled ps b x)

pub pulled_agrees : (live : LiveVariables) (b : Valuation) → AreDistinctVariables live → AgreesOnLive live (pulled live b) b
pulled_agrees [] b once = tt
pulled_agrees (p ∷ ps) b once = (here, all_map (λ q. (q.0 ≡ p.0 → ⊥) × (pulled ps b q.0 ≡ b q.1)) (λ q. pulled (p ∷ ps) b q.0 ≡ b q.1) ps there (both ps once.0 (pulled_agrees ps b once.1)))
  where
    here : pulled (p ∷ ps) b p.0 ≡ b p.1
    here = let e : eqb p.0 p.0 ≡ true = eq-eqb p.0 p.0 refl in rw e refl

    there : (q : ℕ × ℕ) → (q.0 ≡ p.0 → ⊥) × (pulled ps b q.0 ≡ b q.1) → pulled (p ∷ ps) b q.0 ≡ b q.1
    there q h = let e : eqb q.0 p.0 ≡ false = ne_eqb q.0 p.0 h.0 in rw e h.1

    both : (qs : LiveVariables) → AllByRecursion (λ q. q.0 ≡ p.0 → ⊥) qs → AllByRecursion (λ q. pulled ps b q.0 ≡ b q.1) qs → AllByRecursion (λ q. (q.0 ≡ p.0 → ⊥) × (pulled ps b q.0 ≡ b q.1)) qs
    both [] x y = tt
    both (q ∷ qs) x y = ((x.0, y.0), both qs x.1 y.1)

-- the live variables except `v`
abbrev pub without : ℕ → LiveVariables → LiveVariables
without v = filter (λ p. not (eqb p.0 v))

all_without : (v : ℕ) (P Q : ℕ × ℕ → Type 0) (live : LiveVariables) → ((p : ℕ × ℕ) → P p → (p.0 ≡ v → ⊥) → Q p) → AllByRecursion P live → AllByRecursion Q (without v live)
all_without v P Q [] f h = tt
all_without v P Q (p ∷ ps) f h = go (eqb p.0 v) refl (all_without v P Q ps f h.1)
  where
    go : (b : Bool) → eqb p.0 v ≡ b → AllByRecursion Q (without v ps) → AllByRecursion Q (cond (not b) (p ∷ without v ps) (without v ps))
    go true e ih = ih
    go false e ih = (f p h.0 (eqb-false p.0 v e), ih)

apart_without : (v : ℕ) (live : LiveVariables) → AreDistinctVariables live → AreDistinctVariables (without v live)
apart_without v [] h = tt
apart_without v (p ∷ ps) h = go (eqb p.0 v) (apart_without v ps h.1)
  where
    go : (b : Bool) → AreDistinctVariables (without v ps) → AreDistinctVariables (cond (not b) (p ∷ without v ps) (without v ps))
    go true ih = ih
    go false ih = (all_without v (λ q. q.0 ≡ p.0 → ⊥) (λ q. q.0 ≡ p.0 → ⊥) ps (λ q x n. x) h.0, ih)

among_without : (v : ℕ) (q : ℕ × ℕ) (live : LiveVariables) → (q.0 ≡ v → ⊥) → Among q live → Among q (without v live)
among_without v q [] n m = m
among_without v q (p ∷ ps) n m = go (eqb p.0 v) refl (among_without v q ps n) m
  where
    go : (b : Bool) → eqb p.0 v ≡ b → (Among q ps → Among q (without v ps)) → Among q (p ∷ ps) → Among q (cond (not b) (p ∷ without v ps) (without v ps))
    go true e ih (inl x) = absurd (n (ap (λ (y : ℕ × ℕ). y.0) x ∙ eqb-true p.0 v e))
    go true e ih (inr x) = ih x
    go false e ih (inl x) = inl x
    go false e ih (inr x) = inr (ih x)

elsewhere : (v : ℕ) (a : Valuation) (w : ℕ) → (w ≡ v → ⊥) → flipped v a w ≡ a w
elsewhere v a w n = let e : eqb w v ≡ false = ne_eqb w v n in rw e refl

-- if `v` is not live, flipping its value preserves the agreement
none_of : (v : ℕ) (a b : Valuation) (ps : LiveVariables) → AllByRecursion (λ q. q.0 ≡ v → ⊥) ps → AgreesOnLive (without v ps) a b → AgreesOnLive ps a b × AgreesOnLive ps (flipped v a) b
none_of v a b [] n h = (tt, tt)
none_of v a b (p ∷ ps) n h =
    let e : eqb p.0 v ≡ false = ne_eqb p.0 v n.0 in
    let x : AgreesOnLive (p ∷ without v ps) a b = subst (λ b'. AgreesOnLive (cond (not b') (p ∷ without v ps) (without v ps)) a b) e h in
    let rest = none_of v a b ps n.1 x.1 in
    ((x.0, rest.0), (elsewhere v a p.0 n.0 ∙ x.0, rest.1))

same_or_not : (x y : Bool) → (x ≡ y) ⊎ (not x ≡ y)
same_or_not true true = inl refl
same_or_not true false = inr refl
same_or_not false true = inr refl
same_or_not false false = inl refl

either : (v : ℕ) (a b : Valuation) (live : LiveVariables) → AreDistinctVariables live → AgreesOnLive (without v live) a b → AgreesOnLive live a b ⊎ AgreesOnLive live (flipped v a) b
either v a b [] once h = inl tt
either v a b (p ∷ ps) once h = go (eqb p.0 v) refl (either v a b ps once.1) h
  where
    go : (d : Bool) → eqb p.0 v ≡ d → (AgreesOnLive (without v ps) a b → AgreesOnLive ps a b ⊎ AgreesOnLive ps (flipped v a) b) → AgreesOnLive (cond (not d) (p ∷ without v ps) (without v ps)) a b → AgreesOnLive (p ∷ ps) a b ⊎ AgreesOnLive (p ∷ ps) (flipped v a) b
    go true e ih x =
        let none : AllByRecursion (λ q. q.0 ≡ v → ⊥) ps = subst (λ y. AllByRecursion (λ q. q.0 ≡ y → ⊥) ps) (eqb-true p.0 v e) once.0 in
        let rest = none_of v a b ps none x in
        let at : flipped v a p.0 ≡ not (a p.0) = rw e refl in
        elim (same_or_not (a p.0) (b p.1)) [ inl y ↦ inl (y, rest.0) | inr y ↦ inr (at ∙ y, rest.1) ]
    go false e ih x = elim (ih x.1) [ inl y ↦ inl (x.0, y) | inr y ↦ inr (elsewhere v a p.0 (eqb-false p.0 v e) ∙ x.0, y) ]

-- Every kind of step preserves the relation.
module _ (k : CheckerRules) (sound : IsSound k) (j : ScriptState) (earlier : List Step) (live : LiveVariables) (bridge : IsBridge k j earlier live) where
  -- all live variables are still known
  still_known : (step : Step) → k.Accepts earlier step → ((v : ℕ) → step ≡ DeleteVar v → ⊥) → AllByRecursion (λ p. k.knows (step ∷ earlier) p.0 ≡ true) live
  still_known step acc keeps = all_map (λ p. k.knows earlier p.0 ≡ true) (λ p. k.knows (step ∷ earlier) p.0 ≡ true) live (λ p h. elim (sound.keeps earlier step p.0 acc h) [ inl t ↦ t | inr e ↦ absurd (keeps p.0 e) ]) bridge.known

  pub nothing_new : (step : Step) → k.Accepts earlier step → ((v : ℕ) → step ≡ DeleteVar v → ⊥) → ((name : ℕ) → variable_named (step ∷ earlier) name ≡ variable_named earlier name) → ((a : Valuation) → Holds (step ∷ earlier) a → Holds earlier a) → ((a : Valuation) → Holds earlier a → Holds (step ∷ earlier) a) → IsBridge k j (step ∷ earlier) live
  nothing_new step acc keeps names less more = record {
    accepted = (bridge.accepted, acc);
    once = bridge.once;
    known = still_known step acc keeps;
    below = bridge.below;
    clauses_below = bridge.clauses_below;
    named = λ name v e. bridge.named name v (sym (names name) ∙ e);
    in_use = λ name i e. let p = bridge.in_use name i e in (p.0, names name ∙ p.1, p.2);
    distinct = λ m n v e f. bridge.distinct m n v (sym (names m) ∙ e) (sym (names n) ∙ f);
    to = λ a h. bridge.to a (less a h);
    back = λ a h. more a (bridge.back a h);
  }

  pub added : (ls : List Literal) (c : List ℕ) → k.Accepts earlier (AddClause c) → IsSameLiteralSet (variable_named earlier) ls c → IsBridge k (with_clause ls j) (AddClause c ∷ earlier) live
  added ls c acc same = record {
    accepted = (bridge.accepted, acc);
    once = bridge.once;
    known = still_known (AddClause c) acc (λ v e. cc);
    below = bridge.below;
    clauses_below = (low ls same.0, bridge.clauses_below);
    named = bridge.named;
    in_use = bridge.in_use;
    distinct = bridge.distinct;
    to = λ a h. let m = bridge.to a h.0 in (m.0, m.1, (clause_to k j earlier live bridge a m.0 m.1 ls c same h.1, m.2));
    back = λ a m. (bridge.back a (m.0, m.1, m.2.1), clause_back k j earlier live bridge a m.0 m.1 ls c same.0 m.2.0);
  }
    where
      low : (ks : List Literal) → EachHasItsLiteral (variable_named earlier) ks c → Below j.identity_count (map (identity_lit j) ks)
      low [] h = tt
      low (l ∷ ks) h = (one l h.0.0 h.0.1, low ks h.1)
        where
          one : (l : Literal) (code : ℕ) → IsLiteralOf (variable_named earlier) l code → identity_lit j l / 2 < j.identity_count
          one l code s =
              let p = bridge.named l.name s.variable s.named in
              let h : p.0 < j.identity_count = all_at (λ q. q.1 < j.identity_count) (s.variable, p.0) live bridge.below p.2 in
              let e : identity_lit j l / 2 ≡ p.0 = ap (λ x. mk_lit (unwrap_or x 0) l.positive / 2) p.1 ∙ coded_half p.0 l.positive in
              rw e h

  pub named_new : (name v index : ℕ) → index + 1 ≡ name → k.knows earlier v ≡ false → k.Accepts earlier (UserVarName v (Some index)) → IsBridge k (with_name name j) (UserVarName v (Some index) ∷ earlier) ((v, j.identity_count) ∷ live)
  named_new name v index is unknown acc = record {
    accepted = (bridge.accepted, acc);
    once = (all_map (λ p. k.knows earlier p.0 ≡ true) (λ q. q.0 ≡ v → ⊥) live (λ p h e. both_ways (k.knows earlier v) unknown (ap (k.knows earlier) (sym e) ∙ h)) bridge.known, bridge.once);
    known = (sound.names earlier v index acc, still_known (UserVarName v (Some index)) acc (λ w e. cc));
    below = (omega arith, all_map (λ p. p.1 < j.identity_count) (λ p. p.1 < j.identity_count + 1) live (λ p h. omega arith) bridge.below);
    clauses_below = all_map (Below j.identity_count) (Below (j.identity_count + 1)) j.clauses (λ c h. all_map (λ l. l / 2 < j.identity_count) (λ l. l / 2 < j.identity_count + 1) c (λ l x. omega arith) h) bridge.clauses_below;
    named = λ m w e. found m w (eqb (index + 1) m) refl e;
    in_use = λ m i e. has m i (eqb name m) refl (sym (placed_found (record { name = name; identity = j.identity_count }) j.in_use m) ∙ e);
    distinct = λ m n w e f. one m n w (eqb (index + 1) m) refl (eqb (index + 1) n) refl e f;
    to = λ a h. let m = bridge.to a h in (updated j.identity_count (a v) m.0, (sym (at_new a m.0), kept a m.0 m.1), updated_clauses m.0 j.identity_count (a v) j.clauses bridge.clauses_below m.2);
    back = λ a m. bridge.back a (m.0, m.1.1, m.2);
  }
    where
      new : Named
      new = record { name = name; identity = j.identity_count }

      found : (m w : ℕ) (b : Bool) → eqb (index + 1) m ≡ b → cond b (Some v) (variable_named earlier m) ≡ Some w → (i : ℕ) × (identity_of (with_name name j) m ≡ Some i) × Among (w, i) ((v, j.identity_count) ∷ live)
      found m w true e f =
          let x : eqb name m ≡ true = eq-eqb name m (sym is ∙ eqb-true (index + 1) m e) in
          let vw : v ≡ w = cc in
          (j.identity_count, placed_found (record { name = name; identity = j.identity_count }) j.in_use m ∙ ap (λ b. cond b (Some j.identity_count) (identity_in j.in_use m)) x, inl (ap (λ y. (y, j.identity_count)) (sym vw)))
      found m w false e f =
          let x : eqb name m ≡ false = ne_eqb name m (λ y. eqb-false (index + 1) m e (is ∙ y)) in
          let p = bridge.named m w f in
          (p.0, placed_found (record { name = name; identity = j.identity_count }) j.in_use m ∙ ap (λ b. cond b (Some j.identity_count) (identity_in j.in_use m)) x ∙ p.1, inr p.2)

      has : (m i : ℕ) (b : Bool) → eqb name m ≡ b → cond b (Some j.identity_count) (identity_in j.in_use m) ≡ Some i → (w : ℕ) × (variable_named (UserVarName v (Some index) ∷ earlier) m ≡ Some w) × Among (w, i) ((v, j.identity_count) ∷ live)
      has m i true e f =
          let x : eqb (index + 1) m ≡ true = eq-eqb (index + 1) m (is ∙ eqb-true name m e) in
          let same : j.identity_count ≡ i = cc in
          (v, ap (λ b. cond b (Some v) (variable_named earlier m)) x, inl (ap (λ y. (v, y)) (sym same)))
      has m i false e f =
          let x : eqb (index + 1) m ≡ false = ne_eqb (index + 1) m (λ y. eqb-false name m e (sym is ∙ y)) in
          let p = bridge.in_use m i f in
          (p.0, ap (λ b. cond b (Some v) (variable_named earlier m)) x ∙ p.1, inr p.2)

      -- no earlier name is on the new variable
      fresh : (m : ℕ) → variable_named earlier m ≡ Some v → ⊥
      fresh m e = let p = bridge.named m v e in both_ways (k.knows earlier v) unknown (all_at (λ q. k.knows earlier q.0 ≡ true) (v, p.0) live bridge.known p.2)

      one : (m n w : ℕ) (b : Bool) → eqb (index + 1) m ≡ b → (d : Bool) → eqb (index + 1) n ≡ d → cond b (Some v) (variable_named earlier m) ≡ Some w → cond d (Some v) (variable_named earlier n) ≡ Some w → m ≡ n
      one m n w true x true y e f = sym (eqb-true (index + 1) m x) ∙ eqb-true (index + 1) n y
      one m n w true x false y e f = absurd (fresh n (f ∙ sym e))
      one m n w false x true y e f = absurd (fresh m (e ∙ sym f))
      one m n w false x false y e f = bridge.distinct m n w e f

      at_new : (a b : Valuation) → updated j.identity_count (a v) b j.identity_count ≡ a v
      at_new a b = let e : eqb j.identity_count j.identity_count ≡ true = eq-eqb j.identity_count j.identity_count refl in rw e refl

      kept : (a b : Valuation) → AgreesOnLive live a b → AgreesOnLive live a (updated j.identity_count (a v) b)
      kept a b ag = both live ag bridge.below
        where
          both : (ps : LiveVariables) → AgreesOnLive ps a b → AllByRecursion (λ p. p.1 < j.identity_count) ps → AgreesOnLive ps a (updated j.identity_count (a v) b)
          both [] x y = tt
          both (p ∷ ps) x y = (let e : eqb p.1 j.identity_count ≡ false = ne_eqb p.1 j.identity_count (λ z. let lt = y.0 in omega arith) in rw e x.0, both ps x.1 y.1)

  pub unnamed : (name v : ℕ) → variable_named earlier name ≡ Some v → k.Accepts earlier (UserVarName v None) → IsBridge k (without_name name j) (UserVarName v None ∷ earlier) live
  unnamed name v at acc = record {
    accepted = (bridge.accepted, acc);
    once = bridge.once;
    known = still_known (UserVarName v None) acc (λ w e. cc);
    below = bridge.below;
    clauses_below = bridge.clauses_below;
    named = λ m w e. found m w e;
    in_use = λ m i e. has m i e;
    distinct = λ m n w e f. bridge.distinct m n w (was m w e).1 (was n w f).1;
    to = bridge.to;
    back = bridge.back;
  }
    where
      was : (m w : ℕ) → variable_named (UserVarName v None ∷ earlier) m ≡ Some w → (is_variable v (variable_named earlier m) ≡ false) × (variable_named earlier m ≡ Some w)
      was m w e = go (is_variable v (variable_named earlier m)) refl e
        where
          go : (b : Bool) → is_variable v (variable_named earlier m) ≡ b → cond b None (variable_named earlier m) ≡ Some w → (is_variable v (variable_named earlier m) ≡ false) × (variable_named earlier m ≡ Some w)
          go true x y = absurd (cc)
          go false x y = (x, y)

      found : (m w : ℕ) → variable_named (UserVarName v None ∷ earlier) m ≡ Some w → (i : ℕ) × (identity_of (without_name name j) m ≡ Some i) × Among (w, i) live
      found m w e =
          let x = was m w e in
          let p = bridge.named m w x.1 in
          let differs : (m ≡ name → ⊥) = λ y. both_ways (is_variable v (variable_named earlier m)) x.0 (ap (λ n. is_variable v (variable_named earlier n)) y ∙ ap (is_variable v) at ∙ eq-eqb v v refl) in
          (p.0, removed_found name j.in_use m differs ∙ p.1, p.2)

      none_some : (i : ℕ) → (let z : Option ℕ = None in z) ≡ Some i → ⊥
      none_some i e = cc

      has : (m i : ℕ) → identity_of (without_name name j) m ≡ Some i → (w : ℕ) × (variable_named (UserVarName v None ∷ earlier) m ≡ Some w) × Among (w, i) live
      has m i e =
          let differs : (m ≡ name → ⊥) = λ y. none_some i (sym (removed_gone name j.in_use) ∙ ap (identity_of (without_name name j)) (sym y) ∙ e) in
          let p = bridge.in_use m i (sym (removed_found name j.in_use m differs) ∙ e) in
          let x : eqb p.0 v ≡ false = ne_eqb p.0 v (λ y. differs (bridge.distinct m name v (p.1 ∙ ap Some y) at)) in
          (p.0, ap (λ o. cond (is_variable v o) None o) p.1 ∙ ap (λ b. cond b None (Some p.0)) x, p.2)

  pub deleted : (v : ℕ) → k.Accepts earlier (DeleteVar v) → IsBridge k j (DeleteVar v ∷ earlier) (without v live)
  deleted v acc = record {
    accepted = (bridge.accepted, acc);
    once = apart_without v live bridge.once;
    known = all_without v (λ p. k.knows earlier p.0 ≡ true) (λ p. k.knows (DeleteVar v ∷ earlier) p.0 ≡ true) live (λ p h n. elim (sound.keeps earlier (DeleteVar v) p.0 acc h) [ inl t ↦ t | inr e ↦ absurd (let x : v ≡ p.0 = cc in n (sym x)) ]) bridge.known;
    below = all_without v (λ p. p.1 < j.identity_count) (λ p. p.1 < j.identity_count) live (λ p h n. h) bridge.below;
    clauses_below = bridge.clauses_below;
    in_use = λ name i e. let p = bridge.in_use name i e in (p.0, p.1, among_without v (p.0, i) live (λ x. sound.nameless earlier v name bridge.accepted acc (p.1 ∙ ap Some x)) p.2);
    named = λ name w e. let p = bridge.named name w e in (p.0, p.1, among_without v (w, p.0) live (λ x. sound.nameless earlier v name bridge.accepted acc (e ∙ ap Some x)) p.2);
    distinct = bridge.distinct;
    to = λ a h. elim h [
      | inl x ↦ let m = bridge.to a x in (m.0, all_without v (λ p. a p.0 ≡ m.0 p.1) (λ p. a p.0 ≡ m.0 p.1) live (λ p e n. e) m.1, m.2)
      | inr x ↦ let m = bridge.to (flipped v a) x in (m.0, all_without v (λ p. flipped v a p.0 ≡ m.0 p.1) (λ p. a p.0 ≡ m.0 p.1) live (λ p e n. sym (elsewhere v a p.0 n) ∙ e) m.1, m.2)
    ];
    back = λ a m. elim (either v a m.0 live bridge.once m.1) [ inl x ↦ inl (bridge.back a (m.0, x, m.2)) | inr x ↦ inr (bridge.back (flipped v a) (m.0, x, m.2)) ];
  }
