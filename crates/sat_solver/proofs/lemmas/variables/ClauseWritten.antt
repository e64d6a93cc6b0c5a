-- A clause is written.
use Rattle.std.proofs.Common.{ℕ, ◌+◌, ◌<◌, ◌≡◌, ◌≢◌, Bool, true, false, ◌||◌, ◌&&◌, cond, eqb, List, [], ◌∷◌, map, Option, Some, None, refl, sym, ◌∙◌, ap, subst, inl, inr}
use Rattle.std.proofs.lemmas.Bool.{eqb-true, eq-eqb, ne_eqb, true≢false}
use Rattle.std.specs.List.{AllByRecursion}
use Rattle.sat_base.specs.values.Literals.{variable, is_positive, mk_lit, negated}
use Rattle.sat_base.specs.script.Script.{Literal, Among}
use Rattle.sat_base.specs.script.ScriptState.{with_clause}
use Rattle.sat_base.specs.steps.Steps.{Step, AddClause}
use Rattle.sat_store.specs.declared.data.SamplingMode.{SamplingMode}
use Rattle.sat_store.specs.declared.data.SamplingMode.TheVariants as kept
use Rattle.sat_checker.specs.LiteralSets.{is_among, is_tautology, canonical, mentions, same_literals}
use Rattle.sat_checker.proofs.lemmas.state.Forgetting.{mentions_set}
use Rattle.sat_checker.proofs.lemmas.sets.Canonical.{canonical_among}
use Rattle.sat_checker.specs.Stored.{Sample, Variable, initial_variable}
use Rattle.sat_checker.specs.Contents.{plus_one_if, same_flag}
use Rattle.sat_solver.specs.session.Session.{Session, IsAllowedStep, AreAllowedSteps, session_after, after, with_unit_added}
use Rattle.sat_solver.proofs.lemmas.session.Changes.{knowing_literals, with_sorted, with_live_clause, session_if}
use Rattle.sat_solver.proofs.lemmas.session.StepLemmas.{sessions_are_accepted}
use Rattle.sat_solver.specs.variables.Variables.{data_at, user_of, solver_of, NamesMatchSteps, IsInNoNonUnitClause, checker_mode}
use Rattle.sat_solver.specs.load.Literals.{user_literal, IsProofLiteralOf, SameLiterals}
use Rattle.sat_checker.specs.matching.Checking.{variable_named}
use Rattle.sat_checker.specs.matching.ProofChecking.{checker_rules}
use Rattle.sat_checker.specs.matching.Expected.{IsLiteralOf, IsSameLiteralSet, EachHasItsLiteral, Adds, adds}
use Rattle.sat_checker.specs.matching.Traces.{no_step, visible}
use Rattle.sat_solver.specs.variables.Calls.{NamesInvariant, ReachesScriptState, ChangesScriptState}
use Rattle.sat_solver.specs.declared.variables.Variables.{Variables}
use Rattle.sat_base.proofs.lemmas.script.LiteralValues.{coded_half, all_map}
use Rattle.sat_checker.proofs.lemmas.matching.Bridge.{added}
use Rattle.sat_checker.proofs.lemmas.matching.CheckerIsSound.{the_checking_sound}

-- a clause changes neither variables nor solver names
record SameNames (s t : Session) : Type 0 where
  variables : t.variables ≡ s.variables
  solver_names : t.solver_names ≡ s.solver_names
  assumed : t.assumed ≡ s.assumed

fact_same : (l : ℕ) (s : Session) → SameNames s (with_unit_added l s)
fact_same l s = go (s.units l) (s.units (negated l))
  where
    go : (b d : Bool) → SameNames s (session_if b s (session_if d (record s { unsat = true }) (record s { units = λ m. eqb l m || s.units m })))
    go true d = record { variables = refl; solver_names = refl; assumed = refl }
    go false true = record { variables = refl; solver_names = refl; assumed = refl }
    go false false = record { variables = refl; solver_names = refl; assumed = refl }

sorted_same : (set : List ℕ) (s : Session) → SameNames s (with_sorted false set s)
sorted_same [] s = record { variables = refl; solver_names = refl; assumed = refl }
sorted_same (l ∷ []) s = fact_same l s
sorted_same (l ∷ m ∷ ls) s = record { variables = refl; solver_names = refl; assumed = refl }

clause_same : (c : List ℕ) (s : Session) → SameNames s (with_live_clause false c s)
clause_same c s = go (is_tautology c)
  where
    go : (b : Bool) → SameNames s (session_if b s (with_sorted false (canonical c) s))
    go true = record { variables = refl; solver_names = refl; assumed = refl }
    go false = sorted_same (canonical c) s

known_among : (s : Session) (c : List ℕ) (v : ℕ) → AllByRecursion (λ code. (s.variables (variable code)).known ≡ true) c → is_among (map variable c) v ≡ true → (s.variables v).known ≡ true
known_among s [] v h e = absurd (true≢false (sym e))
known_among s (x ∷ xs) v h e = go (eqb (variable x) v) refl e (known_among s xs v h.1)
  where
    go : (b : Bool) → eqb (variable x) v ≡ b → (b || is_among (map variable xs) v) ≡ true → (is_among (map variable xs) v ≡ true → (s.variables v).known ≡ true) → (s.variables v).known ≡ true
    go true t f ih = ap (λ k. (s.variables k).known) (sym (eqb-true (variable x) v t)) ∙ h.0
    go false t f ih = ih f

known_still : (x : Variable) → x.known ≡ true → record x { known = true } ≡ x
known_still x e = ap {A = Bool} (λ b. record x { known = b }) (sym e)

-- marking variables as known changes nothing if they are known already
pub known_same : (s : Session) (c : List ℕ) (v : ℕ) → AllByRecursion (λ code. (s.variables (variable code)).known ≡ true) c → (knowing_literals c s).variables v ≡ s.variables v
known_same s c v h = known (is_among (map variable c) v) refl
  where
    known : (b : Bool) → is_among (map variable c) v ≡ b → cond b (record (s.variables v) { known = true }) (s.variables v) ≡ s.variables v
    known true e = known_still (s.variables v) (known_among s c v h e)
    known false e = refl

added_variables : (s : Session) (c : List ℕ) (v : ℕ) → AllByRecursion (λ code. (s.variables (variable code)).known ≡ true) c → (after (AddClause c) s).variables v ≡ s.variables v
added_variables s c v h = go s.unsat
  where
    known : (b : Bool) → is_among (map variable c) v ≡ b → cond b (record (s.variables v) { known = true }) (s.variables v) ≡ s.variables v
    known true e = known_still (s.variables v) (known_among s c v h e)
    known false e = refl

    go : (b : Bool) → (session_if b s (with_live_clause false c (knowing_literals c s))).variables v ≡ s.variables v
    go true = refl
    go false = ap (λ f. f v) (clause_same c (knowing_literals c s)).variables ∙ known (is_among (map variable c) v) refl

added_names : (s : Session) (c : List ℕ) → (after (AddClause c) s).solver_names ≡ s.solver_names
added_names s c = go s.unsat
  where
    go : (b : Bool) → (session_if b s (with_live_clause false c (knowing_literals c s))).solver_names ≡ s.solver_names
    go true = refl
    go false = (clause_same c (knowing_literals c s)).solver_names

added_assumed : (s : Session) (c : List ℕ) → (after (AddClause c) s).assumed ≡ s.assumed
added_assumed s c = go s.unsat
  where
    go : (b : Bool) → (session_if b s (with_live_clause false c (knowing_literals c s))).assumed ≡ s.assumed
    go true = refl
    go false = (clause_same c (knowing_literals c s)).assumed

and_left : (a b : Bool) → (a && b) ≡ true → a ≡ true
and_left true b e = refl
and_left false b e = e

pub and_right : (a b : Bool) → (a && b) ≡ true → b ≡ true
and_right true b e = e
and_right false b e = absurd (true≢false (sym e))

pub same_lists : (xs ys : List ℕ) → same_literals xs ys ≡ true → xs ≡ ys
same_lists [] [] e = refl
same_lists [] (y ∷ ys) e = absurd (true≢false (sym e))
same_lists (x ∷ xs) [] e = absurd (true≢false (sym e))
same_lists (x ∷ xs) (y ∷ ys) e = let h = and_left (eqb x y) (same_literals xs ys) e in let t = and_right (eqb x y) (same_literals xs ys) e in ap (λ k. k ∷ xs) (eqb-true x y h) ∙ ap (λ k. y ∷ k) (same_lists xs ys t)

-- units of variables that aren't in the clause are unchanged
fact_units : (l m : ℕ) (s : Session) → l ≢ m → (with_unit_added l s).units m ≡ s.units m
fact_units l m s ne = go (s.units l) (s.units (negated l))
  where
    go : (b d : Bool) → (session_if b s (session_if d (record s { unsat = true }) (record s { units = λ k. eqb l k || s.units k }))).units m ≡ s.units m
    go true d = refl
    go false true = refl
    go false false = ap (λ b. b || s.units m) (ne_eqb l m ne)

sorted_units : (set : List ℕ) (m : ℕ) (s : Session) → is_among set m ≡ false → (with_sorted false set s).units m ≡ s.units m
sorted_units [] m s e = refl
sorted_units (l ∷ []) m s e = fact_units l m s (λ x. true≢false (sym (ap (λ b. b || false) (eq-eqb l m x)) ∙ e))
sorted_units (l ∷ k ∷ ls) m s e = refl

added_units : (s : Session) (c : List ℕ) (m : ℕ) → is_among c m ≡ false → (after (AddClause c) s).units m ≡ s.units m
added_units s c m e = go s.unsat
  where
    inner : (b : Bool) → (session_if b (knowing_literals c s) (with_sorted false (canonical c) (knowing_literals c s))).units m ≡ s.units m
    inner true = refl
    inner false = sorted_units (canonical c) m (knowing_literals c s) (canonical_among c m ∙ e)

    go : (b : Bool) → (session_if b s (with_live_clause false c (knowing_literals c s))).units m ≡ s.units m
    go true = refl
    go false = inner (is_tautology c)

none_some : {x : ℕ} {o : Option ℕ} → o ≡ None → o ≡ Some x → ⊥
none_some e f = cc

-- a variable without index is in no literal of the clause
unindexed : (n : Variables) (user c : List ℕ) (w m : ℕ) → solver_of n w ≡ None → variable m ≡ w → AllByRecursion (λ code. (l : ℕ) × IsProofLiteralOf n l code × Among l user) c → is_among c m ≡ false
unindexed n user [] w m e f h = refl
unindexed n user (x ∷ xs) w m e f h =
    ap (λ b. b || is_among xs m) (ne_eqb x m (λ q. none_some e (ap (solver_of n) (sym f ∙ ap variable (sym q) ∙ ap variable h.0.1.is ∙ coded_half h.0.1.variable_is (is_positive h.0.0)) ∙ h.0.1.indexed))) ∙ unindexed n user xs w m e f h.1

-- if the clause does not mention a variable, the variable is still in no clause after it
added_unused : (s : Session) (c : List ℕ) (w : ℕ) → mentions c w ≡ false → IsInNoNonUnitClause s w → IsInNoNonUnitClause (after (AddClause c) s) w
added_unused s c w e h r set lt = go s.unsat lt
  where
    inner : (set : List ℕ) → mentions set w ≡ false → (q : List ℕ) → 0 < (with_sorted false set (knowing_literals c s)).live r q → mentions q w ≡ false
    inner [] m q x = h r q x
    inner (l ∷ []) m q x = fact (s.units l) (s.units (negated l)) x
      where
        fact : (b d : Bool) → 0 < (session_if b (knowing_literals c s) (session_if d (record (knowing_literals c s) { unsat = true }) (record (knowing_literals c s) { units = λ k. eqb l k || s.units k }))).live r q → mentions q w ≡ false
        fact true d y = h r q y
        fact false true y = h r q y
        fact false false y = h r q y
    inner (l ∷ k ∷ ls) m q x = more_live (same_flag false r && same_literals (l ∷ k ∷ ls) q) refl x
      where
        more_live : (b : Bool) → (same_flag false r && same_literals (l ∷ k ∷ ls) q) ≡ b → 0 < plus_one_if b (s.live r q) → mentions q w ≡ false
        more_live false t y = h r q y
        more_live true t y = ap (λ z. mentions z w) (sym (same_lists (l ∷ k ∷ ls) q (and_right (same_flag false r) (same_literals (l ∷ k ∷ ls) q) t))) ∙ m

    go : (b : Bool) → 0 < (session_if b s (with_live_clause false c (knowing_literals c s))).live r set → mentions set w ≡ false
    go true x = h r set x
    go false x = tautology (is_tautology c) x
      where
        tautology : (b : Bool) → 0 < (session_if b (knowing_literals c s) (with_sorted false (canonical c) (knowing_literals c s))).live r set → mentions set w ≡ false
        tautology true y = h r set y
        tautology false y = inner (canonical c) (mentions_set c w ∙ e) set y

-- the clause does not mention a variable without index
unmentioned : (n : Variables) (user c : List ℕ) (w : ℕ) → solver_of n w ≡ None → AllByRecursion (λ code. (l : ℕ) × IsProofLiteralOf n l code × Among l user) c → mentions c w ≡ false
unmentioned n user [] w e h = refl
unmentioned n user (x ∷ xs) w e h =
    ap (λ b. b || mentions xs w) (ne_eqb (variable x) w (λ q. none_some e (ap (solver_of n) (sym q ∙ ap variable h.0.1.is ∙ coded_half h.0.1.variable_is (is_positive h.0.0)) ∙ h.0.1.indexed))) ∙ unmentioned n user xs w e h.1

module _ (n : Variables) (from : List Step) (user clause : List ℕ) (valid : NamesInvariant n from) (same : SameLiterals n user clause) where
  -- the session's data of a literal's variable
  at : (l code : ℕ) → IsProofLiteralOf n l code → (session_after from).variables (variable code) ≡ record { known = true; mode = Sample; name = Some (variable l) }
  at l code f =
      let name = valid.tidy.users.back (variable l) f.variable_is f.named in
      let alive = valid.tidy.named f.variable_is (variable l) name in
      let v : variable code ≡ f.variable_is = ap variable f.is ∙ coded_half f.variable_is (is_positive l) in
      ap (session_after from).variables v ∙ valid.said.variables f.variable_is
      ∙ ap (λ b. cond b initial_variable (record { known = true; mode = checker_mode (data_at n f.variable_is).sampling_mode; name = user_of n f.variable_is })) alive
      ∙ made (data_at n f.variable_is).sampling_mode (user_of n f.variable_is) f.sampled name
    where
      made : (m : SamplingMode) (o : Option ℕ) → m ≡ kept.Sample → o ≡ Some (variable l) → (let x : Variable = record { known = true; mode = checker_mode m; name = o } in x) ≡ record { known = true; mode = Sample; name = Some (variable l) }
      made m o e f = cc

  pub all_known : AllByRecursion (λ code. ((session_after from).variables (variable code)).known ≡ true) clause
  all_known = all_map (λ code. (l : ℕ) × IsProofLiteralOf n l code × Among l user) (λ code. ((session_after from).variables (variable code)).known ≡ true) clause (λ code x. ap (λ y. y.known) (at x.0 code x.1)) same.only

  pub may_add : IsAllowedStep (session_after from) (AddClause clause)
  may_add = inr (all_map (λ code. (l : ℕ) × IsProofLiteralOf n l code × Among l user) (λ code. ((session_after from).variables (variable code)).mode ≡ Sample) clause (λ code x. ap (λ y. y.mode) (at x.0 code x.1)) same.only)

  spells : (l code : ℕ) → IsProofLiteralOf n l code → IsLiteralOf (variable_named from) (user_literal l) code
  spells l code f = record { variable = f.variable_is; named = valid.read (variable l) ∙ f.named; is = f.is }

  spelt : (ls : List ℕ) → AllByRecursion (λ l. (code : ℕ) × IsProofLiteralOf n l code × Among code clause) ls → EachHasItsLiteral (variable_named from) (map user_literal ls) clause
  spelt [] h = tt
  spelt (l ∷ ls) h = ((h.0.0, spells l h.0.0 h.0.1, h.0.2), spelt ls h.1)

  among_named : (l : ℕ) (ls : List ℕ) → Among l ls → Among (user_literal l) (map user_literal ls)
  among_named l [] m = absurd m
  among_named l (x ∷ xs) (inl e) = inl (ap user_literal e)
  among_named l (x ∷ xs) (inr m) = inr (among_named l xs m)

  pub same_set : IsSameLiteralSet (variable_named from) (map user_literal user) clause
  same_set = (
    spelt user same.there,
    all_map (λ code. (l : ℕ) × IsProofLiteralOf n l code × Among l user) (λ code. (l : Literal) × IsLiteralOf (variable_named from) l code × Among l (map user_literal user)) clause
        (λ code x. (user_literal x.0, spells x.0 code x.1, among_named x.0 user x.2)) same.only,
  )

  pub clause_written : (to : List Step) → to ≡ AddClause clause ∷ from → ChangesScriptState n n from to (with_clause (map user_literal user)) (λ j. Adds (map user_literal user) ∷ [])
  clause_written to e = record {
    valid = record {
      tidy = valid.tidy;
      said = subst (λ steps. NamesMatchSteps n (session_after steps)) (sym e) (record {
        variables = λ w. added_variables (session_after from) clause w all_known ∙ valid.said.variables w;
        solver_names = λ w. ap (λ f. f w) (added_names (session_after from) clause) ∙ valid.said.solver_names w;
        unused = λ w f r set lt. added_unused (session_after from) clause w (unmentioned n user clause w f same.only) (λ q t m. valid.said.unused w f q t m) r set lt;
        units = λ w f b. added_units (session_after from) clause (mk_lit w b) (unindexed n user clause w (mk_lit w b) f (coded_half w b) same.only) ∙ valid.said.units w f b;
        marked = λ w. ap (λ ls. mentions ls w) (added_assumed (session_after from) clause) ∙ valid.said.marked w;
      });
      may = subst AreAllowedSteps (sym e) (valid.may, may_add);
      read = λ u. ap (λ steps. variable_named steps (u + 1)) e ∙ valid.read u;
    };
    kept = λ j live a. subst (λ steps. ReachesScriptState n from steps (with_clause (map user_literal user) j) (Adds (map user_literal user) ∷ [])) (sym e) (record {
      live = live;
      agree = record {
        judged = record {
          first_unused = a.judged.first_unused;
          no_zero = a.judged.no_zero;
          names = a.judged.names;
          once = a.judged.once;
          in_use = a.judged.in_use;
          below = a.judged.below;
          distinct = a.judged.distinct;
          identities = a.judged.identities;
          modes_count = a.judged.modes_count;
          increasing = a.judged.increasing;
          modes = a.judged.modes;
        };
        bridge = added checker_rules the_checking_sound j from live a.bridge (map user_literal user) clause accepted same_set;
      };
      trace = visible (adds same_set) no_step;
    });
  }
    where
      accepted : checker_rules.Accepts from (AddClause clause)
      accepted = (sessions_are_accepted (AddClause clause ∷ from) (valid.may, may_add)).0.1
