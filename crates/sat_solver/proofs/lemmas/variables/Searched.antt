-- Steps of the search leave the names unchanged.
use Rattle.std.proofs.Common.{ℕ, ◌+◌, ◌-◌, ◌<◌, ◌≡◌, ◌≢◌, Bool, true, false, ◌||◌, ◌&&◌, eqb, List, [], ◌∷◌, map, Option, Some, None, refl, sym, ◌∙◌, ap, arith}
use Rattle.std.proofs.lemmas.Bool.{eqb-true, eq-eqb, ne_eqb, true≢false}
use Rattle.std.specs.List.{AllByRecursion}
use Rattle.sat_base.specs.values.Literals.{variable, mk_lit, negated}
use Rattle.sat_base.specs.steps.Steps.{Step, AtClause, UnitClauses, DeleteClause, ChangeHashBits, Model, FailedAssumptions, End, Redundant, Simplified, Satisfied}
use Rattle.sat_checker.specs.LiteralSets.{is_among, is_tautology, canonical, mentions, same_literals}
use Rattle.sat_checker.proofs.lemmas.sets.Canonical.{canonical_among}
use Rattle.sat_checker.proofs.lemmas.state.Forgetting.{mentions_set}
use Rattle.sat_checker.specs.Contents.{plus_one_if, minus_one_if, same_flag}
use Rattle.sat_solver.specs.session.Session.{Session, session_after, after, with_unit_added}
use Rattle.sat_solver.proofs.lemmas.session.Changes.{with_facts, with_sorted, with_live, without_live, knowing_literals, with_live_clause, session_if}
use Rattle.sat_solver.proofs.lemmas.session.StepLemmas.{sessions_are_accepted}
use Rattle.sat_solver.specs.variables.Variables.{data_at, solver_of, VariablesInvariant, NamesMatchSteps, IsInNoNonUnitClause}
use Rattle.sat_checker.specs.matching.Bridge.{IsBridge}
use Rattle.sat_checker.specs.matching.Checking.{variable_named}
use Rattle.sat_checker.specs.matching.ProofChecking.{checker_rules}
use Rattle.sat_solver.specs.variables.Searching.{AreIndexed, IsSearchStepOver, SearchesPreserveNames, SearchesAgree}
use Rattle.sat_solver.specs.declared.variables.Variables.{Variables}
use Rattle.sat_checker.proofs.lemmas.matching.Bridge.{nothing_new}
use Rattle.sat_checker.proofs.lemmas.matching.CheckerIsSound.{the_checking_sound}
use Rattle.sat_base.proofs.lemmas.script.LiteralValues.{coded_half, all_map}
use Rattle.sat_solver.proofs.lemmas.variables.ModeChanges.{known_at}
use Rattle.sat_solver.proofs.lemmas.variables.ClauseWritten.{known_same, same_lists, and_right}

none_some : {x : ℕ} {o : Option ℕ} → o ≡ None → o ≡ Some x → ⊥
none_some e f = cc

-- What a step over variables with indices leaves unchanged: everything but clauses and units over these.
pub record Leaves (n : Variables) (s t : Session) : Type 0 where
  variables : (v : ℕ) → t.variables v ≡ s.variables v
  solver_names : t.solver_names ≡ s.solver_names
  assumed : t.assumed ≡ s.assumed
  units : (v : ℕ) → solver_of n v ≡ None → (b : Bool) → t.units (mk_lit v b) ≡ s.units (mk_lit v b)
  unused : (v : ℕ) → solver_of n v ≡ None → IsInNoNonUnitClause s v → IsInNoNonUnitClause t v

leaves_same : (n : Variables) (s : Session) → Leaves n s s
leaves_same n s = record { variables = λ v. refl; solver_names = refl; assumed = refl; units = λ v e b. refl; unused = λ v e h. h }

leaves_both : (n : Variables) (a b c : Session) → Leaves n a b → Leaves n b c → Leaves n a c
leaves_both n a b c x y = record {
  variables = λ v. y.variables v ∙ x.variables v;
  solver_names = y.solver_names ∙ x.solver_names;
  assumed = y.assumed ∙ x.assumed;
  units = λ v e d. y.units v e d ∙ x.units v e d;
  unused = λ v e h. y.unused v e (x.unused v e h);
}

-- a literal whose variable has an index differs from one whose variable has none
differs : (n : Variables) (l v x : ℕ) (b : Bool) → solver_of n (variable l) ≡ Some x → solver_of n v ≡ None → l ≢ mk_lit v b
differs n l v x b e f q = none_some (ap (solver_of n) (ap variable q ∙ coded_half v b) ∙ f) e

leaves_fact : (n : Variables) (l x : ℕ) (s : Session) → solver_of n (variable l) ≡ Some x → Leaves n s (with_unit_added l s)
leaves_fact n l x s e = go (s.units l) (s.units (negated l))
  where
    go : (b d : Bool) → Leaves n s (session_if b s (session_if d (record s { unsat = true }) (record s { units = λ m. eqb l m || s.units m })))
    go true d = leaves_same n s
    go false true = record { variables = λ v. refl; solver_names = refl; assumed = refl; units = λ v f b. refl; unused = λ v f h. h }
    go false false = record { variables = λ v. refl; solver_names = refl; assumed = refl; units = λ v f b. ap (λ q. q || s.units (mk_lit v b)) (ne_eqb l (mk_lit v b) (differs n l v x b e f)); unused = λ v f h. h }

leaves_facts : (n : Variables) (ls : List ℕ) (s : Session) → AreIndexed n ls → Leaves n s (with_facts ls s)
leaves_facts n [] s h = leaves_same n s
leaves_facts n (l ∷ ls) s h = leaves_both n s (with_unit_added l s) (with_facts ls (with_unit_added l s)) (leaves_fact n l h.0.0 s h.0.1) (leaves_facts n ls (with_unit_added l s) h.1)

-- a clause over variables with indices does not mention one without
unmentioned : (n : Variables) (c : List ℕ) (v : ℕ) → solver_of n v ≡ None → AreIndexed n c → mentions c v ≡ false
unmentioned n [] v e h = refl
unmentioned n (x ∷ xs) v e h = ap (λ b. b || mentions xs v) (ne_eqb (variable x) v (λ q. none_some (ap (solver_of n) q ∙ e) h.0.1)) ∙ unmentioned n xs v e h.1

leaves_live : (n : Variables) (r : Bool) (set : List ℕ) (s : Session) → ((v : ℕ) → solver_of n v ≡ None → mentions set v ≡ false) → Leaves n s (with_live r set s)
leaves_live n r set s none = record {
  variables = λ v. refl;
  solver_names = refl;
  assumed = refl;
  units = λ v e b. refl;
  unused = λ v e h q other lt. go v e h q other (same_flag r q && same_literals set other) refl lt;
}
  where
    go : (v : ℕ) → solver_of n v ≡ None → IsInNoNonUnitClause s v → (q : Bool) (other : List ℕ) (b : Bool) → (same_flag r q && same_literals set other) ≡ b → 0 < plus_one_if b (s.live q other) → mentions other v ≡ false
    go v e h q other false t lt = h q other lt
    go v e h q other true t lt = ap (λ z. mentions z v) (sym (same_lists set other (and_right (same_flag r q) (same_literals set other) t))) ∙ none v e

leaves_sorted : (n : Variables) (r : Bool) (set c : List ℕ) (s : Session) → AreIndexed n c → set ≡ canonical c → Leaves n s (with_sorted r set s)
leaves_sorted n r [] c s h e = record { variables = λ v. refl; solver_names = refl; assumed = refl; units = λ v f b. refl; unused = λ v f k. k }
leaves_sorted n r (l ∷ []) c s h e = let i = has c h (sym (canonical_among c l) ∙ ap (λ ls. is_among ls l) (sym e) ∙ ap (λ b. b || false) (eq-eqb l l refl)) in leaves_fact n l i.0 s i.1
  where
    has : (xs : List ℕ) → AreIndexed n xs → is_among xs l ≡ true → (x : ℕ) × (solver_of n (variable l) ≡ Some x)
    has [] k m = absurd (true≢false (sym m))
    has (x ∷ xs) k m = at (has xs k.1) (eqb x l) refl m
      where
        at : (is_among xs l ≡ true → (x : ℕ) × (solver_of n (variable l) ≡ Some x)) → (b : Bool) → eqb x l ≡ b → (b || is_among xs l) ≡ true → (x : ℕ) × (solver_of n (variable l) ≡ Some x)
        at ih true t m = (k.0.0, ap (λ y. solver_of n (variable y)) (sym (eqb-true x l t)) ∙ k.0.1)
        at ih false t m = ih m
leaves_sorted n r (l ∷ m ∷ ls) c s h e = leaves_live n r (l ∷ m ∷ ls) s (λ v f. ap (λ z. mentions z v) e ∙ mentions_set c v ∙ unmentioned n c v f h)

leaves_clause : (n : Variables) (r : Bool) (c : List ℕ) (s : Session) → AreIndexed n c → Leaves n s (with_live_clause r c s)
leaves_clause n r c s h = go (is_tautology c)
  where
    go : (b : Bool) → Leaves n s (session_if b s (with_sorted r (canonical c) s))
    go true = leaves_same n s
    go false = leaves_sorted n r (canonical c) c s h refl

leaves_less : (n : Variables) (r : Bool) (set : List ℕ) (s : Session) → Leaves n s (without_live r set s)
leaves_less n r set s = record {
  variables = λ v. refl;
  solver_names = refl;
  assumed = refl;
  units = λ v e b. refl;
  unused = λ v e h q other lt. h q other (fewer (same_flag r q && same_literals set other) (s.live q other) lt);
}
  where
    fewer : (b : Bool) (m : ℕ) → 0 < minus_one_if b m → 0 < m
    fewer true m lt = let z : 0 < m - 1 = lt in omega arith
    fewer false m lt = lt

-- marking variables as known changes nothing if they are known already
leaves_known : (n : Variables) (ls : List ℕ) (s : Session) → AllByRecursion (λ l. (s.variables (variable l)).known ≡ true) ls → Leaves n s (knowing_literals ls s)
leaves_known n ls s h = record { variables = λ v. known_same s ls v h; solver_names = refl; assumed = refl; units = λ v e b. refl; unused = λ v e k. k }

known_indexed : (n : Variables) (ls : List ℕ) (s : Session) → VariablesInvariant n → NamesMatchSteps n s → AreIndexed n ls → AllByRecursion (λ l. (s.variables (variable l)).known ≡ true) ls
known_indexed n ls s tidy said = all_map (λ l. (x : ℕ) × (solver_of n (variable l) ≡ Some x)) (λ l. (s.variables (variable l)).known ≡ true) ls (λ l i. known_at n (variable l) s said (tidy.indexed (variable l) i.0 i.1))

step_leaves : (n : Variables) (step : Step) (s : Session) → VariablesInvariant n → NamesMatchSteps n s → IsSearchStepOver n step → Leaves n s (after step s)
step_leaves n (AtClause r c hs) s tidy said h =
    let l = leaves_both n s (knowing_literals c s) (with_live_clause r c (knowing_literals c s)) (leaves_known n c s (known_indexed n c s tidy said h)) (leaves_clause n r c (knowing_literals c s) h) in
    record { variables = l.variables; solver_names = l.solver_names; assumed = l.assumed; units = l.units; unused = l.unused }
step_leaves n (UnitClauses us) s tidy said h =
    let l = leaves_both n s (knowing_literals (map (λ u. u.0) us) s) (with_facts (map (λ u. u.0) us) (knowing_literals (map (λ u. u.0) us) s)) (leaves_known n (map (λ u. u.0) us) s (known_indexed n (map (λ u. u.0) us) s tidy said h)) (leaves_facts n (map (λ u. u.0) us) (knowing_literals (map (λ u. u.0) us) s) h) in
    record { variables = l.variables; solver_names = l.solver_names; assumed = l.assumed; units = l.units; unused = l.unused }
step_leaves n (DeleteClause c Redundant) s tidy said h = let l = leaves_less n true (canonical c) s in record { variables = l.variables; solver_names = l.solver_names; assumed = l.assumed; units = l.units; unused = l.unused }
step_leaves n (DeleteClause c Simplified) s tidy said h = let l = leaves_less n false (canonical c) s in record { variables = l.variables; solver_names = l.solver_names; assumed = l.assumed; units = l.units; unused = l.unused }
step_leaves n (DeleteClause c Satisfied) s tidy said h = let l = leaves_less n false (canonical c) s in record { variables = l.variables; solver_names = l.solver_names; assumed = l.assumed; units = l.units; unused = l.unused }
step_leaves n (ChangeHashBits bits) s tidy said h = record { variables = λ v. refl; solver_names = refl; assumed = refl; units = λ v e b. refl; unused = λ v e k. k }
step_leaves n (Model ls) s tidy said h =
    let l = leaves_known n ls s (all_map (λ l. (data_at n (variable l)).deleted ≡ false) (λ l. (s.variables (variable l)).known ≡ true) ls (λ l i. known_at n (variable l) s said i) h) in
    record { variables = l.variables; solver_names = l.solver_names; assumed = l.assumed; units = l.units; unused = l.unused }
step_leaves n (FailedAssumptions core hashes) s tidy said h = record { variables = λ v. refl; solver_names = refl; assumed = refl; units = λ v e b. refl; unused = λ v e k. k }
step_leaves n End s tidy said h = record { variables = λ v. refl; solver_names = refl; assumed = refl; units = λ v e b. refl; unused = λ v e k. k }
step_leaves n _ s tidy said h = absurd h

said_kept : (n : Variables) (s t : Session) → Leaves n s t → NamesMatchSteps n s → NamesMatchSteps n t
said_kept n s t l said = record {
  variables = λ v. l.variables v ∙ said.variables v;
  solver_names = λ v. ap (λ f. f v) l.solver_names ∙ said.solver_names v;
  units = λ v e b. l.units v e b ∙ said.units v e b;
  unused = λ v e. l.unused v e (said.unused v e);
  marked = λ v. ap (λ ls. mentions ls v) l.assumed ∙ said.marked v;
}

read_same : (n : Variables) (step : Step) (steps : List Step) → IsSearchStepOver n step → (name : ℕ) → variable_named (step ∷ steps) name ≡ variable_named steps name
read_same n (AtClause r c hs) steps h name = refl
read_same n (UnitClauses us) steps h name = refl
read_same n (DeleteClause c proof) steps h name = refl
read_same n (ChangeHashBits bits) steps h name = refl
read_same n (Model ls) steps h name = refl
read_same n (FailedAssumptions core hashes) steps h name = refl
read_same n End steps h name = refl
read_same n _ steps h name = absurd h

pub searches_preserve_names : SearchesPreserveNames
searches_preserve_names n steps step valid may h = record {
  tidy = valid.tidy;
  said = said_kept n (session_after steps) (session_after (step ∷ steps)) (step_leaves n step (session_after steps) valid.tidy valid.said h) valid.said;
  may = (valid.may, may);
  read = λ u. read_same n step steps h (u + 1) ∙ valid.read u;
}

pub searches_agree : SearchesAgree
searches_agree n steps step valid may h j live a = record { judged = a.judged; bridge = go step h accepted }
  where
    accepted : checker_rules.Accepts steps step
    accepted = (sessions_are_accepted (step ∷ steps) (valid.may, may)).0.1

    go : (step : Step) → IsSearchStepOver n step → checker_rules.Accepts steps step → IsBridge checker_rules j (step ∷ steps) live
    go (AtClause r c hs) h acc = nothing_new checker_rules the_checking_sound j steps live a.bridge (AtClause r c hs) acc (λ v e. cc) (λ m. refl) (λ b k. k) (λ b k. k)
    go (UnitClauses us) h acc = nothing_new checker_rules the_checking_sound j steps live a.bridge (UnitClauses us) acc (λ v e. cc) (λ m. refl) (λ b k. k) (λ b k. k)
    go (DeleteClause c proof) h acc = nothing_new checker_rules the_checking_sound j steps live a.bridge (DeleteClause c proof) acc (λ v e. cc) (λ m. refl) (λ b k. k) (λ b k. k)
    go (ChangeHashBits bits) h acc = nothing_new checker_rules the_checking_sound j steps live a.bridge (ChangeHashBits bits) acc (λ v e. cc) (λ m. refl) (λ b k. k) (λ b k. k)
    go (Model ls) h acc = nothing_new checker_rules the_checking_sound j steps live a.bridge (Model ls) acc (λ v e. cc) (λ m. refl) (λ b k. k) (λ b k. k)
    go (FailedAssumptions core hashes) h acc = nothing_new checker_rules the_checking_sound j steps live a.bridge (FailedAssumptions core hashes) acc (λ v e. cc) (λ m. refl) (λ b k. k) (λ b k. k)
    go End h acc = nothing_new checker_rules the_checking_sound j steps live a.bridge End acc (λ v e. cc) (λ m. refl) (λ b k. k) (λ b k. k)
    go _ h acc = absurd h
