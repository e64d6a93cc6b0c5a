-- A session's answers, for the names of a script.
use Rattle.std.proofs.Common.{ℕ, ◌+◌, ◌*◌, ◌/◌, ◌%◌, ◌<◌, ◌≡◌, Bool, true, false, not, cond, eqb, Option, Some, List, [], ◌∷◌, map, refl, sym, ◌∙◌, ap, subst, arith, ◌⊎◌, inl, inr, unwrap_or}
use Rattle.std.proofs.lemmas.Bool.{or_cases, or_left, or_right, true≢false}
use Rattle.std.specs.List.{AllByRecursion}
use Rattle.sat_base.specs.values.Literals.{mk_lit, variable}
use Rattle.sat_base.specs.values.Clauses.{Valuation, literal_true, clause_true, AllLitsTrue, AllClausesTrue}
use Rattle.sat_base.specs.script.Script.{Literal, Among}
use Rattle.sat_base.specs.script.ScriptState.{ScriptState, identity_of, identity_lit}
use Rattle.sat_base.specs.steps.Steps.{Step, SolverVarName, UserVarName, DeleteVar, ChangeSamplingMode, AddClause, AtClause, UnitClauses, DeleteClause, ChangeHashBits, Model, Assumptions, FailedAssumptions, End}
use Rattle.sat_checker.specs.Fold.{Holds}
use Rattle.sat_checker.proofs.lemmas.meaning.Answers.{unsat_means_none, models_extend, cores_fail}
use Rattle.sat_solver.specs.session.Session.{session_after}
use Rattle.sat_solver.specs.session.LiveClauses.{with_var}
use Rattle.sat_solver.specs.session.Promises.{added}
use Rattle.sat_solver.specs.session.NamedMeaning.{AgreeOn, IsRepresentedBy, AllRepresent, NamedModelsAreRight, NamedCoresAreRight, NamedUnsatIsRight, SameLits, DeletesNoVar, NeverHiddenMeans}
use Rattle.sat_solver.proofs.lemmas.session.PromiseLemmas.{added_hold}
use Rattle.sat_solver.proofs.lemmas.session.StepLemmas.{sessions_are_accepted}

-- LISTS

-- a property of all members holds for this one
pub all_at : {A : Type 0} (P : A → Type 0) (x : A) (xs : List A) → AllByRecursion P xs → Among x xs → P x
all_at P x [] h m = absurd m
all_at P x (y ∷ ys) h m = elim m [ inl e ↦ subst P (sym e) h.0 | inr n ↦ all_at P x ys h.1 n ]

-- a property of every member holds for the whole list
pub all_from : {A : Type 0} (Q : A → Type 0) (xs : List A) → ((x : A) → Among x xs → Q x) → AllByRecursion Q xs
all_from Q [] f = tt
all_from Q (x ∷ xs) f = (f x (inl refl), all_from Q xs (λ y m. f y (inr m)))

-- a property of all images, as one of the mapped list
pub all_images : {A : Type 0} (P : ℕ → Type 0) (f : A → ℕ) (xs : List A) → AllByRecursion (λ x. P (f x)) xs → AllByRecursion P (map f xs)
all_images P f [] h = tt
all_images P f (x ∷ xs) h = (h.0, all_images P f xs h.1)

-- an element of the mapped list is the image of a member
pub image_of : {A : Type 0} (f : A → ℕ) (xs : List A) (y : ℕ) → Among y (map f xs) → (x : A) × Among x xs × (y ≡ f x)
image_of f [] y m = absurd m
image_of f (x ∷ xs) y m = elim m [ inl e ↦ (x, inl refl, e) | inr n ↦ let r = image_of f xs y n in (r.0, inr r.1, r.2) ]

-- the image of a member is in the mapped list
pub among_images : {A : Type 0} (f : A → ℕ) (x : A) (xs : List A) → Among x xs → Among (f x) (map f xs)
among_images f x [] m = absurd m
among_images f x (y ∷ ys) m = elim m [ inl e ↦ inl (ap f e) | inr n ↦ inr (among_images f x ys n) ]

-- VALUES

-- the value of a literal of this sign
literal_coded : (a : Valuation) (v : ℕ) (s : Bool) → literal_true a (mk_lit v s) ≡ cond s (a v) (not (a v))
literal_coded a v true = let e : (2 * v + 0) % 2 ≡ 0 = omega arith in let h : (2 * v + 0) / 2 ≡ v = omega arith in rw (e, h) refl
literal_coded a v false = let e : (2 * v + 1) % 2 ≡ 1 = omega arith in let h : (2 * v + 1) / 2 ≡ v = omega arith in rw (e, h) refl

-- a clause with a true literal is true
pub among_true : (a : Valuation) (x : ℕ) (c : List ℕ) → Among x c → literal_true a x ≡ true → clause_true a c ≡ true
among_true a x [] m t = absurd m
among_true a x (y ∷ ys) m t = elim m [
  | inl e ↦ or_left (literal_true a y) (clause_true a ys) (sym (ap (literal_true a) e) ∙ t)
  | inr n ↦ or_right (literal_true a y) (clause_true a ys) (among_true a x ys n t)
]

-- a true clause has a true literal
pub some_true : (a : Valuation) (c : List ℕ) → clause_true a c ≡ true → (x : ℕ) × Among x c × (literal_true a x ≡ true)
some_true a [] t = absurd (true≢false (sym t))
some_true a (y ∷ ys) t = elim (or_cases (literal_true a y) (clause_true a ys) t) [
  | inl e ↦ (y, inl refl, e)
  | inr e ↦ let r = some_true a ys e in (r.0, inr r.1, r.2)
]

-- a literal over a name has the value of the literal over its proof variable
pub read_value : (j : ScriptState) (variable_of : ℕ → Option ℕ) (a b : Valuation) → AgreeOn j variable_of a b → (l : Literal) (code : ℕ) → IsRepresentedBy j variable_of l code → literal_true a code ≡ literal_true b (identity_lit j l)
read_value j variable_of a b agree l code r =
    let e : a r.var ≡ b r.identity = agree l.name r.identity r.var r.in_use r.named in
    let o : identity_lit j l ≡ mk_lit r.identity l.positive = ap (λ x. mk_lit (unwrap_or x 0) l.positive) r.in_use in
    ap (literal_true a) r.is ∙ literal_coded a r.var l.positive ∙ ap (λ x. cond l.positive x (not x)) e ∙ sym (literal_coded b r.identity l.positive) ∙ sym (ap (literal_true b) o)

-- RIGHT ANSWERS

-- a model that may be written has a right line over names
pub named_models_are_right : NamedModelsAreRight
named_models_are_right j variable_of steps codes ask line means may names read asked =
    let s = sessions_are_accepted (Model codes ∷ steps) may in
    let m = models_extend steps codes s.0.0 s.0.1 in
    let a : Valuation = m.1.0 in
    let held : Holds steps a = m.0 a m.1.1 m.1.2 in
    let k = means.to a held in
    let each : AllByRecursion (λ l. literal_true k.0 (identity_lit j l) ≡ true) line = all_from (λ l. literal_true k.0 (identity_lit j l) ≡ true) line (λ l i. let r = all_at (λ x. (code : ℕ) × IsRepresentedBy j variable_of x code × Among code codes) l line read i in
    sym (read_value j variable_of a k.0 k.1 l r.0 r.1) ∙ all_at (λ x. literal_true a x ≡ true) r.0 codes m.1.1 r.2) in
    record {
      names = names;
      valuation = k.0;
      agrees = all_images (λ x. literal_true k.0 x ≡ true) (identity_lit j) line each;
      clauses = k.2;
      asked = all_images (λ x. literal_true k.0 x ≡ true) (identity_lit j) ask (all_from (λ l. literal_true k.0 (identity_lit j l) ≡ true) ask (λ l i. all_at (λ x. literal_true k.0 (identity_lit j x) ≡ true) l line each (all_at (λ x. Among x line) l ask asked i)));
    }

-- if all literals of a core are true, so are those over proof variables
core_true : (j : ScriptState) (variable_of : ℕ → Option ℕ) (a b : Valuation) (codes : List ℕ) (core : List Literal) → AgreeOn j variable_of a b → AllRepresent j variable_of codes core → AllLitsTrue b (map (identity_lit j) core) → AllLitsTrue a codes
core_true j variable_of a b codes core agree from t = all_from (λ x. literal_true a x ≡ true) codes (λ x i.
    let r = all_at (λ code. (l : Literal) × IsRepresentedBy j variable_of l code × Among l core) x codes from i in
    read_value j variable_of a b agree r.0 x r.1 ∙ all_at (λ y. literal_true b y ≡ true) (identity_lit j r.0) (map (identity_lit j) core) t (among_images (identity_lit j) r.0 core r.2))

-- a failed core that may be written is a right core over names
pub named_cores_are_right : NamedCoresAreRight
named_cores_are_right j variable_of steps codes hashes ask core means may order among from =
    let s = sessions_are_accepted (FailedAssumptions codes hashes ∷ steps) may in
    record {
      order = order;
      among = among;
      none = λ b t h. let k = means.back b h in cores_fail steps codes hashes k.0 s.0.0 s.0.1 k.2 (core_true j variable_of k.0 b codes core k.1 from t);
    }

-- once unsat is recorded, the empty core is right
pub named_unsat_is_right : NamedUnsatIsRight
named_unsat_is_right j variable_of steps ask means may unsat =
    let s = sessions_are_accepted steps may in
    record {
      order = tt;
      among = tt;
      none = λ b t h. let k = means.back b h in unsat_means_none steps k.0 s.0 (s.1.unsat ∙ unsat) k.2;
    }

-- IF NO NAME WAS EVER HIDDEN

-- if no variable was deleted, every valuation that the steps admit satisfies all added clauses
pub holds_added : (steps : List Step) (a : Valuation) → AllByRecursion DeletesNoVar steps → Holds steps a → AllClausesTrue a (added steps)
holds_added [] a k h = tt
holds_added (AddClause clause ∷ earlier) a k h = (h.1, holds_added earlier a k.1 h.0)
holds_added (DeleteVar v ∷ earlier) a k h = absurd k.0
holds_added (SolverVarName v name ∷ earlier) a k h = holds_added earlier a k.1 h
holds_added (UserVarName v name ∷ earlier) a k h = holds_added earlier a k.1 h
holds_added (ChangeSamplingMode v sample ∷ earlier) a k h = holds_added earlier a k.1 h
holds_added (AtClause r clause hashes ∷ earlier) a k h = holds_added earlier a k.1 h
holds_added (UnitClauses us ∷ earlier) a k h = holds_added earlier a k.1 h
holds_added (DeleteClause clause proof ∷ earlier) a k h = holds_added earlier a k.1 h
holds_added (ChangeHashBits bits ∷ earlier) a k h = holds_added earlier a k.1 h
holds_added (Model ls ∷ earlier) a k h = holds_added earlier a k.1 h
holds_added (Assumptions ls ∷ earlier) a k h = holds_added earlier a k.1 h
holds_added (FailedAssumptions core hashes ∷ earlier) a k h = holds_added earlier a k.1 h
holds_added (End ∷ earlier) a k h = holds_added earlier a k.1 h

-- a literal and its image have the same value
mapped_value : (global : ℕ → ℕ) (a b : Valuation) (l : ℕ) → a (global (variable l)) ≡ b (variable l) → literal_true a (with_var global l) ≡ literal_true b l
mapped_value global a b l e =
    let half : (2 * global (l / 2) + l % 2) / 2 ≡ global (l / 2) = omega arith in
    let sign : (2 * global (l / 2) + l % 2) % 2 ≡ l % 2 = omega arith in
    let f : a (variable (with_var global l)) ≡ b (variable l) = ap a half ∙ e in
    ap (λ n. cond (eqb n 0) (a (variable (with_var global l))) (not (a (variable (with_var global l))))) sign ∙ ap (λ x. cond (eqb (l % 2) 0) x (not x)) f

-- if a clause over proof variables is true, so is the one over identities
clause_to : (global : ℕ → ℕ) (a : Valuation) (c d : List ℕ) → AllByRecursion (λ l. Among l (map (with_var global) d)) c → clause_true a c ≡ true → clause_true (λ i. a (global i)) d ≡ true
clause_to global a c d within t =
    let x = some_true a c t in
    let r = image_of (with_var global) d x.0 (all_at (λ l. Among l (map (with_var global) d)) x.0 c within x.1) in
    among_true (λ i. a (global i)) r.0 d r.1 (sym (mapped_value global a (λ i. a (global i)) r.0 refl) ∙ sym (ap (literal_true a) r.2) ∙ x.2)

-- if a clause over identities is true, so is the one over proof variables
clause_back : (global : ℕ → ℕ) (a b : Valuation) (c d : List ℕ) → AllByRecursion (λ l. a (global (variable l)) ≡ b (variable l)) d → AllByRecursion (λ l. Among l c) (map (with_var global) d) → clause_true b d ≡ true → clause_true a c ≡ true
clause_back global a b c d same within t =
    let x = some_true b d t in
    among_true a (with_var global x.0) c (all_at (λ l. Among l c) (with_var global x.0) (map (with_var global) d) within (among_images (with_var global) x.0 d x.1))
    (mapped_value global a b x.0 (all_at (λ l. a (global (variable l)) ≡ b (variable l)) x.0 d same x.1) ∙ x.2)

-- if no name was ever hidden, steps and accepted clauses admit the same valuations
pub none_hidden_means : NeverHiddenMeans
none_hidden_means j variable_of steps may n = record {
  to = λ a h. ((λ i. a (n.global i)), agree a, satisfied a h n.all_added);
  back = λ b h. ((λ v. b (n.identity v)), agree_back b, added_hold steps (λ v. b (n.identity v)) (all_from (λ c. clause_true (λ v. b (n.identity v)) c ≡ true) (added steps) (λ c i. put b h c i)));
}
  where
    same_var : (name i v : ℕ) → identity_of j name ≡ Some i → variable_of name ≡ Some v → v ≡ n.global i
    same_var name i v e f = let g = n.named name i e in cc

    agree : (a : Valuation) → AgreeOn j variable_of a (λ i. a (n.global i))
    agree a name i v e f = ap a (same_var name i v e f)

    agree_back : (b : Valuation) → AgreeOn j variable_of (λ v. b (n.identity v)) b
    agree_back b name i v e f = ap (λ x. b (n.identity x)) (same_var name i v e f) ∙ ap b (n.back i (n.below name i e))

    satisfied : (a : Valuation) → Holds steps a → ((session_after steps).unsat ≡ true) ⊎ AllByRecursion (λ d. (c : List ℕ) × Among c (added steps) × SameLits c (map (with_var n.global) d)) j.clauses → AllClausesTrue (λ i. a (n.global i)) j.clauses
    satisfied a h (inl u) = let s = sessions_are_accepted steps may in absurd (unsat_means_none steps a s.0 (s.1.unsat ∙ u) h)
    satisfied a h (inr all) = all_from (λ d. clause_true (λ i. a (n.global i)) d ≡ true) j.clauses (λ d m.
        let r = all_at (λ d. (c : List ℕ) × Among c (added steps) × SameLits c (map (with_var n.global) d)) d j.clauses all m in
        clause_to n.global a r.0 d r.2.0 (all_at (λ c. clause_true a c ≡ true) r.0 (added steps) (holds_added steps a n.kept h) r.1))

    put : (b : Valuation) → AllClausesTrue b j.clauses → (c : List ℕ) → Among c (added steps) → clause_true (λ v. b (n.identity v)) c ≡ true
    put b h c m =
        let r = all_at (λ c. (d : List ℕ) × Among d j.clauses × SameLits c (map (with_var n.global) d)) c (added steps) n.added_from m in
        clause_back n.global (λ v. b (n.identity v)) b c r.0
        (all_from (λ l. b (n.identity (n.global (variable l))) ≡ b (variable l)) r.0 (λ l i. ap b (n.back (variable l) (all_at (λ l. variable l < j.identity_count) l r.0 (all_at (AllByRecursion (λ l. variable l < j.identity_count)) r.0 j.clauses n.clauses_below r.1) i))))
        r.2.1 (all_at (λ d. clause_true b d ≡ true) r.0 j.clauses h r.1)
