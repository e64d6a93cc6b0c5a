-- The line of a model, from names, steps and search.
use Rattle.std.proofs.Common.{ℕ, zero, suc, ◌+◌, ◌<◌, ◌≡◌, ◌∙◌, Bool, true, Option, None, Some, List, [], ◌∷◌, ◌++◌, map, refl, sym, ap, subst, arith, inl, inr}
use Rattle.std.proofs.lemmas.Bool.{cases_eq}
use Rattle.std.proofs.lemmas.Option.{none-some}
use Rattle.std.proofs.lemmas.List.{append-nil}
use Rattle.std.specs.List.{AllByRecursion}
use Rattle.sat_base.specs.values.Literals.{variable, mk_lit}
use Rattle.sat_base.specs.values.Clauses.{Valuation, AllLitsTrue, literal_true}
use Rattle.sat_base.specs.script.Script.{Literal, names_of, Among}
use Rattle.sat_base.specs.script.ScriptState.{ScriptState, identity_of, identity_lit, IsRightModel}
use Rattle.sat_base.specs.script.ScriptStateLaws.{AreIncreasing}
use Rattle.sat_base.proofs.lemmas.script.NamesListed.{lists_in_use}
use Rattle.sat_base.specs.steps.Steps.{Step, Model}
use Rattle.sat_checker.specs.Fold.{Holds}
use Rattle.sat_solver.specs.session.Session.{IsAllowedStep, session_after}
use Rattle.sat_solver.specs.session.NamedMeaning.{MeansAcceptedClauses, AgreeOn, IsRepresentedBy, AllRepresentedIn}
use Rattle.sat_solver.proofs.lemmas.session.NamedLemmas.{all_at, all_from, among_images, read_value, named_models_are_right}
use Rattle.sat_solver.specs.load.Literals.{user_literal}
use Rattle.sat_checker.specs.matching.Bridge.{LiveVariables, AgreesOnLive}
use Rattle.sat_solver.specs.variables.Live.{given_of}
use Rattle.sat_solver.specs.variables.Variables.{global_of, names_used, variables_used}
use Rattle.sat_solver.specs.Models.{value_in, model_to, name_literal, named_to}
use Rattle.sat_checker.specs.matching.Checking.{variable_named}
use Rattle.sat_solver.specs.variables.Calls.{NamesInvariant, NamesAgree}
use Rattle.sat_solver.specs.declared.variables.Variables.{Variables}
use Rattle.sat_solver.proofs.lemmas.variables.MapLemmas.{some_within}
use Rattle.sat_solver.proofs.lemmas.variables.TakenNames.{test_among}
use Rattle.sat_solver.proofs.lemmas.variables.ModelSteps.{named_zero, named_next}
use Rattle.sat_checker.proofs.lemmas.matching.Bridge.{pulled, pulled_agrees}
use Rattle.sat_solver.proofs.lemmas.variables.ModeChanges.{live_within}
use Rattle.sat_parts.proofs.lemmas.parts.ValueLemmas.{coded_variable}
use Rattle.sat_solver.specs.solver.Lines.{IsCoreOf}
use Rattle.sat_checker.specs.matching.Expected.{IsLiteralOf, IsSameLiteralSet}
use Rattle.sat_solver.proofs.lemmas.solver.ShownLemmas.{coded_sign, model_all}

-- MEANING

agree_at : (live : LiveVariables) (a b : Valuation) (v i : ℕ) → AgreesOnLive live a b → Among (v, i) live → a v ≡ b i
agree_at live a b v i h m = all_pairs live h m
  where
    all_pairs : (ps : LiveVariables) → AgreesOnLive ps a b → Among (v, i) ps → a v ≡ b i
    all_pairs [] h m = absurd m
    all_pairs (p ∷ ps) h m = elim m [
      | inl e ↦ ap (λ (q : ℕ × ℕ). a q.0) e ∙ h.0 ∙ sym (ap (λ (q : ℕ × ℕ). b q.1) e)
      | inr k ↦ all_pairs ps h.1 k
    ]

some_same : (x y : ℕ) (o : Option ℕ) → o ≡ Some x → o ≡ Some y → x ≡ y
some_same x y o e f = (let g : Some x ≡ Some y = sym e ∙ f in cc)

module _ (n : Variables) (steps : List Step) (j : ScriptState) (live : LiveVariables) (agree : NamesAgree n steps j live) where
  agree_on : (a b : Valuation) → AgreesOnLive live a b → AgreeOn j (variable_named steps) a b
  agree_on a b h name i v use_ named =
      let k = agree.bridge.named name v named in
      agree_at live a b v i h (subst (λ z. Among (v, z) live) (some_same k.0 i (identity_of j name) k.1 use_) k.2)

  pub means_of : MeansAcceptedClauses j (variable_named steps) steps
  means_of = record {
    to = λ a h. let m = agree.bridge.to a h in (m.0, agree_on a m.0 m.1, m.2);
    back = λ b h. let g = pulled_agrees live b agree.bridge.once in (pulled live b, agree_on (pulled live b) b g, agree.bridge.back (pulled live b) (b, g, h));
  }

  -- the proof literal of a name in use
  pub reads_at : (u v : ℕ) (b : Bool) → NamesInvariant n steps → global_of n u ≡ Some v → IsRepresentedBy j (variable_named steps) (user_literal (mk_lit u b)) (mk_lit v b)
  reads_at u v b valid e =
      let name : variable_named steps (variable (mk_lit u b) + 1) ≡ Some v = ap (λ w. variable_named steps (w + 1)) (coded_variable u b) ∙ valid.read u ∙ e in
      let k = agree.bridge.named (variable (mk_lit u b) + 1) v name in
      record { identity = k.0; in_use = k.1; var = v; named = name; is = ap (mk_lit v) (sym (coded_sign u b)) }

-- LINES

module _ (n : Variables) (values : List (Option Bool)) where
  named_grown : (count : ℕ) → named_to n values (suc count) ≡ named_to n values count ++ name_literal n values count (global_of n count)
  named_grown count = (let q : suc count ≡ count + 1 = omega arith in ap (named_to n values) q) ∙ sym (named_next n values count (named_to n values count) (named_to n values count ++ name_literal n values count (global_of n count)) refl refl)

  all_both : (P : ℕ → Type 0) (xs ys : List ℕ) → AllByRecursion P xs → AllByRecursion P ys → AllByRecursion P (xs ++ ys)
  all_both P [] ys h k = k
  all_both P (x ∷ xs) ys h k = (h.0, all_both P xs ys h.1 k)

  among_left : (x : ℕ) (xs ys : List ℕ) → Among x xs → Among x (xs ++ ys)
  among_left x [] ys m = absurd m
  among_left x (y ∷ xs) ys m = elim m [ inl e ↦ inl e | inr k ↦ inr (among_left x xs ys k) ]

  among_right : (x : ℕ) (xs ys : List ℕ) → Among x ys → Among x (xs ++ ys)
  among_right x [] ys m = m
  among_right x (y ∷ xs) ys m = inr (among_right x xs ys m)

  lits_all : (P : ℕ → Type 0) (u : ℕ) (o : Option ℕ) → ((v : ℕ) → o ≡ Some v → P (mk_lit u (value_in n values v))) → AllByRecursion P (name_literal n values u o)
  lits_all P u None f = tt
  lits_all P u (Some v) f = (f v refl, tt)

  -- a property of the literal of every name in use holds for the whole line
  pub named_each : (P : ℕ → Type 0) (count : ℕ) → ((u v : ℕ) → u < count → global_of n u ≡ Some v → P (mk_lit u (value_in n values v))) → AllByRecursion P (named_to n values count)
  named_each P zero f = subst (AllByRecursion P) (sym (named_zero n values)) tt
  named_each P (suc count) f = subst (AllByRecursion P) (sym (named_grown count))
      (all_both P (named_to n values count) (name_literal n values count (global_of n count))
      (named_each P count (λ u v lt e. f u v (omega arith) e))
      (lits_all P count (global_of n count) (λ v e. f count v (omega arith) e)))

  pub named_has : (count u v : ℕ) → u < count → global_of n u ≡ Some v → Among (mk_lit u (value_in n values v)) (named_to n values count)
  named_has zero u v lt e = absurd (omega arith)
  named_has (suc count) u v lt e = subst (Among (mk_lit u (value_in n values v))) (sym (named_grown count)) (elim (cases_eq u count) [
    | inl same ↦ among_right (mk_lit u (value_in n values v)) (named_to n values count) (name_literal n values count (global_of n count))
        (subst (λ o. Among (mk_lit u (value_in n values v)) (name_literal n values count o)) (sym (sym (ap (global_of n) same) ∙ e)) (inl (ap (λ w. mk_lit w (value_in n values v)) same)))
    | inr k ↦ among_left (mk_lit u (value_in n values v)) (named_to n values count) (name_literal n values count (global_of n count)) (named_has count u v (omega arith) e)
  ])

  rise_more : (xs : List ℕ) (y : ℕ) → AreIncreasing xs → AllByRecursion (λ x. x < y) xs → AreIncreasing (xs ++ y ∷ [])
  rise_more [] y h k = (tt, tt)
  rise_more (x ∷ xs) y h k = (all_both (λ z. x < z) xs (y ∷ []) h.0 (k.0, tt), rise_more xs y h.1 k.1)

  names_in_both : (xs ys : List ℕ) → names_of (map user_literal (xs ++ ys)) ≡ names_of (map user_literal xs) ++ names_of (map user_literal ys)
  names_in_both [] ys = refl
  names_in_both (x ∷ xs) ys = ap (λ zs. (variable x + 1) ∷ zs) (names_in_both xs ys)

  names_below : (count : ℕ) (xs : List ℕ) → AllByRecursion (λ l. variable l < count) xs → AllByRecursion (λ x. x < count + 1) (names_of (map user_literal xs))
  names_below count [] h = tt
  names_below count (x ∷ xs) h = ((let b = h.0 in omega arith), names_below count xs h.1)

  below : (count : ℕ) → AllByRecursion (λ l. variable l < count) (named_to n values count)
  below count = named_each (λ l. variable l < count) count (λ u v lt e. (let s = coded_variable u (value_in n values v) in omega arith))

  rise_lits : (xs : List ℕ) (u : ℕ) (o : Option ℕ) → AreIncreasing (names_of (map user_literal xs)) → AllByRecursion (λ x. x < u + 1) (names_of (map user_literal xs)) → AreIncreasing (names_of (map user_literal (xs ++ name_literal n values u o)))
  rise_lits xs u None h k = subst (λ ys. AreIncreasing (names_of (map user_literal ys))) (sym (append-nil xs)) h
  rise_lits xs u (Some v) h k = subst AreIncreasing (sym (names_in_both xs (mk_lit u (value_in n values v) ∷ [])))
      (subst (λ w. AreIncreasing (names_of (map user_literal xs) ++ (w + 1) ∷ [])) (sym (coded_variable u (value_in n values v))) (rise_more (names_of (map user_literal xs)) (u + 1) h k))

  pub line_rises : (count : ℕ) → AreIncreasing (names_of (map user_literal (named_to n values count)))
  line_rises zero = subst (λ ys. AreIncreasing (names_of (map user_literal ys))) (sym (named_zero n values)) tt
  line_rises (suc count) = subst (λ ys. AreIncreasing (names_of (map user_literal ys))) (sym (named_grown count))
      (rise_lits (named_to n values count) count (global_of n count) (line_rises count) (names_below count (named_to n values count) (below count)))

names_each : (P : ℕ → Type 0) (ls : List ℕ) → AllByRecursion (λ l. P (variable l + 1)) ls → AllByRecursion P (names_of (map user_literal ls))
names_each P [] h = tt
names_each P (l ∷ ls) h = (h.0, names_each P ls h.1)

pub mapped_each : (P : Literal → Type 0) (ls : List ℕ) → AllByRecursion (λ l. P (user_literal l)) ls → AllByRecursion P (map user_literal ls)
mapped_each P [] h = tt
mapped_each P (l ∷ ls) h = (h.0, mapped_each P ls h.1)

named_among : (l : ℕ) (ls : List ℕ) → Among l ls → Among (variable l + 1) (names_of (map user_literal ls))
named_among l [] m = absurd m
named_among l (x ∷ xs) m = elim m [ inl e ↦ inl (ap (λ y. variable y + 1) e) | inr k ↦ inr (named_among l xs k) ]

pub literal_among : (l : ℕ) (ls : List ℕ) → Among l ls → Among (user_literal l) (map user_literal ls)
literal_among l [] m = absurd m
literal_among l (x ∷ xs) m = elim m [ inl e ↦ inl (ap user_literal e) | inr k ↦ inr (literal_among l xs k) ]

module _ (n : Variables) (steps : List Step) (values : List (Option Bool)) (valid : NamesInvariant n steps) where
  abbrev pub line : List ℕ
  line = named_to n values (names_used n)

  module _ (j : ScriptState) (live : LiveVariables) (agree : NamesAgree n steps j live) where
    lists_all : (name i : ℕ) → identity_of j name ≡ Some i → Among name (names_of (map user_literal line))
    lists_all zero i e = absurd (none-some i (sym agree.judged.no_zero ∙ e))
    lists_all (suc u) i e = named u i (let q : suc u ≡ u + 1 = omega arith in q) (global_of n u) refl (sym (agree.judged.names u) ∙ (let q : u + 1 ≡ suc u = omega arith in ap (identity_of j) q) ∙ e)
      where
        named : (u i : ℕ) → suc u ≡ u + 1 → (o : Option ℕ) → global_of n u ≡ o → given_of live (global_of n u) ≡ Some i → Among (suc u) (names_of (map user_literal line))
        named u i q None g e = absurd (none-some i (sym (ap (given_of live) g) ∙ e))
        named u i q (Some v) g e = subst (λ name. Among name (names_of (map user_literal line))) (ap (λ w. w + 1) (coded_variable u (value_in n values v)) ∙ sym q)
            (named_among (mk_lit u (value_in n values v)) line (named_has n values (names_used n) u v (some_within n.global_from_user.fwd u v g) g))

    lists_only : AllByRecursion (λ name. (i : ℕ) × (identity_of j name ≡ Some i)) (names_of (map user_literal line))
    lists_only = names_each (λ name. (i : ℕ) × (identity_of j name ≡ Some i)) line
        (named_each n values (λ l. (i : ℕ) × (identity_of j (variable l + 1) ≡ Some i)) (names_used n) (λ u v lt e.
        let r = reads_at n steps j live agree u v (value_in n values v) valid e in (r.identity, r.in_use)))

    -- the line has the names in use, in order
    lists : names_of (map user_literal line) ≡ map (λ n. n.name) j.in_use
    lists = lists_in_use j (names_of (map user_literal line)) agree.judged.increasing (line_rises n values (names_used n)) lists_all lists_only

    read : AllRepresentedIn j (variable_named steps) (map user_literal line) (model_to n values (variables_used n))
    read = mapped_each (λ l. (code : ℕ) × IsRepresentedBy j (variable_named steps) l code × Among code (model_to n values (variables_used n))) line
        (named_each n values (λ l. (code : ℕ) × IsRepresentedBy j (variable_named steps) (user_literal l) code × Among code (model_to n values (variables_used n))) (names_used n) (λ u v lt e.
        let live_ = valid.tidy.named v u (valid.tidy.users.back u v e) in (
          mk_lit v (value_in n values v),
          reads_at n steps j live agree u v (value_in n values v) valid e,
          test_among (model_to n values (variables_used n)) (mk_lit v (value_in n values v)) (model_all n values (variables_used n) v (live_within n v live_) live_),
        )))

    -- the line of a model that may be written is right
    pub model_line : (asked : List ℕ) → IsAllowedStep (session_after steps) (Model (model_to n values (variables_used n))) → AllByRecursion (λ l. Among l line) asked → IsRightModel j (map user_literal asked) (map user_literal line)
    model_line asked may among =
        named_models_are_right j (variable_named steps) steps (model_to n values (variables_used n)) (map user_literal asked) (map user_literal line)
        (means_of n steps j live agree) (valid.may, may) lists read (mapped_each (λ l. Among l (map user_literal line)) asked (each_among asked among))
      where
        each_among : (xs : List ℕ) → AllByRecursion (λ l. Among l line) xs → AllByRecursion (λ l. Among (user_literal l) (map user_literal line)) xs
        each_among [] h = tt
        each_among (x ∷ xs) h = (literal_among x line h.0, each_among xs h.1)

-- a core that no admitted valuation satisfies is right
module _ (n : Variables) (steps : List Step) (j : ScriptState) (live : LiveVariables) (agree : NamesAgree n steps j live) where
  spells_reads : (l : Literal) (code : ℕ) → IsLiteralOf (variable_named steps) l code → IsRepresentedBy j (variable_named steps) l code
  spells_reads l code s = (let k = agree.bridge.named l.name s.variable s.named in record { identity = k.0; in_use = k.1; var = s.variable; named = s.named; is = s.is })

  pub core_of : (asked core codes : List ℕ) → ((a : Valuation) → Holds steps a → AllLitsTrue a codes → ⊥) → IsSameLiteralSet (variable_named steps) (map user_literal core) codes → AllByRecursion (λ l. Among l asked) core → IsCoreOf j (map user_literal asked) (map user_literal core)
  core_of asked core codes none same among = record {
    among = each_among core among;
    none = λ b t h.
        let m = (means_of n steps j live agree).back b h in
        none m.0 m.2 (all_from (λ x. literal_true m.0 x ≡ true) codes (λ x i.
        let r = all_at (λ code. (l : Literal) × IsLiteralOf (variable_named steps) l code × Among l (map user_literal core)) x codes same.1 i in
        read_value j (variable_named steps) m.0 b m.1 r.0 x (spells_reads r.0 x r.1)
        ∙ all_at (λ y. literal_true b y ≡ true) (identity_lit j r.0) (map (identity_lit j) (map user_literal core)) t (among_images (identity_lit j) r.0 (map user_literal core) r.2)));
  }
    where
      each_among : (xs : List ℕ) → AllByRecursion (λ l. Among l asked) xs → AllByRecursion (λ l. Among l (map user_literal asked)) (map user_literal xs)
      each_among [] h = tt
      each_among (x ∷ xs) h = (literal_among x asked h.0, each_among xs h.1)
