-- Steps that match show correct outcomes.
use Rattle.std.proofs.Common.{ℕ, ◌≡◌, Bool, true, false, List, [], ◌∷◌, map, Option, Some, None, refl, sym, ◌∙◌, ap, subst}
use Rattle.std.proofs.lemmas.Bool.{true≢false}
use Rattle.std.specs.List.{AllByRecursion}
use Rattle.sat_base.specs.values.Clauses.{Valuation, literal_true, AllLitsTrue, AllClausesTrue}
use Rattle.sat_base.specs.script.Script.{Literal, names_of, Among}
use Rattle.sat_base.specs.script.ScriptState.{ScriptState, identity_lit, with_name, without_name, with_clause, IsRightModel}
use Rattle.sat_base.specs.steps.Steps.{Step, SolverVarName, DeleteVar, ChangeSamplingMode, AddClause, AtClause, UnitClauses, DeleteClause, ChangeHashBits, Model, Assumptions, FailedAssumptions, End}
use Rattle.sat_checker.specs.matching.Checking.{variable_named, latest_assumptions, is_ordered, CheckerRules, IsSound}
use Rattle.certify.specs.confirm.Matches.{IsOptionalOnceUnsat, Meets, met, cut, other, ordered}
use Rattle.sat_checker.specs.matching.Expected.{Expected, NewName, NoName, Adds, Opens, Shows, Fails, Closes, Finish, IsLiteralOf, EachHasItsLiteral, IsSameLiteralSet, new_name, no_name, adds, opens, shows, fails, closes, finish}
use Rattle.sat_checker.specs.matching.Bridge.{LiveVariables, IsBridge}
use Rattle.sat_base.proofs.lemmas.script.LiteralValues.{all_at, all_map, true_mapped, mapped_true, coded_same}
use Rattle.sat_checker.proofs.lemmas.matching.Bridge.{line_true, core_true, pulled, pulled_agrees, without, nothing_new, added, named_new, unnamed, deleted}

-- `IsCore j ask core` holds if a core is correct, except for its order.
pub record IsCore (j : ScriptState) (ask core : List Literal) : Type 0 where
  pub among : AllByRecursion (λ l. Among l ask) core
  pub none : (a : Valuation) → AllLitsTrue a (map (identity_lit j) core) → AllClausesTrue a j.clauses → ⊥

-- `RightFor q j es` holds if the expected steps show correct answers, given the script state. `q` is the open ask, if
-- no name was introduced or removed since it was opened.
abbrev pub RightFor : Option (List Literal) → ScriptState → List Expected → Type 0
RightFor q j [] = Unit {0}
RightFor q j (NewName name ∷ es) = RightFor None (with_name name j) es
RightFor q j (NoName name ∷ es) = RightFor None (without_name name j) es
RightFor q j (Adds ls ∷ es) = RightFor q (with_clause ls j) es
RightFor q j (Opens ls v ∷ es) = RightFor (Some ls) j es
RightFor q j (Shows names ask line ∷ es) = (names ≡ map (λ n. n.name) j.in_use → IsRightModel j ask line) × RightFor q j es
RightFor q j (Fails ask core ∷ es) = (q ≡ Some ask → IsCore j ask core) × RightFor q j es
RightFor q j (Closes ∷ es) = RightFor None j es
RightFor q j (Finish ∷ es) = RightFor q j es

-- answers are correct if no valuation satisfies the clauses and no model is expected
dead_for : (es : List Expected) (q : Option (List Literal)) (j : ScriptState) → ((b : Valuation) → AllClausesTrue b j.clauses → ⊥) → AllByRecursion IsOptionalOnceUnsat es → RightFor q j es
dead_for [] q j d x = tt
dead_for (NewName name ∷ es) q j d x = dead_for es None (with_name name j) d x.1
dead_for (NoName name ∷ es) q j d x = dead_for es None (without_name name j) d x.1
dead_for (Adds ls ∷ es) q j d x = dead_for es q (with_clause ls j) (λ b h. d b h.1) x.1
dead_for (Opens ls v ∷ es) q j d x = dead_for es (Some ls) j d x.1
dead_for (Shows names ask line ∷ es) q j d x = absurd x.0
dead_for (Fails ask core ∷ es) q j d x = ((λ e. subst (IsCore j ask) (sym x.0) (record { among = tt; none = λ a t h. d a h })), dead_for es q j d x.1)
dead_for (Closes ∷ es) q j d x = dead_for es None j d x.1
dead_for (Finish ∷ es) q j d x = dead_for es q j d x.1

-- `Asked q earlier` holds if the open ask, if any, is what was assumed last.
abbrev Asked : Option (List Literal) → List Step → Type 0
Asked None earlier = Unit {0}
Asked (Some ask) earlier = IsSameLiteralSet (variable_named earlier) ask (latest_assumptions earlier)

-- two literals of names with the same code are the same
spelt_once : (k : CheckerRules) (j : ScriptState) (earlier : List Step) (live : LiveVariables) → IsBridge k j earlier live → (l m : Literal) (code : ℕ) → IsLiteralOf (variable_named earlier) l code → IsLiteralOf (variable_named earlier) m code → l ≡ m
spelt_once k j earlier live bridge l m code s t =
    let e = coded_same s.variable t.variable l.positive m.positive (sym s.is ∙ t.is) in
    let n : l.name ≡ m.name = bridge.distinct l.name m.name t.variable (s.named ∙ ap Some e.0) t.named in
    one l.name m.name l.positive m.positive n e.1
  where
    one : (x y : ℕ) (s t : Bool) → x ≡ y → s ≡ t → (let z : Literal = record { name = x; positive = s } in z) ≡ record { name = y; positive = t }
    one x y s t e f = cc

module _ (k : CheckerRules) (sound : IsSound k) where
  -- an unordered step preserves the relation between steps and script state
  data After (earlier : List Step) (q : Option (List Literal)) (j : ScriptState) (step : Step) : Type 0 where
    after : (live : LiveVariables) → IsBridge k j (step ∷ earlier) live → Asked q (step ∷ earlier) → After earlier q j step

  passed : (earlier : List Step) (q : Option (List Literal)) (j : ScriptState) (live : LiveVariables) (step : Step) → is_ordered step ≡ false → IsBridge k j earlier live → Asked q earlier → k.Accepts earlier step → After earlier q j step
  passed earlier q j live (SolverVarName v name) o b w acc = after live (nothing_new k sound j earlier live b (SolverVarName v name) acc (λ w e. cc) (λ n. refl) (λ a h. h) (λ a h. h)) (keep q w)
    where
      keep : (q : Option (List Literal)) → Asked q earlier → Asked q (SolverVarName v name ∷ earlier)
      keep None w = tt
      keep (Some ask) w = w
  passed earlier q j live (DeleteVar v) o b w acc = after (without v live) (deleted k sound j earlier live b v acc) (keep q w)
    where
      keep : (q : Option (List Literal)) → Asked q earlier → Asked q (DeleteVar v ∷ earlier)
      keep None w = tt
      keep (Some ask) w = w
  passed earlier q j live (ChangeSamplingMode v m) o b w acc = after live (nothing_new k sound j earlier live b (ChangeSamplingMode v m) acc (λ w e. cc) (λ n. refl) (λ a h. h) (λ a h. h)) (keep q w)
    where
      keep : (q : Option (List Literal)) → Asked q earlier → Asked q (ChangeSamplingMode v m ∷ earlier)
      keep None w = tt
      keep (Some ask) w = w
  passed earlier q j live (AtClause r c hs) o b w acc = after live (nothing_new k sound j earlier live b (AtClause r c hs) acc (λ w e. cc) (λ n. refl) (λ a h. h) (λ a h. h)) (keep q w)
    where
      keep : (q : Option (List Literal)) → Asked q earlier → Asked q (AtClause r c hs ∷ earlier)
      keep None w = tt
      keep (Some ask) w = w
  passed earlier q j live (UnitClauses us) o b w acc = after live (nothing_new k sound j earlier live b (UnitClauses us) acc (λ w e. cc) (λ n. refl) (λ a h. h) (λ a h. h)) (keep q w)
    where
      keep : (q : Option (List Literal)) → Asked q earlier → Asked q (UnitClauses us ∷ earlier)
      keep None w = tt
      keep (Some ask) w = w
  passed earlier q j live (DeleteClause c p) o b w acc = after live (nothing_new k sound j earlier live b (DeleteClause c p) acc (λ w e. cc) (λ n. refl) (λ a h. h) (λ a h. h)) (keep q w)
    where
      keep : (q : Option (List Literal)) → Asked q earlier → Asked q (DeleteClause c p ∷ earlier)
      keep None w = tt
      keep (Some ask) w = w
  passed earlier q j live (ChangeHashBits n) o b w acc = after live (nothing_new k sound j earlier live b (ChangeHashBits n) acc (λ w e. cc) (λ n. refl) (λ a h. h) (λ a h. h)) (keep q w)
    where
      keep : (q : Option (List Literal)) → Asked q earlier → Asked q (ChangeHashBits n ∷ earlier)
      keep None w = tt
      keep (Some ask) w = w
  passed earlier q j live step o b w acc = absurd (true≢false o)

  -- once unsat is recorded, no valuation satisfies the clauses
  dead : (j : ScriptState) (earlier : List Step) (live : LiveVariables) → IsBridge k j earlier live → k.unsat earlier ≡ true → (b : Valuation) → AllClausesTrue b j.clauses → ⊥
  dead j earlier live bridge u b h = sound.none_left earlier (pulled live b) bridge.accepted u (bridge.back (pulled live b) (b, pulled_agrees live b bridge.once, h))

  right_model : (j : ScriptState) (earlier : List Step) (live : LiveVariables) → IsBridge k j earlier live → (names c : List ℕ) (ask line : List Literal) → names_of line ≡ names → EachHasItsLiteral (variable_named earlier) line c → AllByRecursion (λ l. Among l line) ask → k.Accepts earlier (Model c) → names ≡ map (λ n. n.name) j.in_use → IsRightModel j ask line
  right_model j earlier live bridge names c ask line n spelt asked acc e =
      let a = sound.model earlier c bridge.accepted acc in
      let m = bridge.to a.0 a.1 in
      let t = line_true k j earlier live bridge a.0 m.0 m.1 line c spelt a.2 in
      record {
        names = n ∙ e;
        valuation = m.0;
        agrees = true_mapped m.0 (identity_lit j) line t;
        clauses = m.2;
        asked = true_mapped m.0 (identity_lit j) ask (all_map (λ l. Among l line) (λ l. literal_true m.0 (identity_lit j l) ≡ true) ask (λ l x. all_at (λ l. literal_true m.0 (identity_lit j l) ≡ true) l line t x) asked);
      }

  is_core : (j : ScriptState) (earlier : List Step) (live : LiveVariables) → IsBridge k j earlier live → (c hashes : List ℕ) (ask core : List Literal) → IsSameLiteralSet (variable_named earlier) core c → k.Accepts earlier (FailedAssumptions c hashes) → IsSameLiteralSet (variable_named earlier) ask (latest_assumptions earlier) → IsCore j ask core
  is_core j earlier live bridge c hashes ask core same acc asked = record {
    among = all_map (λ l. (code : ℕ) × IsLiteralOf (variable_named earlier) l code × Among code c) (λ l. Among l ask) core
        (λ l x.
        let y = all_at (λ x. Among x (latest_assumptions earlier)) x.0 c (sound.among earlier c hashes bridge.accepted acc) x.2 in
        let m = all_at (λ code. (l : Literal) × IsLiteralOf (variable_named earlier) l code × Among l ask) x.0 (latest_assumptions earlier) asked.1 y in
        subst (λ l. Among l ask) (sym (spelt_once k j earlier live bridge l m.0 x.0 x.1 m.1)) m.2)
        same.0;
    none = λ b t h.
        let a = pulled live b in
        let g = pulled_agrees live b bridge.once in
        sound.core earlier c hashes a bridge.accepted acc (bridge.back a (b, g, h)) (core_true k j earlier live bridge a b g core c same (mapped_true b (identity_lit j) core t));
  }

  -- expected steps that are met show correct answers
  pub right_for : {earlier steps : List Step} {es : List Expected} → Meets k earlier steps es → (q : Option (List Literal)) (j : ScriptState) (live : LiveVariables) → IsBridge k j earlier live → Asked q earlier → RightFor q j es
  right_for (met u) q j live b w = tt
  right_for (cut {earlier = earlier} {es = es} u x) q j live b w = dead_for es q j (dead j earlier live b u) x
  right_for (other {earlier = earlier} {step = step} {e = e} {es = es} u o acc m) q j live b w = go (passed earlier q j live step o b w acc) (λ live b w. right_for m q j live b w)
    where
      go : After earlier q j step → ((live : LiveVariables) → IsBridge k j (step ∷ earlier) live → Asked q (step ∷ earlier) → RightFor q j (e ∷ es)) → RightFor q j (e ∷ es)
      go (after live b w) ih = ih live b w
  right_for (ordered {earlier = earlier} u (new_name {name = name} {v = v} {index = index} is unknown) acc m) q j live b w =
      right_for m None (with_name name j) ((v, j.identity_count) ∷ live) (named_new k sound j earlier live b name v index is unknown acc) tt
  right_for (ordered {earlier = earlier} u (no_name {name = name} {v = v} at) acc m) q j live b w =
      right_for m None (without_name name j) live (unnamed k sound j earlier live b name v at acc) tt
  right_for (ordered {earlier = earlier} u (adds {ls = ls} {c = c} same) acc m) q j live b w =
      right_for m q (with_clause ls j) live (added k sound j earlier live b ls c acc same) (keep q w)
    where
      keep : (q : Option (List Literal)) → Asked q earlier → Asked q (AddClause c ∷ earlier)
      keep None w = tt
      keep (Some ask) w = w
  right_for (ordered {earlier = earlier} u (opens {ls = ls} {o = v} {c = c} same) acc m) q j live b w =
      right_for m (Some ls) j live (nothing_new k sound j earlier live b (Assumptions c) acc (λ w e. cc) (λ n. refl) (λ a h. h) (λ a h. h)) same
  right_for (ordered {earlier = earlier} u (shows {names = names} {ask = ask} {line = line} {c = c} n spelt asked) acc m) q j live b w = (
    (λ e. right_model j earlier live b names c ask line n spelt asked acc e),
    right_for m q j live (nothing_new k sound j earlier live b (Model c) acc (λ w e. cc) (λ n. refl) (λ a h. h) (λ a h. h)) (keep q w),
  )
    where
      keep : (q : Option (List Literal)) → Asked q earlier → Asked q (Model c ∷ earlier)
      keep None w = tt
      keep (Some ask) w = w
  right_for (ordered {earlier = earlier} u (fails {ask = ask} {core = core} {c = c} {hashes = hashes} same) acc m) q j live b w = (
    (λ e. is_core j earlier live b c hashes ask core same acc (subst (λ q. Asked q earlier) e w)),
    right_for m q j live (nothing_new k sound j earlier live b (FailedAssumptions c hashes) acc (λ w e. cc) (λ n. refl) (λ a h. h) (λ a h. h)) (keep q w),
  )
    where
      keep : (q : Option (List Literal)) → Asked q earlier → Asked q (FailedAssumptions c hashes ∷ earlier)
      keep None w = tt
      keep (Some ask) w = w
  right_for (ordered {earlier = earlier} u closes acc m) q j live b w =
      right_for m None j live (nothing_new k sound j earlier live b (Assumptions []) acc (λ w e. cc) (λ n. refl) (λ a h. h) (λ a h. h)) tt
  right_for (ordered {earlier = earlier} u finish acc m) q j live b w =
      right_for m q j live (nothing_new k sound j earlier live b End acc (λ w e. cc) (λ n. refl) (λ a h. h) (λ a h. h)) (keep q w)
    where
      keep : (q : Option (List Literal)) → Asked q earlier → Asked q (End ∷ earlier)
      keep None w = tt
      keep (Some ask) w = w
