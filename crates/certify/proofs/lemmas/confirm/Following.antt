-- The variables of names after one more step.
use Rattle.std.proofs.Common.{ℕ, ◌+◌, ◌≤◌, ◌<◌, ◌≡◌, Bool, true, false, cond, eqb, List, ◌∷◌, Option, Some, None, refl, sym, ◌∙◌, ap, subst, arith, inl, inr}
use Rattle.std.proofs.Common.{Result, Ok, Err, OnOk}
use Rattle.std.proofs.lemmas.Bool.{true≢false, eqb-true, eqb-false, eq-eqb}
use mathlib.Core.Path.{fun_ext}
use Rattle.sat_base.specs.values.Literals.{var_limit}
use Rattle.sat_base.specs.script.Script.{Literal}
use Rattle.sat_base.specs.steps.Steps.{Step, UserVarName}
use Rattle.sat_checker.specs.Accepts.{Accepts, ready_after}
use Rattle.sat_checker.specs.matching.Checking.{AreAcceptedBy, is_ordered, is_variable, variable_named}
use Rattle.sat_checker.specs.matching.Expected.{Outcome, Expected, NewName, NoName, FitsExpected, new_name, no_name, adds, opens, shows, fails, closes, finish}
use Rattle.sat_checker.specs.matching.ProofChecking.{checker_rules}
use Rattle.sat_checker.proofs.lemmas.matching.CheckerIsSound.{the_checking_sound}
use Rattle.certify.specs.confirm.Variables.{SetsVariable}
use Rattle.certify.specs.confirm.NamesAfterStep.{AreVariablesOfNames, NamesFollowStep, UnorderedKeepVariables}
use Rattle.certify.specs.confirm.Comparing.{Due}
use Rattle.certify.specs.declared.confirm.variables.NamedVars.{NamedVars}
use Rattle.certify.proofs.lemmas.confirm.FittingSteps.{fits_new_name, fits_no_name}

none_some : {v : ℕ} → (let o : Option ℕ = None in o) ≡ Some v → ⊥
none_some e = cc

one_of : {v w : ℕ} → Some v ≡ Some w → v ≡ w
one_of e = cc

-- an unordered step does not change the variable of any name
unnamed : (step : Step) (earlier : List Step) → is_ordered step ≡ false → variable_named (step ∷ earlier) ≡ variable_named earlier
unnamed (UserVarName v name) earlier h = absurd (true≢false h)
unnamed step earlier h = refl

-- a variable that has a name stays known
known_still : (earlier : List Step) (step : Step) (m v : ℕ) → AreAcceptedBy checker_rules earlier → Accepts (ready_after earlier) step → variable_named earlier m ≡ Some v → checker_rules.knows earlier v ≡ true → checker_rules.knows (step ∷ earlier) v ≡ true
known_still earlier step m v all a e k = elim (the_checking_sound.keeps earlier step v a k) [
  | inl h ↦ h
  | inr d ↦ absurd (the_checking_sound.nameless earlier v m all (subst (λ (s : Step). Accepts (ready_after earlier) s) d a) e)
]

-- a step that changes no name's variable leaves the variables of names
pub stays : (variables : NamedVars) (earlier : List Step) (step : Step) → AreVariablesOfNames variables earlier → Accepts (ready_after earlier) step → variable_named (step ∷ earlier) ≡ variable_named earlier → AreVariablesOfNames variables (step ∷ earlier)
stays variables earlier step s a same =
    let at : (m v : ℕ) → variable_named (step ∷ earlier) m ≡ Some v → variable_named earlier m ≡ Some v = λ m v e. sym (ap (λ (f : ℕ → Option ℕ). f m) same) ∙ e in
    record {
      accepted = (s.accepted, a);
      named = same ∙ s.named;
      apart = λ m n v x y. s.apart m n v (at m v x) (at n v y);
      known = λ m v x. known_still earlier step m v s.accepted a (at m v x) (s.known m v (at m v x));
      few = λ m v x. s.few m v (at m v x);
    }

pub others : UnorderedKeepVariables
others variables earlier step s o a = stays variables earlier step s a (unnamed step earlier o)

-- A NEW NAME
module _ (old new : NamedVars) (earlier : List Step) (s : AreVariablesOfNames old earlier) where
  names_a : (v index : ℕ) → checker_rules.knows earlier v ≡ false → Accepts (ready_after earlier) (UserVarName v (Some index)) → index + 1 ≤ var_limit → SetsVariable old new (index + 1) (Some v) → AreVariablesOfNames new (UserVarName v (Some index) ∷ earlier)
  names_a v index unknown a low p = record {
    accepted = (s.accepted, a);
    named = fun_ext (λ m. ap (λ (o : Option ℕ). cond (eqb (index + 1) m) (Some v) o) (ap (λ (f : ℕ → Option ℕ). f m) s.named) ∙ sym (p.each m));
    apart = λ m n w x y. alone m n w (eqb (index + 1) m) refl (eqb (index + 1) n) refl x y;
    known = λ m w x. is_known m w (eqb (index + 1) m) x;
    few = λ m w x. is_few m w (eqb (index + 1) m) refl x;
  }
    where
      fresh : (n w : ℕ) → v ≡ w → variable_named earlier n ≡ Some w → ⊥
      fresh n w e x = true≢false (sym (s.known n w x) ∙ subst (λ (z : ℕ). checker_rules.knows earlier z ≡ false) e unknown)

      alone : (m n w : ℕ) (b : Bool) → eqb (index + 1) m ≡ b → (d : Bool) → eqb (index + 1) n ≡ d → cond b (Some v) (variable_named earlier m) ≡ Some w → cond d (Some v) (variable_named earlier n) ≡ Some w → m ≡ n
      alone m n w true e true g x y = sym (eqb-true (index + 1) m e) ∙ eqb-true (index + 1) n g
      alone m n w true e false g x y = absurd (fresh n w (one_of x) y)
      alone m n w false e true g x y = absurd (fresh m w (one_of y) x)
      alone m n w false e false g x y = s.apart m n w x y

      is_known : (m w : ℕ) (b : Bool) → cond b (Some v) (variable_named earlier m) ≡ Some w → checker_rules.knows (UserVarName v (Some index) ∷ earlier) w ≡ true
      is_known m w true x = subst (λ (z : ℕ). checker_rules.knows (UserVarName v (Some index) ∷ earlier) z ≡ true) (one_of x) (the_checking_sound.names earlier v index a)
      is_known m w false x = known_still earlier (UserVarName v (Some index)) m w s.accepted a x (s.known m w x)

      is_few : (m w : ℕ) (b : Bool) → eqb (index + 1) m ≡ b → cond b (Some v) (variable_named earlier m) ≡ Some w → m ≤ var_limit
      is_few m w true e x = subst (λ (z : ℕ). z ≤ var_limit) (eqb-true (index + 1) m e) low
      is_few m w false e x = s.few m w x

  -- A REMOVED NAME
  takes_a : (name v : ℕ) → variable_named earlier name ≡ Some v → Accepts (ready_after earlier) (UserVarName v None) → SetsVariable old new name None → AreVariablesOfNames new (UserVarName v None ∷ earlier)
  takes_a name v at a p = record {
    accepted = (s.accepted, a);
    named = fun_ext (λ m. taken m (eqb name m) refl (variable_named earlier m) refl ∙ ap (λ (o : Option ℕ). cond (eqb name m) None o) (ap (λ (f : ℕ → Option ℕ). f m) s.named) ∙ sym (p.each m));
    apart = λ m n w x y. s.apart m n w (before m w x) (before n w y);
    known = λ m w x. let e = before m w x in known_still earlier (UserVarName v None) m w s.accepted a e (s.known m w e);
    few = λ m w x. s.few m w (before m w x);
  }
    where
      same_v : eqb v v ≡ true
      same_v = eq-eqb v v refl

      taken : (m : ℕ) (b : Bool) → eqb name m ≡ b → (o : Option ℕ) → variable_named earlier m ≡ o → cond (is_variable v o) None o ≡ cond b None o
      taken m true e o x =
          let here : o ≡ Some v = sym x ∙ ap (variable_named earlier) (sym (eqb-true name m e)) ∙ at in
          subst (λ (z : Option ℕ). cond (is_variable v z) None z ≡ None) (sym here) (rw same_v refl)
      taken m false e None x = refl
      taken m false e (Some w) x = go (eqb w v) refl
        where
          go : (b : Bool) → eqb w v ≡ b → cond b None (Some w) ≡ Some w
          go true y = absurd (eqb-false name m e (s.apart name m v at (x ∙ ap Some (eqb-true w v y))))
          go false y = refl

      before : (m w : ℕ) → cond (is_variable v (variable_named earlier m)) None (variable_named earlier m) ≡ Some w → variable_named earlier m ≡ Some w
      before m w x = go (is_variable v (variable_named earlier m)) x
        where
          go : (b : Bool) → cond b None (variable_named earlier m) ≡ Some w → variable_named earlier m ≡ Some w
          go true x = absurd (none_some x)
          go false x = x

  -- the step of a new name gives it its variable
  pub puts_new : (name v : ℕ) (step : Step) → FitsExpected (checker_rules.knows earlier) earlier (NewName (name + 1)) step → (u : Option ℕ) → step ≡ UserVarName v u → Accepts (ready_after earlier) step → name < var_limit → SetsVariable old new (name + 1) (Some v) → AreVariablesOfNames new (step ∷ earlier)
  puts_new name v step f u e a low p =
      let q = (fits_new_name checker_rules earlier (name + 1) step).0 f in
      let index : q.1 ≡ name = let at = q.3 in omega arith in
      let same : UserVarName v u ≡ UserVarName q.0 (Some q.1) = sym e ∙ q.2 in
      let v_is : q.0 ≡ v = cc in
      let whole : step ≡ UserVarName v (Some name) = q.2 ∙ ap (λ (x : ℕ). UserVarName x (Some q.1)) v_is ∙ ap (λ (x : ℕ). UserVarName v (Some x)) index in
      subst (λ (z : Step). AreVariablesOfNames new (z ∷ earlier)) (sym whole)
      (names_a v name (subst (λ (x : ℕ). checker_rules.knows earlier x ≡ false) v_is q.4) (subst (λ (z : Step). Accepts (ready_after earlier) z) whole a) (omega arith) p)

  -- the step that removes a name leaves it without a variable
  pub takes_name : (name : ℕ) (step : Step) → FitsExpected (checker_rules.knows earlier) earlier (NoName name) step → Accepts (ready_after earlier) step → SetsVariable old new name None → AreVariablesOfNames new (step ∷ earlier)
  takes_name name step f a p =
      let q = (fits_no_name checker_rules earlier name step).0 f in
      subst (λ (z : Step). AreVariablesOfNames new (z ∷ earlier)) (sym q.1) (takes_a name q.0 q.2 (subst (λ (z : Step). Accepts (ready_after earlier) z) q.1 a) p)

abbrev pub puts_name : Expected → Bool
puts_name (NewName name) = true
puts_name (NoName name) = true
puts_name e = false

-- a step that fits an expected step without a name does not change the variable of any name
pub unput : (earlier : List Step) (e : Expected) (step : Step) → FitsExpected (checker_rules.knows earlier) earlier e step → (b : Bool) → puts_name e ≡ b → b ≡ false → variable_named (step ∷ earlier) ≡ variable_named earlier
unput earlier e step (new_name is unknown) b x y = absurd (true≢false (x ∙ y))
unput earlier e step (no_name at) b x y = absurd (true≢false (x ∙ y))
unput earlier e step (adds same) b x y = refl
unput earlier e step (opens same) b x y = refl
unput earlier e step (shows n spelt asked) b x y = refl
unput earlier e step (fails same) b x y = refl
unput earlier e step closes b x y = refl
unput earlier e step finish b x y = refl

pub on_ok : {A E : Type 0} (r : Result A E) (P Q : Type 0) → (P → Q) → OnOk r P → OnOk r Q
on_ok (Ok x) P Q f p = f p
on_ok (Err e) P Q f p = tt

-- so the table of variables stays the same
pub unchanged : (due : Due) (variables : NamedVars) (step : Step) → ((o : Outcome) (ask : List Literal) → puts_name (due o ask) ≡ false) → NamesFollowStep due variables step variables
unchanged due variables step less earlier o ask s f a = stays variables earlier step s a (unput earlier (due o ask) step f false (less o ask) refl)
