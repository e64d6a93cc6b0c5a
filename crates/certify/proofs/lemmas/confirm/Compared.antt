-- What each expected step is compared with.
use Rattle.std.proofs.Common.{ℕ, eqb, length, ◌∷◌, ◌+◌, ◌≡◌, Bool, true, false, cond, List, [], Option, Some, None, Result, Ok, Err, IfOk, refl, sym, ◌∙◌, ap, subst, arith}
use Rattle.std.proofs.lemmas.Bool.{eqb-true}
use Rattle.std.specs.Bool.{MatchBool}
use Rattle.sat_base.specs.script.Script.{names_of}
use Rattle.sat_base.specs.steps.Steps.{Step, UserVarName, AddClause, Model, Assumptions, FailedAssumptions, End}
use Rattle.sat_checker.specs.Accepts.{ready_after}
use Rattle.sat_checker.specs.Stored.{is_known}
use Rattle.sat_checker.specs.matching.Expected.{NewName, NoName, Adds, Opens, Shows, Fails, Closes, Finish, EachHasItsLiteral, IsSameLiteralSet}
use Rattle.sat_checker.specs.matching.ProofChecking.{checker_rules}
use Rattle.certify.specs.answers.AnswerForms.{named_literals}
use Rattle.certify.specs.confirm.SpeltLiterals.{AllAmong}
use Rattle.certify.specs.refusals.Names.{states_of, names_in_use}
use Rattle.certify.specs.confirm.Variables.{variable_in}
use Rattle.certify.specs.confirm.Comparing.{IsKnownAfter, ComparesStep, ComparesLine}
use Rattle.certify.specs.declared.confirm.expect.Known.{Known}
use Rattle.certify.specs.declared.refusals.names.Names.{Names}
use Rattle.certify.specs.declared.verdict.Why.{Why}
use Rattle.certify.proofs.lemmas.confirm.FittingSteps.{fits_new_name, fits_no_name, fits_adds, fits_opens, fits_shows, fits_fails, fits_closes, fits_finish}
use Rattle.certify.proofs.lemmas.confirm.Named.{each_named, named_each}

abbrev vars : Known → ℕ → Option ℕ
vars known = variable_in known.variables.now

module _ (known : Known) (step : Step) where
  pub new_name_fits : (name v : ℕ) → step ≡ UserVarName v (Some name) → ((earlier : List Step) → IsKnownAfter known earlier → is_known v (ready_after earlier) ≡ false) → ComparesStep (λ o ask. NewName (name + 1)) known step None
  new_name_fits name v e unknown earlier k o ask = (fits_new_name checker_rules earlier (name + 1) step).1 (v, name, e, refl, unknown earlier k)

  pub no_name_fits : (name v : ℕ) → step ≡ UserVarName v None → vars known (name + 1) ≡ Some v → ComparesStep (λ o ask. NoName (name + 1)) known step None
  no_name_fits name v e at earlier k o ask = (fits_no_name checker_rules earlier (name + 1) step).1 (v, e, ap (λ (f : ℕ → Option ℕ). f (name + 1)) k.named ∙ at)

  pub no_name_differs : (name v : ℕ) (why : Why) → step ≡ UserVarName v None → (vars known (name + 1) ≡ Some v → ⊥) → ComparesStep (λ o ask. NoName (name + 1)) known step (Some why)
  no_name_differs name v why e differ earlier k o ask f =
      let p = (fits_no_name checker_rules earlier (name + 1) step).0 f in
      let same : UserVarName v None ≡ UserVarName p.0 None = sym e ∙ p.1 in
      let v_is : v ≡ p.0 = cc in
      differ (sym (ap (λ (f : ℕ → Option ℕ). f (name + 1)) k.named) ∙ p.2 ∙ ap Some (sym v_is))

  -- steps whose literals are compared as a set
  module _ (ls codes : List ℕ) (same : Bool) (why : Why) (r : Option Why) (is : r ≡ cond same None (Some why)) (compared : MatchBool same (IsSameLiteralSet (vars known) (named_literals ls) codes) (IsSameLiteralSet (vars known) (named_literals ls) codes → ⊥)) where
    pub clause_compared : step ≡ AddClause codes → ComparesStep (λ o ask. Adds (named_literals ls)) known step r
    clause_compared e = subst (ComparesStep (λ o ask. Adds (named_literals ls)) known step) (sym is) (go same compared)
      where
        go : (b : Bool) → MatchBool b (IsSameLiteralSet (vars known) (named_literals ls) codes) (IsSameLiteralSet (vars known) (named_literals ls) codes → ⊥) → ComparesStep (λ o ask. Adds (named_literals ls)) known step (cond b None (Some why))
        go true s = λ earlier k o ask. (fits_adds checker_rules earlier (named_literals ls) step).1 (codes, e, subst (λ (f : ℕ → Option ℕ). IsSameLiteralSet f (named_literals ls) codes) (sym k.named) s)
        go false n = λ earlier k o ask f.
            let p = (fits_adds checker_rules earlier (named_literals ls) step).0 f in
            let at : AddClause codes ≡ AddClause p.0 = sym e ∙ p.1 in
            let codes_are : p.0 ≡ codes = cc in
            n (subst (λ (cs : List ℕ). IsSameLiteralSet (vars known) (named_literals ls) cs) codes_are (subst (λ (f : ℕ → Option ℕ). IsSameLiteralSet f (named_literals ls) p.0) k.named p.2))

    pub ask_compared : step ≡ Assumptions codes → ComparesStep (λ o ask. Opens (named_literals ls) o) known step r
    ask_compared e = subst (ComparesStep (λ o ask. Opens (named_literals ls) o) known step) (sym is) (go same compared)
      where
        go : (b : Bool) → MatchBool b (IsSameLiteralSet (vars known) (named_literals ls) codes) (IsSameLiteralSet (vars known) (named_literals ls) codes → ⊥) → ComparesStep (λ o ask. Opens (named_literals ls) o) known step (cond b None (Some why))
        go true s = λ earlier k o ask. (fits_opens checker_rules earlier (named_literals ls) o step).1 (codes, e, subst (λ (f : ℕ → Option ℕ). IsSameLiteralSet f (named_literals ls) codes) (sym k.named) s)
        go false n = λ earlier k o ask f.
            let p = (fits_opens checker_rules earlier (named_literals ls) o step).0 f in
            let at : Assumptions codes ≡ Assumptions p.0 = sym e ∙ p.1 in
            let codes_are : p.0 ≡ codes = cc in
            n (subst (λ (cs : List ℕ). IsSameLiteralSet (vars known) (named_literals ls) cs) codes_are (subst (λ (f : ℕ → Option ℕ). IsSameLiteralSet f (named_literals ls) p.0) k.named p.2))

    pub core_compared : (hashes : List ℕ) → step ≡ FailedAssumptions codes hashes → ComparesStep (λ o ask. Fails ask (named_literals ls)) known step r
    core_compared hashes e = subst (ComparesStep (λ o ask. Fails ask (named_literals ls)) known step) (sym is) (go same compared)
      where
        go : (b : Bool) → MatchBool b (IsSameLiteralSet (vars known) (named_literals ls) codes) (IsSameLiteralSet (vars known) (named_literals ls) codes → ⊥) → ComparesStep (λ o ask. Fails ask (named_literals ls)) known step (cond b None (Some why))
        go true s = λ earlier k o ask. (fits_fails checker_rules earlier ask (named_literals ls) step).1 (codes, hashes, e, subst (λ (f : ℕ → Option ℕ). IsSameLiteralSet f (named_literals ls) codes) (sym k.named) s)
        go false n = λ earlier k o ask f.
            let p = (fits_fails checker_rules earlier ask (named_literals ls) step).0 f in
            let at : FailedAssumptions codes hashes ≡ FailedAssumptions p.0 p.1 = sym e ∙ p.2 in
            let codes_are : p.0 ≡ codes = cc in
            n (subst (λ (cs : List ℕ). IsSameLiteralSet (vars known) (named_literals ls) cs) codes_are (subst (λ (f : ℕ → Option ℕ). IsSameLiteralSet f (named_literals ls) p.0) k.named p.3))

-- the result of comparing a model step with a line
pub line_reported : (known : Known) (step : Step) (line codes : List ℕ) (shown : Bool) (why : Why) (r : Option Why) → r ≡ cond shown None (Some why) → step ≡ Model codes
    → MatchBool shown (EachHasItsLiteral (vars known) (named_literals line) codes) (EachHasItsLiteral (vars known) (named_literals line) codes → ⊥) → ComparesLine known line step r
line_reported known step line codes shown why r is e compared = subst (ComparesLine known line step) (sym is) (go shown compared)
  where
    go : (b : Bool) → MatchBool b (EachHasItsLiteral (vars known) (named_literals line) codes) (EachHasItsLiteral (vars known) (named_literals line) codes → ⊥) → ComparesLine known line step (cond b None (Some why))
    go true s = (codes, e, s)
    go false n = λ others at s.
        let same : Model codes ≡ Model others = sym e ∙ at in
        let codes_are : others ≡ codes = cc in
        n (subst (λ (cs : List ℕ). EachHasItsLiteral (vars known) (named_literals line) cs) codes_are s)

-- no model fits if the line does not list the names in use, or lacks a literal of the ask
pub model_unlisted : (known : Known) (step : Step) (names : Names) (ask line : List ℕ) (why : Why)
    → ((names_of (named_literals line) ≡ names_in_use (states_of names)) × AllAmong ask line → ⊥)
    → ComparesStep (λ o _. Shows (names_in_use (states_of names)) (named_literals ask) (named_literals line)) known step (Some why)
model_unlisted known step names ask line why none earlier k o _ f =
    let p = (fits_shows checker_rules earlier (names_in_use (states_of names)) (named_literals ask) (named_literals line) step).0 f in
    none (p.2, named_each ask line p.4)

pub model_reported : (known : Known) (step : Step) (names : Names) (ask line : List ℕ) (r : Option Why)
    → (names_of (named_literals line) ≡ names_in_use (states_of names)) → AllAmong ask line → ComparesLine known line step r
    → ComparesStep (λ o _. Shows (names_in_use (states_of names)) (named_literals ask) (named_literals line)) known step r
model_reported known step names ask line None listed has c = λ earlier k o _.
    (fits_shows checker_rules earlier (names_in_use (states_of names)) (named_literals ask) (named_literals line) step).1
    (c.0, c.1, listed, subst (λ (f : ℕ → Option ℕ). EachHasItsLiteral f (named_literals line) c.0) (sym k.named) c.2, each_named ask line has)
model_reported known step names ask line (Some why) listed has c = λ earlier k o _ f.
    let p = (fits_shows checker_rules earlier (names_in_use (states_of names)) (named_literals ask) (named_literals line) step).0 f in
    c p.0 p.1 (subst (λ (f : ℕ → Option ℕ). EachHasItsLiteral f (named_literals line) p.0) k.named p.3)

pub close_fits : (known : Known) (step : Step) (codes : List ℕ) → step ≡ Assumptions codes → codes ≡ [] → ComparesStep (λ o ask. Closes) known step None
close_fits known step codes e none earlier k o ask = (fits_closes checker_rules earlier step).1 (e ∙ ap Assumptions none)

pub close_differs : (known : Known) (step : Step) (codes : List ℕ) (why : Why) → step ≡ Assumptions codes → (codes ≡ [] → ⊥) → ComparesStep (λ o ask. Closes) known step (Some why)
close_differs known step codes why e some earlier k o ask f =
    let p = (fits_closes checker_rules earlier step).0 f in
    let at : Assumptions codes ≡ Assumptions [] = sym e ∙ p in
    let none : codes ≡ [] = cc in
    some none

pub end_fits : (known : Known) (step : Step) → step ≡ End → ComparesStep (λ o ask. Finish) known step None
end_fits known step e earlier k o ask = (fits_finish checker_rules earlier step).1 e

pub if_ok : {A E : Type 0} (r : Result A E) (P Q : A → Type 0) → ((x : A) → P x → Q x) → IfOk r P → IfOk r Q
if_ok (Ok x) P Q f p = f x p
if_ok (Err e) P Q f p = tt

pub empty_list : (codes : List ℕ) (b : Bool) → b ≡ eqb (length codes) 0 → b ≡ true → codes ≡ []
empty_list [] b e t = refl
empty_list (c ∷ codes) b e t = let f : eqb (length (c ∷ codes)) 0 ≡ true = sym e ∙ t in let n : length (c ∷ codes) ≡ 0 = eqb-true (length (c ∷ codes)) 0 f in absurd (omega arith)

pub some_list : (codes : List ℕ) (b : Bool) → b ≡ eqb (length codes) 0 → b ≡ false → codes ≡ [] → ⊥
some_list codes b e f none = let g : eqb (length codes) 0 ≡ true = rw none refl in let h : false ≡ true = sym f ∙ e ∙ g in absurd (cc)
