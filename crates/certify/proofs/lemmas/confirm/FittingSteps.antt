-- Which steps fit each expected step.
use Rattle.std.proofs.Common.{ℕ, ◌+◌, ◌≡◌, ◌↔◌, false, List, [], Some, None, refl, subst, sym}
use Rattle.std.specs.List.{AllByRecursion}
use Rattle.sat_base.specs.script.Script.{Literal, names_of, Among}
use Rattle.sat_base.specs.steps.Steps.{Step, UserVarName, AddClause, Model, Assumptions, FailedAssumptions, End}
use Rattle.sat_checker.specs.matching.Expected.{Outcome, NewName, NoName, Adds, Opens, Shows, Fails, Closes, Finish, EachHasItsLiteral, IsSameLiteralSet, FitsExpected, new_name, no_name, adds, opens, shows, fails, closes, finish}
use Rattle.sat_checker.specs.matching.Checking.{CheckerRules, variable_named}

module _ (k : CheckerRules) (earlier : List Step) where
  to_new_name : {name : ℕ} {step : Step} → FitsExpected (k.knows earlier) earlier (NewName name) step → (v : ℕ) × (index : ℕ) × (step ≡ UserVarName v (Some index)) × (index + 1 ≡ name) × (k.knows earlier v ≡ false)
  to_new_name (new_name {v = v} {index = index} is unknown) = (v, index, refl, is, unknown)

  pub fits_new_name : (name : ℕ) (step : Step) → FitsExpected (k.knows earlier) earlier (NewName name) step ↔ ((v : ℕ) × (index : ℕ) × (step ≡ UserVarName v (Some index)) × (index + 1 ≡ name) × (k.knows earlier v ≡ false))
  fits_new_name name step = (to_new_name, (λ p. subst (FitsExpected (k.knows earlier) earlier (NewName name)) (sym p.2) (new_name p.3 p.4)))

  to_no_name : {name : ℕ} {step : Step} → FitsExpected (k.knows earlier) earlier (NoName name) step → (v : ℕ) × (step ≡ UserVarName v None) × (variable_named earlier name ≡ Some v)
  to_no_name (no_name {v = v} at) = (v, refl, at)

  pub fits_no_name : (name : ℕ) (step : Step) → FitsExpected (k.knows earlier) earlier (NoName name) step ↔ ((v : ℕ) × (step ≡ UserVarName v None) × (variable_named earlier name ≡ Some v))
  fits_no_name name step = (to_no_name, (λ p. subst (FitsExpected (k.knows earlier) earlier (NoName name)) (sym p.1) (no_name p.2)))

  to_adds : {ls : List Literal} {step : Step} → FitsExpected (k.knows earlier) earlier (Adds ls) step → (c : List ℕ) × (step ≡ AddClause c) × IsSameLiteralSet (variable_named earlier) ls c
  to_adds (adds {c = c} same) = (c, refl, same)

  pub fits_adds : (ls : List Literal) (step : Step) → FitsExpected (k.knows earlier) earlier (Adds ls) step ↔ ((c : List ℕ) × (step ≡ AddClause c) × IsSameLiteralSet (variable_named earlier) ls c)
  fits_adds ls step = (to_adds, (λ p. subst (FitsExpected (k.knows earlier) earlier (Adds ls)) (sym p.1) (adds p.2)))

  to_opens : {ls : List Literal} {o : Outcome} {step : Step} → FitsExpected (k.knows earlier) earlier (Opens ls o) step → (c : List ℕ) × (step ≡ Assumptions c) × IsSameLiteralSet (variable_named earlier) ls c
  to_opens (opens {c = c} same) = (c, refl, same)

  pub fits_opens : (ls : List Literal) (o : Outcome) (step : Step) → FitsExpected (k.knows earlier) earlier (Opens ls o) step ↔ ((c : List ℕ) × (step ≡ Assumptions c) × IsSameLiteralSet (variable_named earlier) ls c)
  fits_opens ls o step = (to_opens, (λ p. subst (FitsExpected (k.knows earlier) earlier (Opens ls o)) (sym p.1) (opens p.2)))

  to_shows : {names : List ℕ} {ask line : List Literal} {step : Step} → FitsExpected (k.knows earlier) earlier (Shows names ask line) step → (c : List ℕ) × (step ≡ Model c) × (names_of line ≡ names) × EachHasItsLiteral (variable_named earlier) line c × AllByRecursion (λ l. Among l line) ask
  to_shows (shows {c = c} n spelt asked) = (c, refl, n, spelt, asked)

  pub fits_shows : (names : List ℕ) (ask line : List Literal) (step : Step) → FitsExpected (k.knows earlier) earlier (Shows names ask line) step ↔ ((c : List ℕ) × (step ≡ Model c) × (names_of line ≡ names) × EachHasItsLiteral (variable_named earlier) line c × AllByRecursion (λ l. Among l line) ask)
  fits_shows names ask line step = (to_shows, (λ p. subst (FitsExpected (k.knows earlier) earlier (Shows names ask line)) (sym p.1) (shows p.2 p.3 p.4)))

  to_fails : {ask core : List Literal} {step : Step} → FitsExpected (k.knows earlier) earlier (Fails ask core) step → (c : List ℕ) × (hashes : List ℕ) × (step ≡ FailedAssumptions c hashes) × IsSameLiteralSet (variable_named earlier) core c
  to_fails (fails {c = c} {hashes = hashes} same) = (c, hashes, refl, same)

  pub fits_fails : (ask core : List Literal) (step : Step) → FitsExpected (k.knows earlier) earlier (Fails ask core) step ↔ ((c : List ℕ) × (hashes : List ℕ) × (step ≡ FailedAssumptions c hashes) × IsSameLiteralSet (variable_named earlier) core c)
  fits_fails ask core step = (to_fails, (λ p. subst (FitsExpected (k.knows earlier) earlier (Fails ask core)) (sym p.2) (fails p.3)))

  to_closes : {step : Step} → FitsExpected (k.knows earlier) earlier Closes step → step ≡ Assumptions []
  to_closes closes = refl

  pub fits_closes : (step : Step) → FitsExpected (k.knows earlier) earlier Closes step ↔ (step ≡ Assumptions [])
  fits_closes step = (to_closes, (λ e. subst (FitsExpected (k.knows earlier) earlier Closes) (sym e) closes))

  to_finish : {step : Step} → FitsExpected (k.knows earlier) earlier Finish step → step ≡ End
  to_finish finish = refl

  pub fits_finish : (step : Step) → FitsExpected (k.knows earlier) earlier Finish step ↔ (step ≡ End)
  fits_finish step = (to_finish, (λ e. subst (FitsExpected (k.knows earlier) earlier Finish) (sym e) finish))
