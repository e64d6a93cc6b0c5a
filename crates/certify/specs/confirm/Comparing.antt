-- How a step is compared with the expected step.
use Rattle.std.specs.Prelude.{ℕ, ◌+◌, ◌≡◌, false, Option, Some, None, List, []}
use Rattle.sat_base.specs.script.Script.{Literal}
use Rattle.sat_base.specs.steps.Steps.{Step, Model}
use Rattle.sat_checker.specs.KernelView.{KernelHasAccepted, kernel_has_failed}
use Rattle.sat_checker.specs.CheckerView.{kernel_of}
use Rattle.sat_checker.specs.matching.Checking.{variable_named}
use Rattle.sat_checker.specs.matching.Expected.{Outcome, Unsat, EachHasItsLiteral, Expected, NewName, NoName, Adds, Opens, Shows, Fails, Closes, Finish, FitsExpected}
use Rattle.sat_checker.specs.matching.ProofChecking.{checker_rules}
use Rattle.certify.specs.confirm.Matches.{IsOptionalOnceUnsat}
use Rattle.certify.specs.answers.AnswerForms.{named_literals}
use Rattle.certify.specs.refusals.Names.{states_of, names_in_use}
use Rattle.certify.specs.confirm.Variables.{variable_in}
use Rattle.certify.specs.declared.confirm.expect.Expected.{Expected as CodeExpected}
use Rattle.certify.specs.declared.confirm.expect.Expected.TheVariants as code
use Rattle.certify.specs.declared.confirm.expect.Known.{Known}
use Rattle.certify.specs.declared.verdict.Why.{Why}

-- an expected step, as a function of the outcome and the literals of the ask that it may belong to, since these may not
-- be known yet
abbrev pub Due : Type 0
Due = Outcome → List Literal → Expected

-- the expected step that the code's value represents; names are counted from 0 in the code, and from 1 here
abbrev pub due_of : CodeExpected → Due
due_of (code.NewName v) = λ o ask. NewName (v + 1)
due_of (code.NoName v) = λ o ask. NoName (v + 1)
due_of (code.Clause ls) = λ o ask. Adds (named_literals ls.now)
due_of (code.Ask ls) = λ o ask. Opens (named_literals ls.now) o
due_of (code.Model names ls line) = λ o ask. Shows (names_in_use (states_of names.now)) (named_literals ls.now) (named_literals line.now)
due_of (code.Core core) = λ o ask. Fails ask (named_literals core.now)
due_of code.Close = λ o ask. Closes
due_of code.End = λ o ask. Finish

-- `IsKnownAfter known earlier` holds if the checker in `known` accepted the steps `earlier` and has not failed, and
-- after them every name has the variable that the table in `known` says.
pub record IsKnownAfter (known : Known) (earlier : List Step) : Type 0 where
  pub valid : KernelHasAccepted (kernel_of known.checker.now) earlier
  pub goes_on : kernel_has_failed (kernel_of known.checker.now) ≡ false
  pub named : variable_named earlier ≡ variable_in known.variables.now

-- `ComparesStep due known step why` holds if `why` is `None`, and the step fits the expected step `due` for every
-- outcome and ask; or if `why` is a reason, and it fits for none. This is stated after all steps that `known` is about.
abbrev pub ComparesStep : Due → Known → Step → Option Why → Type 0
ComparesStep due known step None = (earlier : List Step) → IsKnownAfter known earlier
    → (o : Outcome) (ask : List Literal) → FitsExpected (checker_rules.knows earlier) earlier (due o ask) step
ComparesStep due known step (Some why) = (earlier : List Step) → IsKnownAfter known earlier
    → (o : Outcome) (ask : List Literal) → FitsExpected (checker_rules.knows earlier) earlier (due o ask) step → ⊥

-- `ComparesLine known line step why` holds if the step is a model that contains the proof literals of all literals in
-- `line`, which are codes over names (`None`); or if it is none that does, with a reason.
abbrev pub ComparesLine : Known → List ℕ → Step → Option Why → Type 0
ComparesLine known line step None = (codes : List ℕ) × (step ≡ Model codes)
    × EachHasItsLiteral (variable_in known.variables.now) (named_literals line) codes
ComparesLine known line step (Some why) = (codes : List ℕ) → step ≡ Model codes
    → EachHasItsLiteral (variable_in known.variables.now) (named_literals line) codes → ⊥

-- `OpensOnlyEmptyCore e` holds unless the expected step opens an ask whose outcome is not the empty core.
abbrev pub OpensOnlyEmptyCore : Expected → Type 0
OpensOnlyEmptyCore (NewName name) = Unit {0}
OpensOnlyEmptyCore (NoName name) = Unit {0}
OpensOnlyEmptyCore (Adds ls) = Unit {0}
OpensOnlyEmptyCore (Opens ls o) = o ≡ Unsat []
OpensOnlyEmptyCore (Shows names ask line) = Unit {0}
OpensOnlyEmptyCore (Fails ask core) = Unit {0}
OpensOnlyEmptyCore Closes = Unit {0}
OpensOnlyEmptyCore Finish = Unit {0}

-- `DecidesMayBeUnmet due why` holds if `why` is `None`, and the expected step `due` may stay unmet once unsat is
-- recorded, provided that `OpensOnlyEmptyCore` holds of it; or if `why` is a reason, and it may never stay unmet.
abbrev pub DecidesMayBeUnmet : Due → Option Why → Type 0
DecidesMayBeUnmet due None = (o : Outcome) (ask : List Literal) → OpensOnlyEmptyCore (due o ask) → IsOptionalOnceUnsat (due o ask)
DecidesMayBeUnmet due (Some why) = (o : Outcome) (ask : List Literal) → IsOptionalOnceUnsat (due o ask) → ⊥
