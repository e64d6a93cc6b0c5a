-- A clause is not written once unsat is recorded.
use Rattle.std.proofs.Common.{ℕ, suc, ◌+◌, ◌<◌, ◌≤◌, ◌≡◌, true, not, List, [], ◌∷◌, map, drop, length, get_or, Some, is_some, sym, ◌∙◌, ap, subst, arith, inl, inr}
use Rattle.std.proofs.lemmas.Bool.{true≢false, cases_eq}
use Rattle.std.proofs.lemmas.List.{drop_more, drop_all}
use Rattle.sat_base.specs.values.Literals.{variable}
use Rattle.sat_base.specs.script.ScriptState.{ScriptState, identity_of, introduce, introduce_all, new_names}
use Rattle.sat_base.specs.steps.Steps.{Step}
use Rattle.sat_solver.specs.session.Session.{session_after}
use Rattle.sat_solver.proofs.lemmas.session.StepLemmas.{sessions_are_accepted}
use Rattle.sat_checker.specs.matching.Bridge.{LiveVariables}
use Rattle.sat_solver.specs.variables.Live.{given, given_of}
use Rattle.sat_solver.specs.variables.Variables.{global_of, NamesMatchState}
use Rattle.sat_solver.specs.variables.Refusing.{names_in}
use Rattle.sat_solver.specs.load.Literals.{user_literal}
use Rattle.sat_solver.specs.load.Clauses.{OmitsClause}
use Rattle.sat_checker.specs.matching.ProofChecking.{checker_rules}
use Rattle.sat_checker.specs.matching.Expected.{NewName, steps_introducing}
use Rattle.sat_solver.specs.variables.Search.{KeepsWhatSearchSees}
use Rattle.sat_solver.specs.variables.Calls.{NamesInvariant, IntroducesNameUnseen}
use Rattle.sat_solver.specs.declared.variables.Variables.{Variables}
use Rattle.sat_checker.proofs.lemmas.matching.CheckerIsSound.{the_checking_sound}
use Rattle.sat_solver.specs.variables.Naming.{ExtendsNames}
use Rattle.sat_solver.proofs.lemmas.variables.Extending.{extends_same, extends_both}
use Rattle.sat_solver.proofs.lemmas.variables.Doing.{does_none, does_both}
use Rattle.sat_solver.proofs.lemmas.variables.Giving.{unseen_same, unseen_both}
use Rattle.sat_solver.proofs.lemmas.variables.NamedAgain.{InUse, left_out}
use Rattle.sat_solver.proofs.lemmas.variables.NewName.{none_or}
use Rattle.sat_solver.proofs.lemmas.variables.TakenNames.{Brings}
use Rattle.sat_solver.specs.session.AllowedSteps.{OnlyAllowedSteps}
use Rattle.sat_solver.specs.variables.NamingSteps.{IsDue}
use Rattle.sat_solver.proofs.lemmas.session.ComingLemmas.{comes_none, comes_both}

-- the names before position `index` were introduced
pub record Bringing (old now : Variables) (from steps : List Step) (all : List ℕ) (index : ℕ) : Type 0 where
  pub valid : NamesInvariant now steps
  pub extends : ExtendsNames old now
  pub unseen : KeepsWhatSearchSees old now from steps
  pub comes : OnlyAllowedSteps IsDue from steps
  pub named : (k : ℕ) → k < index → (v : ℕ) × (global_of now (variable (get_or all k 0)) ≡ Some v)
  pub rest : (new : Variables) (to : List Step) → Brings now new steps to (drop index all) → Brings old new from to all

pub bring_begins : (old : Variables) (from : List Step) (all : List ℕ) → NamesInvariant old from → Bringing old old from from all 0
bring_begins old from all valid = record { valid = valid; extends = extends_same old; unseen = unseen_same old from; comes = comes_none IsDue from; named = λ k lt. absurd (let z : k < 0 = lt in omega arith); rest = λ new to more. more }

pub bring_goes : (old now new : Variables) (from steps to : List Step) (all : List ℕ) (index l v : ℕ) → Bringing old now from steps all index → index < length all → l ≡ get_or all index 0 → IntroducesNameUnseen now new steps to (variable l) → global_of new (variable l) ≡ Some v → Bringing old new from to all (index + 1)
bring_goes old now new from steps to all index l v b lt at brought named = record {
  valid = brought.brings.valid;
  extends = extends_both old now new b.extends brought.extends;
  unseen = unseen_both old now new from steps to b.unseen brought.unseen;
  comes = comes_both IsDue from steps to b.comes brought.comes;
  named = λ k m. elim (cases_eq k index) [
    | inl same ↦ (v, ap (λ i. global_of new (variable (get_or all i 0))) same ∙ ap (λ x. global_of new (variable x)) (sym at) ∙ named)
    | inr differ ↦ (let p = b.named k (omega arith) in (p.0, (brought.extends.stays (variable (get_or all k 0)) p.0 p.1).0))
  ];
  rest = λ last end more. b.rest last end (subst (Brings now last steps end) (sym (drop_more all index 0 lt ∙ ap (λ y. y ∷ drop (index + 1) all) (sym at)))
      (does_both now new last steps to end (introduce (variable l + 1)) (introduce_all (names_in (drop (index + 1) all))) (λ j. map NewName (new_names (variable l + 1) j)) (steps_introducing (names_in (drop (index + 1) all))) brought.brings more));
}

-- a name in use has an identity
pub in_use : (n : Variables) (steps : List Step) (j : ScriptState) (live : LiveVariables) (u v : ℕ) → NamesInvariant n steps → NamesMatchState n j live → global_of n u ≡ Some v → (i : ℕ) × (identity_of j (u + 1) ≡ Some i)
in_use n steps j live u v valid judged e =
    let alive = valid.tidy.named v u (valid.tidy.users.back u v e) in
    let i = none_or (given live v) (λ x. true≢false (sym (judged.in_use v ∙ ap not alive) ∙ ap is_some x)) in
    (i.0, judged.names u ∙ ap (given_of live) e ∙ i.1)

all_used : (n : Variables) (steps : List Step) (j : ScriptState) (live : LiveVariables) (ls : List ℕ) → NamesInvariant n steps → NamesMatchState n j live → ((k : ℕ) → k < length ls → (v : ℕ) × (global_of n (variable (get_or ls k 0)) ≡ Some v)) → InUse j (map user_literal ls)
all_used n steps j live [] valid judged h = tt
all_used n steps j live (l ∷ ls) valid judged h = let p = h 0 (omega arith) in (in_use n steps j live (variable l) p.0 valid judged p.1, all_used n steps j live ls valid judged (λ k lt. h (suc k) (omega arith)))

pub brought_out : (old new : Variables) (from to : List Step) (all : List ℕ) (index : ℕ) → length all ≤ index → (session_after from).unsat ≡ true → Bringing old new from to all index → OmitsClause old new from to all
brought_out old new from to all index le unsat b = record {
  does = record {
    valid = b.valid;
    kept = λ j live a.
        let k = brings.kept j live a in
        record {
          live = k.live;
          agree = record {
            judged = record {
              first_unused = k.agree.judged.first_unused;
              no_zero = k.agree.judged.no_zero;
              names = k.agree.judged.names;
              once = k.agree.judged.once;
              in_use = k.agree.judged.in_use;
              below = k.agree.judged.below;
              distinct = k.agree.judged.distinct;
              identities = k.agree.judged.identities;
              modes_count = k.agree.judged.modes_count;
              increasing = k.agree.judged.increasing;
              modes = k.agree.judged.modes;
            };
            bridge = left_out checker_rules the_checking_sound (introduce_all (names_in all) j) to k.live k.agree.bridge recorded (map user_literal all) (all_used new to (introduce_all (names_in all) j) k.live all b.valid k.agree.judged (λ i lt. b.named i (omega arith)));
          };
          trace = k.trace;
        };
  };
  extends = b.extends;
  unseen = b.unseen;
  comes = b.comes;
}
  where
    brings : Brings old new from to all
    brings = b.rest new to (subst (Brings new new to to) (sym (drop_all index all le)) (does_none new to b.valid))

    recorded : checker_rules.unsat to ≡ true
    recorded = (sessions_are_accepted to b.valid.may).1.unsat ∙ b.unseen.search.unsat ∙ unsat
