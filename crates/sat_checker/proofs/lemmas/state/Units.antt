-- Units that are checked and stored one by one.
use Rattle.std.proofs.Common.{ℕ, zero, suc, ◌+◌, ◌<◌, ◌≤◌, ◌≡◌, Bool, true, false, cond, List, [], ◌∷◌, length, drop, get_or, map, refl, sym, ◌∙◌, ap, subst, arith, Result, MatchResult, Ok, Err, inl, inr}
use Rattle.std.proofs.lemmas.List.{drop_more}
use Rattle.std.specs.Bool.{MatchBool}
use Rattle.sat_base.specs.values.Literals.{variable, negated}
use Rattle.sat_base.specs.steps.Steps.{UnitClauses}
use Rattle.sat_checker.specs.LiteralSets.{canonical}
use Rattle.sat_checker.specs.Looks.{stored_literal_count}
use Rattle.sat_checker.specs.Counters.{CountersExhausted}
use Rattle.sat_checker.specs.Stored.{Stored, is_unit}
use Rattle.sat_checker.specs.Storing.{with_unit, with_contradiction, with_new_unit, with_units, with_known, with_literals_known}
use Rattle.sat_checker.specs.Accepts.{PassesByHashes, UnitsPassInTurn, effect}
use Rattle.sat_checker.specs.inner.FormulaView.{RepresentsFormula, DecidesChange}
use Rattle.sat_checker.specs.inner.InTurn.{OtherUnitsPassInTurn}
use Rattle.sat_checker.specs.inner.StateView.{RepresentsStored}
use Rattle.sat_checker.specs.inner.VariablesView.{StoresVariables}
use Rattle.sat_checker.specs.declared.store.StoreError.{StoreError}
use Rattle.sat_checker.specs.declared.store.StoreError.TheVariants.{OutOfMemory, CounterEnd}
use Rattle.sat_checker.specs.declared.formula.Formula.{Formula}
use Rattle.sat_checker.specs.declared.state.CheckerState.{CheckerState}
use Rattle.sat_checker.proofs.lemmas.meaning.Names.{units_same}
use Rattle.sat_checker.proofs.lemmas.state.Refiled.{loosened}

abbrev pub firsts : List (ℕ × ℕ) → List ℕ
firsts us = map (λ u. u.0) us

-- Some units were checked and stored, and these remain.
pub record Left (F : Formula) (f : Stored) (all left : List (ℕ × ℕ)) : Type 0 where
  pub now : Stored
  pub kept : RepresentsFormula F now
  pub on : UnitsPassInTurn now left → UnitsPassInTurn f all
  pub back : UnitsPassInTurn f all → UnitsPassInTurn now left
  pub same : with_units (firsts left) now ≡ with_units (firsts all) f
  pub count : stored_literal_count now ≡ stored_literal_count f

pub count_unit : (l : ℕ) (f : Stored) → stored_literal_count (with_unit l f) ≡ stored_literal_count f
count_unit l f = go (is_unit f l) (is_unit f (negated l))
  where
    go : (b d : Bool) → stored_literal_count (cond b f (cond d (with_contradiction l f) (with_new_unit l f))) ≡ stored_literal_count f
    go true d = refl
    go false true = refl
    go false false = refl

-- a number that does not fit still does not fit after units are added
spent_unit : (l : ℕ) (f : Stored) → CountersExhausted f → CountersExhausted (with_unit l f)
spent_unit l f h = go (is_unit f l) (is_unit f (negated l)) h
  where
    go : (b d : Bool) → CountersExhausted f → CountersExhausted (cond b f (cond d (with_contradiction l f) (with_new_unit l f)))
    go true d h = h
    go false true (inl h) = inl (omega arith)
    go false true (inr s) = inr (record { literals = s.literals; past = s.past })
    go false false (inl h) = inl (omega arith)
    go false false (inr s) = inr (record { literals = s.literals; past = s.past })

spent_units : (ls : List ℕ) (f : Stored) → CountersExhausted f → CountersExhausted (with_units ls f)
spent_units [] f h = h
spent_units (l ∷ ls) f h = spent_units ls (with_unit l f) (spent_unit l f h)

-- the next of the remaining units
module _ (F : Formula) (f : Stored) (all : List (ℕ × ℕ)) (i : ℕ) (u : ℕ × ℕ) (inside : i < length all) (is : u ≡ get_or all i u) (left : Left F f all (drop i all)) where
  split : drop i all ≡ u ∷ drop (i + 1) all
  split = drop_more all i u inside ∙ ap (λ x. x ∷ drop (i + 1) all) (sym is)

  pub passed : (G : Formula) → PassesByHashes left.now (u.0 ∷ []) (u.1 ∷ []) → RepresentsFormula G (with_unit u.0 left.now) → Left G f all (drop (i + 1) all)
  passed G p k = record {
    now = with_unit u.0 left.now;
    kept = k;
    on = λ q. left.on (subst (UnitsPassInTurn left.now) (sym split) (p, q));
    back = λ q. (subst (UnitsPassInTurn left.now) split (left.back q)).1;
    same = ap (λ us. with_units (firsts us) left.now) (sym split) ∙ left.same;
    count = count_unit u.0 left.now ∙ left.count;
  }

  pub accepted_after : PassesByHashes left.now (u.0 ∷ []) (u.1 ∷ []) → OtherUnitsPassInTurn left.now (drop i all) → UnitsPassInTurn f all
  accepted_after p q = left.on (subst (UnitsPassInTurn left.now) (sym split) (p, subst (OtherUnitsPassInTurn left.now) split q))

  pub back_after : UnitsPassInTurn f all → OtherUnitsPassInTurn left.now (drop i all)
  back_after q = subst (OtherUnitsPassInTurn left.now) (sym split) (subst (UnitsPassInTurn left.now) split (left.back q)).1

  pub stopped : (PassesByHashes left.now (u.0 ∷ []) (u.1 ∷ []) → ⊥) → UnitsPassInTurn f all → ⊥
  stopped n q = n (subst (UnitsPassInTurn left.now) split (left.back q)).0

  pub spent_then : CountersExhausted (with_unit u.0 left.now) → CountersExhausted (with_units (firsts all) f)
  spent_then s = subst CountersExhausted (ap (λ us. with_units (firsts us) left.now) (sym split) ∙ left.same) (spent_units (firsts (drop (i + 1) all)) (with_unit u.0 left.now) s)

-- no unit remains
pub finished : (F : Formula) (f : Stored) (all : List (ℕ × ℕ)) (i : ℕ) → length all ≤ i → Left F f all (drop i all) → UnitsPassInTurn f all × RepresentsFormula F (with_units (firsts all) f)
finished F f all i l left = let e = past all i l in (left.on (subst (UnitsPassInTurn left.now) (sym e) tt), subst (RepresentsFormula F) (ap (λ us. with_units (firsts us) left.now) (sym e) ∙ left.same) left.kept)
  where
    past : (xs : List (ℕ × ℕ)) (i : ℕ) → length xs ≤ i → drop i xs ≡ []
    past [] zero l = refl
    past [] (suc i) l = refl
    past (x ∷ xs) zero l = absurd (omega arith)
    past (x ∷ xs) (suc i) l = past xs i (omega arith)

-- After an error at a unit, the later units decide whether the units are refused or the error is returned.
pub failed : (r : Result Bool StoreError) (fault : StoreError) (A B P K L : Type 0) (g h : Stored) → DecidesChange (Err fault) A K g → (CountersExhausted g → CountersExhausted h) → (A → P → B) → (B → P)
    → MatchResult r (λ passes. (passes ≡ false) × (P → ⊥)) (λ e. (e ≡ fault) × P) → DecidesChange r B L h
failed (Ok true) fault A B P K L g h t spent on back m = absurd (let e : true ≡ false = m.0 in cc)
failed (Ok false) fault A B P K L g h t spent on back m = λ b. m.1 (back b)
failed (Err e) fault A B P K L g h t spent on back m = subst (λ x. DecidesChange (Err x) B L h) (sym m.0) (go fault t)
  where
    go : (x : StoreError) → DecidesChange (Err x) A K g → DecidesChange (Err x) B L h
    go OutOfMemory a = on a m.1
    go CounterEnd a = (on a.0 m.1, spent a.1)

-- adding units and making variables known commute
known_unit : (vs : List ℕ) (l : ℕ) (f : Stored) → with_unit l (with_known vs f) ≡ with_known vs (with_unit l f)
known_unit vs l f = go (is_unit f l) (is_unit f (negated l))
  where
    go : (b d : Bool) → cond b (with_known vs f) (cond d (with_contradiction l (with_known vs f)) (with_new_unit l (with_known vs f))) ≡ with_known vs (cond b f (cond d (with_contradiction l f) (with_new_unit l f)))
    go true d = refl
    go false true = refl
    go false false = refl

pub known_units : (vs ls : List ℕ) (f : Stored) → with_units ls (with_known vs f) ≡ with_known vs (with_units ls f)
known_units vs [] f = refl
known_units vs (l ∷ ls) f = ap (with_units ls) (known_unit vs l f) ∙ known_units vs ls (with_unit l f)

pub units_stored : (new : CheckerState) (f : Stored) (us : List (ℕ × ℕ)) → RepresentsFormula new.formula (with_units (firsts us) f) → StoresVariables new.variables (with_literals_known (firsts us) f).variables → new.assumed ≡ canonical f.assumed → RepresentsStored new (effect (UnitClauses us) f)
units_stored new f us F V a =
    let s = units_same (firsts us) f in
    subst (RepresentsStored new) (sym (known_units (map variable (firsts us)) (firsts us) f)) (record {
      formula = loosened new.formula (with_units (firsts us) f) F;
      variables = subst (λ g. StoresVariables new.variables (with_literals_known (firsts us) (record f { variables = g })).variables) (sym s.variables) V;
      assumed = a ∙ ap canonical (sym s.assumed);
    })

-- the claims about a flag may be weakened
pub match_on : (b : Bool) (P Q N M : Type 0) → (P → Q) → (N → M) → MatchBool b P N → MatchBool b Q M
match_on true P Q N M h g m = h m
match_on false P Q N M h g m = g m
