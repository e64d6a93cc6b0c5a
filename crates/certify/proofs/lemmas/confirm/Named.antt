-- Variables of names when they are set, and literals of names.
use Rattle.std.proofs.Common.{ℕ, zero, suc, ◌+◌, ◌<◌, ◌≡◌, Bool, true, false, cond, eqb, List, [], ◌∷◌, Option, None, length, get_or, refl, sym, ◌∙◌, ap, arith, inl, inr}
use Rattle.std.proofs.lemmas.List.{length-map}
use Rattle.std.proofs.lemmas.Bool.{ne_eqb}
use Rattle.std.proofs.lemmas.Bool.Decides.{nat_tests}
use Rattle.sat_base.specs.values.Tables.{value_at}
use Rattle.sat_base.specs.values.Literals.{variable, is_positive}
use Rattle.sat_base.specs.script.Script.{Literal, Among}
use Rattle.certify.specs.answers.AnswerForms.{named_literal, named_literals}
use Rattle.certify.specs.confirm.SpeltLiterals.{AllAmong, ContainsEach}
use Rattle.certify.specs.confirm.Variables.{variable_in, SetsVariable}
use Rattle.certify.specs.declared.confirm.variables.NamedVars.{NamedVars}
use Rattle.certify.proofs.lemmas.judge.States.{same_place}

-- the variable of a name is stored at the index that is one less than the name
pub put_at : (old new : NamedVars) (place name : ℕ) (value : Option ℕ) → place + 1 ≡ name → ((v : ℕ) → value_at None new.variables v ≡ cond (eqb v place) value (value_at None old.variables v)) → SetsVariable old new name value
put_at old new place name value n h = record { each = at }
  where
    at : (m : ℕ) → variable_in new m ≡ cond (eqb name m) value (variable_in old m)
    at zero = let e : eqb name zero ≡ false = ne_eqb name zero (λ x. omega arith) in rw e refl
    at (suc i) = h i ∙ ap (λ (b : Bool). cond b value (value_at None old.variables i)) (same_place i place name n)

-- NAMES' LITERALS
pub named_at : (codes : List ℕ) (i code : ℕ) → i < length codes → code ≡ get_or codes i code → named_literal code ≡ get_or (named_literals codes) i (named_literal code)
named_at [] i code h e = absurd (omega arith)
named_at (c ∷ codes) zero code h e = ap named_literal e
named_at (c ∷ codes) (suc i) code h e = named_at codes i code (omega arith) e

pub named_length : (codes : List ℕ) → length (named_literals codes) ≡ length codes
named_length codes = length-map codes named_literal

half_same : (k l : ℕ) → variable k + 1 ≡ variable l + 1 → is_positive k ≡ is_positive l → k ≡ l
half_same k l e p = go (is_positive k) refl (is_positive l) refl
  where
    go : (b : Bool) → is_positive k ≡ b → (d : Bool) → is_positive l ≡ d → k ≡ l
    go true x true y = grind (arith, nat_tests)
    go true x false y = absurd (let f : true ≡ false = sym x ∙ p ∙ y in cc)
    go false x true y = absurd (let f : false ≡ true = sym x ∙ p ∙ y in cc)
    go false x false y = grind (arith, nat_tests)

named_same : (k l : ℕ) → named_literal k ≡ named_literal l → k ≡ l
named_same k l e = half_same k l (ap (λ (x : Literal). x.name) e) (ap (λ (x : Literal). x.positive) e)

among_named : (codes : List ℕ) (l : ℕ) → Among l codes → Among (named_literal l) (named_literals codes)
among_named [] l m = absurd m
among_named (c ∷ codes) l (inl e) = inl (ap named_literal e)
among_named (c ∷ codes) l (inr m) = inr (among_named codes l m)

named_among : (codes : List ℕ) (l : ℕ) → Among (named_literal l) (named_literals codes) → Among l codes
named_among [] l m = absurd m
named_among (c ∷ codes) l (inl e) = inl (named_same l c e)
named_among (c ∷ codes) l (inr m) = inr (named_among codes l m)

pub each_named : (ask line : List ℕ) → AllAmong ask line → ContainsEach (named_literals line) (named_literals ask)
each_named [] line h = tt
each_named (l ∷ ask) line h = (among_named line l h.0, each_named ask line h.1)

pub named_each : (ask line : List ℕ) → ContainsEach (named_literals line) (named_literals ask) → AllAmong ask line
named_each [] line h = tt
named_each (l ∷ ask) line h = (named_among line l h.0, named_each ask line h.1)
