-- Quiet steps derive no empowering clause.
use Rattle.std.proofs.Common.{ℕ, ◌≡◌, ◌∙◌, ◌⊎◌, ◌||◌, ◌++◌, Bool, true, false, eqb, cond, List, [], ◌∷◌, map, refl, sym, ap, subst, arith, inl, inr}
use Rattle.std.proofs.lemmas.Bool.{or_cases, or_left, or_right, eqb-true, true≢false}
use Rattle.std.proofs.lemmas.List.{append_cancel_right}
use Rattle.std.specs.List.{AllByRecursion, list_any}
use Rattle.sat_base.specs.values.Literals.{negated}
use Rattle.sat_base.specs.steps.Steps.{Step, AtClause}
use Rattle.sat_checker.specs.LiteralSets.{is_among}
use Rattle.sat_checker.specs.ConflictPropagation.{PropagatesToConflict}
use Rattle.sat_parts.proofs.lemmas.prop.StateLemmas.{negated_twice}
use Rattle.sat_solver.specs.session.Session.{Session, IsLive, AreLiveByHash, rup_assumptions, CanDerive, by_unit, by_clauses}
use Rattle.sat_solver.proofs.lemmas.session.Mapped.{among_mapped}
use Rattle.sat_solver.specs.session.AllowedSteps.{EachIsAllowed}
use Rattle.sat_solver.specs.session.Quiet.{others_of, LeavesLiteralUnassigned, has_at_most_one, is_quiet, AreQuiet, MakesOnlyQuiet, QuietIsNeverEmpowering}

-- LISTS

pub quiet_both : (xs ys : List Step) → AreQuiet xs → AreQuiet ys → AreQuiet (ys ++ xs)
quiet_both xs [] h k = h
quiet_both xs (y ∷ ys) h k = (k.0, quiet_both xs ys h k.1)

-- deriving a clause from a unit or a single clause is quiet
pub few_quiet : (redundant : Bool) (clause hashes : List ℕ) → has_at_most_one hashes ≡ true → is_quiet (AtClause redundant clause hashes) ≡ true
few_quiet redundant [] hashes e = refl
few_quiet redundant (l ∷ ls) hashes e = e

each_quiet : (from xs : List Step) → EachIsAllowed (λ earlier step. is_quiet step ≡ true) from xs → AreQuiet xs
each_quiet from [] h = tt
each_quiet from (x ∷ xs) h = (h.1, each_quiet from xs h.0)

quiet_each : (from xs : List Step) → AreQuiet xs → EachIsAllowed (λ earlier step. is_quiet step ≡ true) from xs
quiet_each from [] h = tt
quiet_each from (x ∷ xs) h = (quiet_each from xs h.1, h.0)

pub quiet_comes : (from to xs : List Step) → to ≡ xs ++ from → AreQuiet xs → MakesOnlyQuiet from to
quiet_comes from to xs e h = record { steps = xs; following = e; each = quiet_each from xs h }

pub comes_quiet : (from to xs : List Step) → MakesOnlyQuiet from to → to ≡ xs ++ from → AreQuiet xs
comes_quiet from to xs c e = subst AreQuiet (append_cancel_right c.steps xs from (sym c.following ∙ e)) (each_quiet from c.steps c.each)

-- ONE CLAUSE

either_way : (b : Bool) → (b ≡ true) ⊎ (b ≡ false)
either_way true = inl refl
either_way false = inr refl

self : (n : ℕ) → eqb n n ≡ true
self n = grind arith

among_denied : (ls : List ℕ) (m : ℕ) → is_among (map negated ls) (negated m) ≡ true → is_among ls m ≡ true
among_denied [] m e = absurd (true≢false (sym e))
among_denied (x ∷ xs) m e = elim (or_cases (eqb (negated x) (negated m)) (is_among (map negated xs) (negated m)) e) [
  | inl q ↦
      let same : x ≡ m = sym (negated_twice x) ∙ ap negated (eqb-true (negated x) (negated m) q) ∙ negated_twice m in
      or_left (eqb x m) (is_among xs m) (subst (λ z. eqb x z ≡ true) same (self x))
  | inr k ↦ or_right (eqb x m) (is_among xs m) (among_denied xs m k)
]

-- `others_of` has every other literal of the clause
among_others : (l m : ℕ) (ls : List ℕ) → (m ≡ l → ⊥) → is_among ls m ≡ true → is_among (others_of l ls) m ≡ true
among_others l m [] n e = e
among_others l m (x ∷ xs) n e = go (eqb x l) refl (λ k. among_others l m xs n k)
  where
    go : (b : Bool) → eqb x l ≡ b → (is_among xs m ≡ true → is_among (others_of l xs) m ≡ true) → is_among (cond b (others_of l xs) (x ∷ others_of l xs)) m ≡ true
    go true f later = elim (or_cases (eqb x m) (is_among xs m) e) [
      | inl q ↦ absurd (n (sym (eqb-true x m q) ∙ eqb-true x l f))
      | inr k ↦ later k
    ]
    go false f later = elim (or_cases (eqb x m) (is_among xs m) e) [
      | inl q ↦ or_left (eqb x m) (is_among (others_of l xs) m) q
      | inr k ↦ or_right (eqb x m) (is_among (others_of l xs) m) (later k)
    ]

-- a literal of the list that is a unit
record UnitIn (s : Session) (ls : List ℕ) : Type 0 where
  unit : ℕ
  among : is_among ls unit ≡ true
  is : s.units unit ≡ true

unit_in : (s : Session) (ls : List ℕ) → list_any s.units ls ≡ true → UnitIn s ls
unit_in s [] e = absurd (true≢false (sym e))
unit_in s (x ∷ xs) e = elim (or_cases (s.units x) (list_any s.units xs) e) [
  | inl u ↦ record { unit = x; among = or_left (eqb x x) (is_among xs x) (self x); is = u }
  | inr k ↦ let h = unit_in s xs k in record { unit = h.unit; among = or_right (eqb x h.unit) (is_among xs h.unit) h.among; is = h.is }
]

module _ (s : Session) (clause : List ℕ) (l : ℕ) (o : LeavesLiteralUnassigned s clause l) where
  abbrev holds : ℕ → Bool
  holds = rup_assumptions s (others_of l clause)

  other_denied : (m : ℕ) → (m ≡ l → ⊥) → is_among clause m ≡ true → holds (negated m) ≡ true
  other_denied m n e = or_left (is_among (map negated (others_of l clause)) (negated m)) (s.units (negated m)) (among_mapped negated (others_of l clause) m (among_others l m clause n e))

  unit_holds : (m : ℕ) → s.units m ≡ true → holds m ≡ true
  unit_holds m u = or_right (is_among (map negated (others_of l clause)) m) (s.units m) u

  by_a_unit : UnitIn s clause → ⊥
  by_a_unit h = elim (either_way (eqb h.unit l)) [
    | inl q ↦
        let new = o.stays [] holds (λ m t. t) in
        true≢false (sym (unit_holds l (subst (λ z. s.units z ≡ true) (eqb-true h.unit l q) h.is)) ∙ new.not_true)
    | inr f ↦ true≢false (sym (other_denied h.unit (λ e. true≢false (sym (subst (λ z. eqb h.unit z ≡ true) e (self h.unit)) ∙ f)) h.among) ∙ o.agree h.unit (unit_holds h.unit h.is))
  ]

  -- a literal that is false under the negated clause is l, or false under the negations of the other literals
  one_split : (m : ℕ) → rup_assumptions s clause (negated m) ≡ true → (m ≡ l) ⊎ (holds (negated m) ≡ true)
  one_split m t = elim (either_way (eqb m l)) [
    | inl q ↦ inl (eqb-true m l q)
    | inr f ↦ inr (elim (or_cases (is_among (map negated clause) (negated m)) (s.units (negated m)) t) [
      | inl a ↦ other_denied m (λ e. true≢false (sym (subst (λ z. eqb m z ≡ true) e (self m)) ∙ f)) (among_denied clause m a)
      | inr u ↦ unit_holds (negated m) u
    ])
  ]

  all_split : (c : List ℕ) → AllByRecursion (λ m. rup_assumptions s clause (negated m) ≡ true) c → AllByRecursion (λ m. (m ≡ l) ⊎ (holds (negated m) ≡ true)) c
  all_split [] h = tt
  all_split (m ∷ ms) h = (one_split m h.0, all_split ms h.1)

  no_open : (c : List ℕ) → is_among c l ≡ false → AllByRecursion (λ m. (m ≡ l) ⊎ (holds (negated m) ≡ true)) c → AllByRecursion (λ m. holds (negated m) ≡ true) c
  no_open [] e h = tt
  no_open (m ∷ ms) e h = (first, no_open ms (last (eqb m l) e) h.1)
    where
      last : (b : Bool) → (b || is_among ms l) ≡ false → is_among ms l ≡ false
      last true x = absurd (true≢false x)
      last false x = x

      first : holds (negated m) ≡ true
      first = elim h.0 [
        | inl q ↦ absurd (true≢false (sym (or_left (eqb m l) (is_among ms l) (subst (λ z. eqb m z ≡ true) q (self m))) ∙ e))
        | inr k ↦ k
      ]

  by_one : (c : List ℕ) → IsLive s c → AllByRecursion (λ m. rup_assumptions s clause (negated m) ≡ true) c → ⊥
  by_one c live h = elim (either_way (is_among c l)) [
    | inl t ↦
        let new = o.stays (c ∷ []) (λ m. eqb l m || holds m) (live, (l, all_split c h, t, λ m k. k)) in
        true≢false (sym (or_left (eqb l l) (holds l) (self l)) ∙ new.not_true)
    | inr f ↦ let new = o.stays [] holds (λ m t. t) in new.no_conflict c live (no_open c f (all_split c h))
  ]

  by_few : (named : List (List ℕ)) (hashes : List ℕ) → has_at_most_one hashes ≡ true → AreLiveByHash s named hashes → PropagatesToConflict (rup_assumptions s clause) named → ⊥
  by_few [] hashes few n h = h
  by_few (c ∷ []) [] few n h = n
  by_few (c ∷ []) (x ∷ hashes) few n h = by_one c n.0 h
  by_few (c ∷ d ∷ cs) [] few n h = n
  by_few (c ∷ d ∷ cs) (x ∷ []) few n h = n.2
  by_few (c ∷ d ∷ cs) (x ∷ y ∷ hashes) few n h = true≢false (sym few)

-- a clause derived from a unit or a single clause leaves none of its literals open
clause_never : (s : Session) (clause hashes : List ℕ) → CanDerive s clause hashes → has_at_most_one hashes ≡ true → (l : ℕ) → LeavesLiteralUnassigned s clause l → ⊥
clause_never s clause hashes may few l o = elim may [
  | by_unit u ↦ by_a_unit s clause l o (unit_in s clause u)
  | by_clauses named n h ↦ by_few s clause l o named hashes few n h
]

pub quiet_never : QuietIsNeverEmpowering
quiet_never s (AtClause redundant [] hashes) may quiet = λ l o. true≢false (sym o.among)
quiet_never s (AtClause redundant (k ∷ ks) hashes) may quiet = clause_never s (k ∷ ks) hashes may quiet
quiet_never s step may quiet = tt
