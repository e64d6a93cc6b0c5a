-- When clauses, in turn, lead to a conflict under assumed literals.
use Rattle.std.proofs.Common.{ℕ, ◌≡◌, Bool, true, false, not, ◌||◌, cond, eqb, List, [], ◌∷◌, Option, None, Some, refl, sym, ◌∙◌, ap, subst, ◌⊎◌, inl, inr}
use Rattle.std.proofs.lemmas.Bool.{or_cases, or_left, or_right, both_ways, eqb-true, eq-eqb, true≢false, or_parts}
use Rattle.std.specs.List.{AllByRecursion}
use Rattle.sat_base.specs.values.Literals.{negated}
use Rattle.sat_checker.specs.LiteralSets.{is_among}
use Rattle.sat_checker.specs.Propagation.{IsFalsified, IsUnit, UnitInTurn}
use Rattle.sat_checker.specs.SortedSets.{NoRepeats}
use Rattle.sat_checker.specs.inner.AssumedRoom.{AgreeWithinRoom, HasClauseRoom, HasClausesRoom}
use Rattle.sat_checker.specs.ClauseStates.{ClauseState, falsified, becomes_unit, neither, clause_state, state_by_open, not_false}
use Rattle.sat_hints.specs.Checks.{SomeIsNotUnit, LastIsNotFalsified}
use Rattle.sat_hints.specs.declared.answer.HintWhy.{HintWhy}
use Rattle.sat_hints.specs.declared.answer.HintWhy.TheVariants.{NotUnit, NotFalsified}
use Rattle.sat_hints.specs.inner.Refutation.{last_clause_failure, unit_failure, refutation_failure}

abbrev IsFalse : List ℕ → ℕ → Type 0
IsFalse assumed l = is_among assumed (negated l) ≡ true

-- if no literal of a clause is open, the clause is falsified
none_open : (assumed clause : List ℕ) → not_false assumed clause ≡ [] → IsFalsified assumed clause
none_open assumed [] e = tt
none_open assumed (l ∷ ls) e = go (none_open assumed ls) (is_among assumed (negated l)) refl e
  where
    go : (not_false assumed ls ≡ [] → IsFalsified assumed ls) → (b : Bool) → is_among assumed (negated l) ≡ b → cond (not b) (l ∷ not_false assumed ls) (not_false assumed ls) ≡ [] → IsFalsified assumed (l ∷ ls)
    go ih true h e' = (h, ih e')
    go ih false h e' = absurd cc

all_false : (assumed clause : List ℕ) → IsFalsified assumed clause → not_false assumed clause ≡ []
all_false assumed [] h = refl
all_false assumed (l ∷ ls) h = rw h.0 (all_false assumed ls h.1)

others_from : (assumed clause : List ℕ) (o : ℕ) → IsFalsified assumed clause → AllByRecursion (λ l. (l ≡ o) ⊎ IsFalse assumed l) clause
others_from assumed [] o h = tt
others_from assumed (l ∷ ls) o h = (inr h.0, others_from assumed ls o h.1)

-- `OneOpen assumed clause o` holds if `o` is the only open literal of the clause.
record OneOpen (assumed clause : List ℕ) (o : ℕ) : Type 0 where
  within : is_among clause o ≡ true
  not_false : is_among assumed (negated o) ≡ false
  others : AllByRecursion (λ l. (l ≡ o) ⊎ IsFalse assumed l) clause

one_open : (assumed clause : List ℕ) (o : ℕ) → not_false assumed clause ≡ o ∷ [] → OneOpen assumed clause o
one_open assumed [] o e = absurd cc
one_open assumed (l ∷ ls) o e = go (one_open assumed ls o) (is_among assumed (negated l)) refl e
  where
    go : (not_false assumed ls ≡ o ∷ [] → OneOpen assumed ls o) → (b : Bool) → is_among assumed (negated l) ≡ b → cond (not b) (l ∷ not_false assumed ls) (not_false assumed ls) ≡ o ∷ [] → OneOpen assumed (l ∷ ls) o
    go ih true h e' = let k = ih e' in record { within = or_right (eqb l o) (is_among ls o) k.within; not_false = k.not_false; others = (inr h, k.others) }
    go ih false h e' =
        let same : l ≡ o = cc in
        let rest : not_false assumed ls ≡ [] = cc in
        record {
          within = or_left (eqb l o) (is_among ls o) (eq-eqb l o same);
          not_false = subst (λ x. is_among assumed (negated x) ≡ false) same h;
          others = (inl same, others_from assumed ls o (none_open assumed ls rest));
        }

-- if o is not in the clause, all literals are false
away : (assumed : List ℕ) (o : ℕ) (ms : List ℕ) → is_among ms o ≡ false → AllByRecursion (λ m. (m ≡ o) ⊎ IsFalse assumed m) ms → IsFalsified assumed ms
away assumed o [] k a = tt
away assumed o (m ∷ ms) k a = (
  elim a.0 [ inl e ↦ absurd (both_ways (eqb m o || is_among ms o) k (or_left (eqb m o) (is_among ms o) (eq-eqb m o e))) | inr f ↦ f ],
  away assumed o ms (or_parts (eqb m o) (is_among ms o) k).1 a.1,
)

-- in a clause without repeats, at most o is open
only_open : (assumed clause : List ℕ) (o : ℕ) → NoRepeats clause → AllByRecursion (λ l. (l ≡ o) ⊎ IsFalse assumed l) clause → (not_false assumed clause ≡ []) ⊎ (not_false assumed clause ≡ o ∷ [])
only_open assumed [] o n h = inl refl
only_open assumed (l ∷ ls) o n h = go (only_open assumed ls o n.1 h.1) (is_among assumed (negated l)) refl
  where
    go : (not_false assumed ls ≡ []) ⊎ (not_false assumed ls ≡ o ∷ []) → (b : Bool) → is_among assumed (negated l) ≡ b → (cond (not b) (l ∷ not_false assumed ls) (not_false assumed ls) ≡ []) ⊎ (cond (not b) (l ∷ not_false assumed ls) (not_false assumed ls) ≡ o ∷ [])
    go ih true e = ih
    go ih false e = elim h.0 [
      | inl same ↦ let removed : is_among ls o ≡ false = subst (λ x. is_among ls x ≡ false) same n.0 in
          inr (ap (λ ms. l ∷ ms) (all_false assumed ls (away assumed o ls removed h.1)) ∙ ap (λ x. x ∷ []) same)
      | inr f ↦ absurd (both_ways (is_among assumed (negated l)) e f)
    ]

-- a literal of a falsified clause is false
member_false : (assumed clause : List ℕ) (o : ℕ) → IsFalsified assumed clause → is_among clause o ≡ true → IsFalse assumed o
member_false assumed [] o h m = absurd (true≢false (sym m))
member_false assumed (l ∷ ls) o h m = elim (or_cases (eqb l o) (is_among ls o) m) [
  | inl e ↦ subst (λ x. is_among assumed (negated x) ≡ true) (eqb-true l o e) h.0
  | inr k ↦ member_false assumed ls o h.1 k
]

-- THE MEANING OF A VERDICT
falsified_from : (assumed ls : List ℕ) → state_by_open assumed ls ≡ falsified → ls ≡ []
falsified_from assumed [] e = refl
falsified_from assumed (l ∷ []) e = go (is_among assumed l) e
  where
    go : (b : Bool) → cond b neither (becomes_unit l) ≡ falsified → (l ∷ []) ≡ []
    go true e = absurd cc
    go false e = absurd cc
falsified_from assumed (l ∷ m ∷ ls) e = absurd cc

-- a clause whose state is `falsified` is falsified
pub is_falsified : (assumed clause : List ℕ) → clause_state assumed clause ≡ falsified → IsFalsified assumed clause
is_falsified assumed clause e = none_open assumed clause (falsified_from assumed (not_false assumed clause) e)

-- a falsified clause has the state `falsified`
pub falsifies : (assumed clause : List ℕ) → IsFalsified assumed clause → clause_state assumed clause ≡ falsified
falsifies assumed clause h = ap (state_by_open assumed) (all_false assumed clause h)

record Opens (assumed ls : List ℕ) (l : ℕ) : Type 0 where
  one : ls ≡ l ∷ []
  new : is_among assumed l ≡ false

opens_from : (assumed ls : List ℕ) (l : ℕ) → state_by_open assumed ls ≡ becomes_unit l → Opens assumed ls l
opens_from assumed [] l e = absurd cc
opens_from assumed (m ∷ []) l e = go (is_among assumed m) refl e
  where
    go : (b : Bool) → is_among assumed m ≡ b → cond b neither (becomes_unit m) ≡ becomes_unit l → Opens assumed (m ∷ []) l
    go true h e' = absurd cc
    go false h e' = let same : m ≡ l = cc in record { one = ap (λ x. x ∷ []) same; new = subst (λ x. is_among assumed x ≡ false) same h }
opens_from assumed (m ∷ n ∷ ls) l e = absurd cc

-- a clause whose state is `becomes_unit` is unit
pub is_unit : (assumed clause : List ℕ) (l : ℕ) → clause_state assumed clause ≡ becomes_unit l → IsUnit assumed clause l
is_unit assumed clause l e =
    let o = opens_from assumed (not_false assumed clause) l e in
    let k = one_open assumed clause l o.one in
    record { within = k.within; not_true = o.new; not_false = k.not_false; others = k.others }

-- a unit clause without repeats has the state `becomes_unit`
pub unit_opens : (assumed clause : List ℕ) (l : ℕ) → NoRepeats clause → IsUnit assumed clause l → clause_state assumed clause ≡ becomes_unit l
unit_opens assumed clause l n u = elim (only_open assumed clause l n u.others) [
  | inl e ↦ absurd (both_ways (is_among assumed (negated l)) u.not_false (member_false assumed clause l (none_open assumed clause e) u.within))
  | inr e ↦ ap (state_by_open assumed) e ∙ ap (λ b. cond b neither (becomes_unit l)) u.not_true
]

-- THE RESULT FOR SEVERAL CLAUSES
abbrev pub Says : Option HintWhy → List ℕ → List (List ℕ) → Type 0
Says None assumed cs = UnitInTurn assumed cs
Says (Some NotUnit) assumed cs = SomeIsNotUnit assumed cs
Says (Some NotFalsified) assumed cs = LastIsNotFalsified assumed cs
Says (Some e) assumed cs = ⊥

says_further : (why : Option HintWhy) (assumed c d : List ℕ) (ds : List (List ℕ)) (l : ℕ) → IsUnit assumed c l → Says why (l ∷ assumed) (d ∷ ds) → Says why assumed (c ∷ d ∷ ds)
says_further None assumed c d ds l u h = (l, u, h)
says_further (Some NotUnit) assumed c d ds l u h = inr (l, u, h)
says_further (Some NotFalsified) assumed c d ds l u h = (l, u, h)
says_further (Some e) assumed c d ds l u h = h

-- the result of `refutation_failure` is as `Says` says
pub course_says : (cs : List (List ℕ)) (assumed : List ℕ) → AllByRecursion NoRepeats cs → Says (refutation_failure assumed cs) assumed cs
course_says [] assumed n = tt
course_says (c ∷ []) assumed n = go (clause_state assumed c) refl
  where
    go : (v : ClauseState) → clause_state assumed c ≡ v → Says (last_clause_failure v) assumed (c ∷ [])
    go falsified e = is_falsified assumed c e
    go (becomes_unit l) e = λ f. let g = falsifies assumed c f in absurd cc
    go neither e = λ f. let g = falsifies assumed c f in absurd cc
course_says (c ∷ d ∷ ds) assumed n = go (λ l. course_says (d ∷ ds) (l ∷ assumed) n.1) (clause_state assumed c) refl
  where
    go : ((l : ℕ) → Says (refutation_failure (l ∷ assumed) (d ∷ ds)) (l ∷ assumed) (d ∷ ds)) → (v : ClauseState) → clause_state assumed c ≡ v → Says (unit_failure v (λ l. refutation_failure (l ∷ assumed) (d ∷ ds))) assumed (c ∷ d ∷ ds)
    go ih falsified e = inl (λ l u. let g = unit_opens assumed c l n.0 u in absurd cc)
    go ih (becomes_unit l) e = says_further (refutation_failure (l ∷ assumed) (d ∷ ds)) assumed c d ds l (is_unit assumed c l e) (ih l)
    go ih neither e = inl (λ l u. let g = unit_opens assumed c l n.0 u in absurd cc)

-- ONLY ASSUMED LITERALS THAT OCCUR IN THE CLAUSES MATTER
pub room_in : (room c : List ℕ) (l : ℕ) → HasClauseRoom room c → is_among c l ≡ true → (is_among room l ≡ true) × (is_among room (negated l) ≡ true)
room_in room [] l h m = absurd cc
room_in room (x ∷ xs) l h m = elim (or_cases (eqb x l) (is_among xs l) m) [
  | inl e ↦ subst (λ y. (is_among room y ≡ true) × (is_among room (negated y) ≡ true)) (eqb-true x l e) h.0
  | inr k ↦ room_in room xs l h.1 k
]

same_open : (room us vs clause : List ℕ) → HasClauseRoom room clause → AgreeWithinRoom room us vs → not_false us clause ≡ not_false vs clause
same_open room us vs [] h same = refl
same_open room us vs (l ∷ ls) h same =
    ap (λ b. cond (not b) (l ∷ not_false us ls) (not_false us ls)) (same (negated l) h.0.1) ∙ ap (λ ms. cond (not (is_among vs (negated l))) (l ∷ ms) ms) (same_open room us vs ls h.1 same)

same_verdict : (room us vs clause : List ℕ) → HasClauseRoom room clause → AgreeWithinRoom room us vs → clause_state us clause ≡ clause_state vs clause
same_verdict room us vs clause h same = ap (state_by_open us) (same_open room us vs clause h same) ∙ go (not_false vs clause) refl
  where
    go : (ns : List ℕ) → not_false vs clause ≡ ns → state_by_open us ns ≡ state_by_open vs ns
    go [] e = refl
    go (l ∷ []) e = ap (λ b. cond b neither (becomes_unit l)) (same l (room_in room clause l h (one_open vs clause l e).within).0)
    go (l ∷ m ∷ ls) e = refl

-- literals that agree on the clauses' variables lead to the same result
pub same_course : (cs : List (List ℕ)) (room us vs : List ℕ) → HasClausesRoom room cs → AgreeWithinRoom room us vs → refutation_failure us cs ≡ refutation_failure vs cs
same_course [] room us vs h same = refl
same_course (c ∷ []) room us vs h same = ap last_clause_failure (same_verdict room us vs c h.0 same)
same_course (c ∷ d ∷ ds) room us vs h same =
    ap (λ v. unit_failure v (λ l. refutation_failure (l ∷ us) (d ∷ ds))) (same_verdict room us vs c h.0 same) ∙ go (λ l. same_course (d ∷ ds) room (l ∷ us) (l ∷ vs) h.1 (λ m r. ap (λ b. eqb l m || b) (same m r))) (clause_state vs c)
  where
    go : ((l : ℕ) → refutation_failure (l ∷ us) (d ∷ ds) ≡ refutation_failure (l ∷ vs) (d ∷ ds)) → (v : ClauseState) → unit_failure v (λ l. refutation_failure (l ∷ us) (d ∷ ds)) ≡ unit_failure v (λ l. refutation_failure (l ∷ vs) (d ∷ ds))
    go ih falsified = refl
    go ih (becomes_unit l) = ih l
    go ih neither = refl
