-- The check is exact without the literals that have no room, because no clause of the buckets has them.
use Rattle.std.proofs.Common.{ℕ, ◌≡◌, ◌↔◌, ◌∙◌, ◌+◌, ◌<◌, Bool, true, false, ◌||◌, cond, eqb, List, [], ◌∷◌, ◌++◌, length, take, drop, get_or, map, refl, sym, ap, subst, ◌⊎◌, inl, inr}
use Rattle.std.proofs.lemmas.Bool.{or_cases, or_left, or_right, or_parts, both_ways, cond-true, eqb-true, eq-eqb, false_from_ne_true}
use Rattle.std.proofs.lemmas.List.{map-append}
use Rattle.std.specs.List.{AllByRecursion, list_any}
use Rattle.sat_base.specs.values.Literals.{negated, negated_if}
use Rattle.sat_checker.specs.LiteralSets.{is_among, is_tautology}
use Rattle.sat_checker.specs.Propagation.{clauses_in, BucketsConflict, PassesCheck, tautology, unit_true, conflict}
use Rattle.sat_checker.specs.inner.Marks.{NoRepeats}
use Rattle.sat_checker.specs.inner.AssumedRoom.{LiteralsAndRoom, AgreeWithinRoom, HasClauseRoom, HasClausesRoom, NegationsAssumedInRoom, signed}
use Rattle.sat_checker.specs.inner.Walk.{walk_buckets}
use Rattle.sat_checker.proofs.lemmas.propagation.Denied.{clause_more, clause_split}
use Rattle.sat_checker.proofs.lemmas.propagation.Greedy.{Within-itself, joined_front, picked_each, rule_from_walk, walk_from_rule}
use Rattle.sat_checker.proofs.lemmas.propagation.Members.{same_runs_of}
use Rattle.sat_checker.proofs.lemmas.propagation.Soundness.{negated-negated}
use Rattle.sat_checker.proofs.lemmas.sets.Order.{among-append}
use Rattle.sat_checker.proofs.lemmas.sets.Trails.{same_tests}
use Rattle.sat_checker.proofs.lemmas.store.Places.{eqb_comm}

negated_is : (x l : ℕ) → eqb (negated x) l ≡ eqb x (negated l)
negated_is x l =
    same_tests (eqb (negated x) l) (eqb x (negated l)) (λ h. eq-eqb x (negated l) (sym (negated-negated x) ∙ ap negated (eqb-true (negated x) l h)))
    (λ h. eq-eqb (negated x) l (ap negated (eqb-true x (negated l) h) ∙ negated-negated l))

among_negations : (ls : List ℕ) (x : ℕ) → is_among (map negated ls) x ≡ is_among ls (negated x)
among_negations [] x = refl
among_negations (l ∷ ls) x = ap (λ b. b || is_among (map negated ls) x) (negated_is l x) ∙ ap (λ b. eqb l (negated x) || b) (among_negations ls x)

-- a signed literal's negation is in the signed clause exactly if the literal's negation is in the clause
pub other_among : (negate : Bool) (ls : List ℕ) (l : ℕ) → is_among (signed negate ls) (negated (negated_if negate l)) ≡ is_among ls (negated l)
other_among true ls l = among_negations ls (negated (negated l)) ∙ ap (is_among ls) (ap negated (negated-negated l))
other_among false ls l = refl

any_push : (test : ℕ → Bool) (xs : List ℕ) (x : ℕ) → list_any test (xs ++ x ∷ []) ≡ (test x || list_any test xs)
any_push test [] x = refl
any_push test (y ∷ ys) x = ap (λ b. test y || b) (any_push test ys x) ∙ swap (test y) (test x) (list_any test ys)
  where
    swap : (a b c : Bool) → (a || (b || c)) ≡ (b || (a || c))
    swap true true c = refl
    swap true false c = refl
    swap false b c = refl

tautology_push : (xs : List ℕ) (x : ℕ) → is_tautology (xs ++ x ∷ []) ≡ (is_among xs (negated x) || is_tautology xs)
tautology_push [] x = refl
tautology_push (y ∷ ys) x =
    ap (λ b. b || is_tautology (ys ++ x ∷ [])) (among-append ys (x ∷ []) (negated y)) ∙ ap (λ b. (is_among ys (negated y) || (eqb x (negated y) || false)) || b) (tautology_push ys x)
    ∙ ap (λ b. (is_among ys (negated y) || (b || false)) || (is_among ys (negated x) || is_tautology ys)) (eqb_comm x (negated y) ∙ negated_is y x)
    ∙ swap (is_among ys (negated y)) (eqb y (negated x)) (is_among ys (negated x)) (is_tautology ys)
  where
    swap : (a e m t : Bool) → ((a || (e || false)) || (m || t)) ≡ ((e || m) || (a || t))
    swap true true m t = refl
    swap false true m t = refl
    swap true false true t = refl
    swap true false false t = refl
    swap false false m t = refl

any_front : (test : ℕ → Bool) (xs ys : List ℕ) → list_any test xs ≡ true → list_any test (xs ++ ys) ≡ true
any_front test [] ys h = absurd (both_ways false refl h)
any_front test (x ∷ xs) ys h = elim (or_cases (test x) (list_any test xs) h) [ inl a ↦ or_left (test x) (list_any test (xs ++ ys)) a | inr b ↦ or_right (test x) (list_any test (xs ++ ys)) (any_front test xs ys b) ]

tautology_front : (xs ys : List ℕ) → is_tautology xs ≡ true → is_tautology (xs ++ ys) ≡ true
tautology_front [] ys h = absurd (both_ways false refl h)
tautology_front (x ∷ xs) ys h =
    elim (or_cases (is_among xs (negated x)) (is_tautology xs) h) [
      | inl a ↦ or_left (is_among (xs ++ ys) (negated x)) (is_tautology (xs ++ ys)) (among-append xs ys (negated x) ∙ or_left (is_among xs (negated x)) (is_among ys (negated x)) a)
      | inr b ↦ or_right (is_among (xs ++ ys) (negated x)) (is_tautology (xs ++ ys)) (tautology_front xs ys b)
    ]

-- one more literal is denied
module _ (old mid : LiteralsAndRoom) (seen : List ℕ) (x : ℕ) (within : (l : ℕ) → is_among old.literals l ≡ true → is_among old.room l ≡ true) (denied : NegationsAssumedInRoom old seen mid) where
  -- a literal is true exactly if it is a unit or its negation is one of the earlier literals of the clause
  reached_is : cond (is_among old.room x) (is_among mid.literals x) (is_among seen (negated x)) ≡ (is_among seen (negated x) || is_among old.literals x)
  reached_is = go (is_among old.room x) refl
    where
      lone : (b : Bool) → b ≡ (b || false)
      lone true = refl
      lone false = refl

      go : (b : Bool) → is_among old.room x ≡ b → cond b (is_among mid.literals x) (is_among seen (negated x)) ≡ (is_among seen (negated x) || is_among old.literals x)
      go true e = denied.agrees x e ∙ among-append (map negated seen) old.literals x ∙ ap (λ b. b || is_among old.literals x) (among_negations seen x)
      go false e =
          let none : is_among old.literals x ≡ false = false_from_ne_true (is_among old.literals x) (λ t. both_ways (is_among old.room x) e (within x t)) in
          lone (is_among seen (negated x)) ∙ ap (λ b. is_among seen (negated x) || b) (sym none)

  pub reached_in_room : (whole left : List ℕ) → (seen ++ x ∷ []) ++ left ≡ whole → cond (is_among old.room x) (is_among mid.literals x) (is_among seen (negated x)) ≡ true
      → (list_any (is_among old.literals) whole ≡ true) ⊎ (is_tautology whole ≡ true)
  reached_in_room whole left split h =
      elim (or_cases (is_among seen (negated x)) (is_among old.literals x) (sym reached_is ∙ h)) [
        | inl a ↦ inr (subst (λ c. is_tautology c ≡ true) split (tautology_front (seen ++ x ∷ []) left (tautology_push seen x ∙ or_left (is_among seen (negated x)) (is_tautology seen) a)))
        | inr b ↦ inl (subst (λ c. list_any (is_among old.literals) c ≡ true) split
            (any_front (is_among old.literals) (seen ++ x ∷ []) left (any_push (is_among old.literals) seen x ∙ or_left (is_among old.literals x) (list_any (is_among old.literals) seen) b)))
      ]

  pub denied_more : (new : LiteralsAndRoom) → cond (is_among old.room x) (is_among mid.literals x) (is_among seen (negated x)) ≡ false → AgreeWithinRoom old.room new.literals (negated x ∷ mid.literals) → NegationsAssumedInRoom old (seen ++ x ∷ []) new
  denied_more new h same =
      let none = or_parts (is_among seen (negated x)) (is_among old.literals x) (sym reached_is ∙ h) in
      record {
        agrees = λ l r. same l r ∙ ap (λ b. eqb (negated x) l || b) (denied.agrees l r ∙ among-append (map negated seen) old.literals l)
            ∙ swap (eqb (negated x) l) (is_among (map negated seen) l) (is_among old.literals l)
            ∙ sym (ap (λ xs. is_among (xs ++ old.literals) l) (map-append negated seen (x ∷ [])) ∙ among-append (map negated seen ++ negated x ∷ []) old.literals l
            ∙ ap (λ b. b || is_among old.literals l) (among-append (map negated seen) (negated x ∷ []) l));
        no_unit = any_push (is_among old.literals) seen x ∙ ap (λ b. b || list_any (is_among old.literals) seen) none.1 ∙ denied.no_unit;
        no_tautology = tautology_push seen x ∙ ap (λ b. b || is_tautology seen) none.0 ∙ denied.no_tautology;
      }
    where
      swap : (e n a : Bool) → (e || (n || a)) ≡ ((n || (e || false)) || a)
      swap true true a = refl
      swap true false a = refl
      swap false true a = refl
      swap false false a = refl

-- negating all literals does not change whether both signs of a variable occur
pub tautology_signed : (negate : Bool) (ls : List ℕ) → is_tautology (signed negate ls) ≡ is_tautology ls
tautology_signed false ls = refl
tautology_signed true [] = refl
tautology_signed true (l ∷ ls) =
    ap (λ b. b || is_tautology (map negated ls)) (among_negations ls (negated (negated l)) ∙ ap (is_among ls) (ap negated (negated-negated l)))
    ∙ ap (λ b. is_among ls (negated l) || b) (tautology_signed true ls)

-- the literal at index `i`, after the earlier ones are denied
module _ (old mid : LiteralsAndRoom) (negate : Bool) (ls : List ℕ) (i l : ℕ) (inside : i < length ls) (is : l ≡ get_or ls i l) (room : mid.room ≡ old.room)
    (within : (m : ℕ) → is_among old.literals m ≡ true → is_among old.room m ≡ true) (denied : NegationsAssumedInRoom old (signed negate (take i ls)) mid) where
  one_more : signed negate (take (i + 1) ls) ≡ signed negate (take i ls) ++ negated_if negate l ∷ []
  one_more = clause_more negate ls i l inside ∙ ap (λ k. signed negate (take i ls) ++ negated_if negate k ∷ []) (sym is)

  split : (signed negate (take i ls) ++ negated_if negate l ∷ []) ++ signed negate (drop (i + 1) ls) ≡ signed negate ls
  split = ap (λ c. c ++ signed negate (drop (i + 1) ls)) (sym one_more) ∙ clause_split negate ls (i + 1)

  -- its negation is not before it, since the clause is no tautology
  fresh : is_tautology ls ≡ false → is_among (signed negate (take i ls)) (negated (negated_if negate l)) ≡ false
  fresh t = false_from_ne_true (is_among (signed negate (take i ls)) (negated (negated_if negate l))) (
      λ a. both_ways (is_tautology (signed negate ls)) (tautology_signed negate ls ∙ t)
      (subst (λ c. is_tautology c ≡ true) split (tautology_front (signed negate (take i ls) ++ negated_if negate l ∷ []) (signed negate (drop (i + 1) ls))
      (tautology_push (signed negate (take i ls)) (negated_if negate l)
      ∙ or_left (is_among (signed negate (take i ls)) (negated (negated_if negate l))) (is_tautology (signed negate (take i ls))) a))))

  pub place_reached : (x : ℕ) → x ≡ negated_if negate l → ((m : ℕ) → is_among mid.literals m ≡ true → is_among mid.room m ≡ true) → is_among mid.literals x ≡ true
      → (list_any (is_among old.literals) (signed negate ls) ≡ true) ⊎ (is_tautology (signed negate ls) ≡ true)
  place_reached x e stand h =
      let k : is_among mid.literals (negated_if negate l) ≡ true = subst (λ y. is_among mid.literals y ≡ true) e h in
      let r : is_among old.room (negated_if negate l) ≡ true = subst (λ xs. is_among xs (negated_if negate l) ≡ true) room (stand (negated_if negate l) k) in
      reached_in_room old mid (signed negate (take i ls)) (negated_if negate l) within denied (signed negate ls) (signed negate (drop (i + 1) ls)) split
      (cond-true (is_among old.room (negated_if negate l)) (is_among mid.literals (negated_if negate l)) (is_among (signed negate (take i ls)) (negated (negated_if negate l))) r ∙ k)

  pub place_denied : (new : LiteralsAndRoom) (x other : ℕ) → x ≡ negated_if negate l → other ≡ negated x → is_among mid.literals x ≡ false → is_tautology ls ≡ false → AgreeWithinRoom mid.room new.literals (other ∷ mid.literals)
      → NegationsAssumedInRoom old (signed negate (take (i + 1) ls)) new
  place_denied new x other e o h t same =
      subst (λ c. NegationsAssumedInRoom old c new) (sym one_more)
      (denied_more old mid (signed negate (take i ls)) (negated_if negate l) within denied new
      (either (is_among old.room (negated_if negate l)) (subst (λ y. is_among mid.literals y ≡ false) e h) (fresh t))
      (λ m r. same m (subst (λ xs. is_among xs m ≡ true) (sym room) r) ∙ ap (λ y. eqb y m || is_among mid.literals m) (o ∙ ap negated e)))
    where
      either : (b : Bool) → {u v : Bool} → u ≡ false → v ≡ false → cond b u v ≡ false
      either true p q = p
      either false p q = q

-- a conflict depends only on the literals that have room
pub rule_same : (room us vs : List ℕ) (buckets : List (List (List ℕ))) → AgreeWithinRoom room us vs → AllByRecursion (HasClausesRoom room) buckets → BucketsConflict us buckets → BucketsConflict vs buckets
rule_same room us vs buckets same roomy k = record {
  first = k.first;
  rest = k.rest;
  picked = k.picked;
  split = k.split;
  none_empty = k.none_empty;
  chosen = k.chosen;
  conflict = same_runs_of (λ l. is_among room l ≡ true) k.picked us vs same
      (picked_each (HasClauseRoom room) k.picked (clauses_in k.first) k.chosen (joined_front (HasClauseRoom room) k.first k.rest (subst (AllByRecursion (HasClausesRoom room)) k.split roomy))) k.conflict;
}

-- the check accepts exactly by the rule, although literals without room are not assumed
pub exact_in_room : (old new : LiteralsAndRoom) (clause : List ℕ) (buckets : List (List (List ℕ))) (answer : Bool) → AllByRecursion (AllByRecursion NoRepeats) buckets → AllByRecursion (HasClausesRoom old.room) buckets → NegationsAssumedInRoom old clause new → answer ≡ walk_buckets new.literals buckets
    → (answer ≡ true) ↔ PassesCheck old.literals clause buckets
exact_in_room old new clause buckets answer sets roomy denied w = (
  (λ t. conflict (rule_same old.room new.literals (map negated clause ++ old.literals) buckets denied.agrees roomy (rule_from_walk new.literals buckets (sym w ∙ t)))),
  by_rule,
)
  where
    by_rule : PassesCheck old.literals clause buckets → answer ≡ true
    by_rule (tautology t) = absurd (both_ways (is_tautology clause) denied.no_tautology t)
    by_rule (unit_true u) = absurd (both_ways (list_any (is_among old.literals) clause) denied.no_unit u)
    by_rule (conflict k) =
        w ∙ walk_from_rule new.literals new.literals buckets (Within-itself new.literals) sets (rule_same old.room (map negated clause ++ old.literals) new.literals buckets (λ l r. sym (denied.agrees l r)) roomy k)
