-- The literals after a clause's negation is assumed, and that the check is then exact.
use Rattle.std.proofs.Common.{length, take, drop, get_or, ap, ◌<◌, ◌+◌, ◌↔◌, ℕ, ◌≡◌, Bool, true, false, cond, eqb, List, [], ◌∷◌, ◌++◌, map, refl, sym, ◌∙◌, subst, Some, None, ◌⊎◌, inl, inr, MatchBool}
use Rattle.std.proofs.lemmas.Bool.{or_cases, or_left, or_right, or_from, both_ways, eqb-true, eq-eqb, true≢false, false_from_ne_true}
use Rattle.std.specs.List.{AllByRecursion, list_any}
use Rattle.sat_base.specs.values.Literals.{negated, negated_if}
use Rattle.sat_checker.specs.LiteralSets.{is_among, is_tautology}
use Rattle.sat_checker.specs.inner.Marks.{NoRepeats}
use Rattle.sat_checker.specs.Propagation.{PassesCheck, tautology, unit_true, conflict}
use Rattle.sat_checker.specs.inner.WalkResults.{AssumesMore}
use Rattle.sat_checker.specs.inner.AssumedRoom.{AssumesOnce, LiteralsAndRoom, signed, with_room}
use Rattle.sat_checker.specs.inner.Walk.{negations_assumed, walk_buckets}
use Rattle.std.proofs.lemmas.List.{length-map, map-append, map-id, get_or-map, take_more, take-append-drop, drop_more}
use Rattle.sat_checker.proofs.lemmas.propagation.Walking.{Extends-itself, Extends-assumed}
use Rattle.sat_checker.proofs.lemmas.propagation.Greedy.{Within, rule_from_walk, walk_from_rule}

-- the assumed literals after the negation of `l` is assumed
abbrev with_denied : List ℕ → ℕ → List ℕ
with_denied assumed l = cond (is_among assumed (negated l)) assumed (negated l ∷ assumed)

-- they are the earlier ones and the negation of `l`
pub denied_among : (assumed : List ℕ) (l m : ℕ) → is_among (with_denied assumed l) m ≡ true → (m ≡ negated l) ⊎ (is_among assumed m ≡ true)
denied_among assumed l m = go (is_among assumed (negated l))
  where
    go : (b : Bool) → is_among (cond b assumed (negated l ∷ assumed)) m ≡ true → (m ≡ negated l) ⊎ (is_among assumed m ≡ true)
    go true h = inr h
    go false h = elim (or_cases (eqb (negated l) m) (is_among assumed m) h) [ inl e ↦ inl (sym (eqb-true (negated l) m e)) | inr k ↦ inr k ]

pub among_denied : (assumed : List ℕ) (l m : ℕ) → (m ≡ negated l) ⊎ (is_among assumed m ≡ true) → is_among (with_denied assumed l) m ≡ true
among_denied assumed l m = go (is_among assumed (negated l)) refl
  where
    go : (b : Bool) → is_among assumed (negated l) ≡ b → (m ≡ negated l) ⊎ (is_among assumed m ≡ true) → is_among (cond b assumed (negated l ∷ assumed)) m ≡ true
    go true e h = elim h [ inl s ↦ subst (λ x. is_among assumed x ≡ true) (sym s) e | inr k ↦ k ]
    go false e h = elim h [ inl s ↦ or_left (eqb (negated l) m) (is_among assumed m) (eq-eqb (negated l) m (sym s)) | inr k ↦ or_right (eqb (negated l) m) (is_among assumed m) k ]

-- if a literal is true after `l` is denied, it is the negation of `l` or was true before
any_denied : (assumed : List ℕ) (l : ℕ) (ls : List ℕ) → list_any (is_among (with_denied assumed l)) ls ≡ true → (is_among ls (negated l) ≡ true) ⊎ (list_any (is_among assumed) ls ≡ true)
any_denied assumed l [] h = absurd (true≢false (sym h))
any_denied assumed l (m ∷ ms) h =
    elim (or_cases (is_among (with_denied assumed l) m) (list_any (is_among (with_denied assumed l)) ms) h) [
      | inl k ↦ elim (denied_among assumed l m k) [ inl e ↦ inl (or_left (eqb m (negated l)) (is_among ms (negated l)) (eq-eqb m (negated l) e)) | inr a ↦ inr (or_left (is_among assumed m) (list_any (is_among assumed) ms) a) ]
      | inr k ↦ elim (any_denied assumed l ms k) [ inl e ↦ inl (or_right (eqb m (negated l)) (is_among ms (negated l)) e) | inr a ↦ inr (or_right (is_among assumed m) (list_any (is_among assumed) ms) a) ]
    ]

-- if a literal was true, a unit satisfies the clause or it is a tautology
pub denied_none : (clause assumed : List ℕ) → negations_assumed assumed clause ≡ None → (list_any (is_among assumed) clause ≡ true) ⊎ (is_tautology clause ≡ true)
denied_none [] assumed e = absurd cc
denied_none (l ∷ ls) assumed e = go (denied_none ls) (is_among assumed l) refl e
  where
    go : ((more : List ℕ) → negations_assumed more ls ≡ None → (list_any (is_among more) ls ≡ true) ⊎ (is_tautology ls ≡ true)) → (b : Bool) → is_among assumed l ≡ b → cond b None (negations_assumed (with_denied assumed l) ls) ≡ None → (list_any (is_among assumed) (l ∷ ls) ≡ true) ⊎ (is_tautology (l ∷ ls) ≡ true)
    go ih true h e' = inl (or_left (is_among assumed l) (list_any (is_among assumed) ls) h)
    go ih false h e' =
        elim (ih (with_denied assumed l) e') [
          | inl k ↦ elim (any_denied assumed l ls k) [ inl m ↦ inr (or_left (is_among ls (negated l)) (is_tautology ls) m) | inr a ↦ inl (or_right (is_among assumed l) (list_any (is_among assumed) ls) a) ]
          | inr t ↦ inr (or_right (is_among ls (negated l)) (is_tautology ls) t)
        ]

-- exactly the negations and the earlier literals are assumed; no unit satisfies the clause, which is no tautology
pub record Denied (assumed clause more : List ℕ) : Type 0 where
  pub enough : Within (map negated clause ++ assumed) more
  pub only : Within more (map negated clause ++ assumed)
  pub no_unit : list_any (is_among assumed) clause ≡ false
  pub no_tautology : is_tautology clause ≡ false

among_append : (xs ys : List ℕ) (m : ℕ) → is_among (xs ++ ys) m ≡ true → (is_among xs m ≡ true) ⊎ (is_among ys m ≡ true)
among_append [] ys m h = inr h
among_append (x ∷ xs) ys m h =
    elim (or_cases (eqb x m) (is_among (xs ++ ys) m) h) [
      | inl e ↦ inl (or_left (eqb x m) (is_among xs m) e)
      | inr k ↦ elim (among_append xs ys m k) [ inl a ↦ inl (or_right (eqb x m) (is_among xs m) a) | inr b ↦ inr b ]
    ]

append_among : (xs ys : List ℕ) (m : ℕ) → (is_among xs m ≡ true) ⊎ (is_among ys m ≡ true) → is_among (xs ++ ys) m ≡ true
append_among [] ys m h = elim h [ inl a ↦ absurd (true≢false (sym a)) | inr b ↦ b ]
append_among (x ∷ xs) ys m h =
    elim h [
      | inl a ↦ elim (or_cases (eqb x m) (is_among xs m) a) [ inl e ↦ or_left (eqb x m) (is_among (xs ++ ys) m) e | inr k ↦ or_right (eqb x m) (is_among (xs ++ ys) m) (append_among xs ys m (inl k)) ]
      | inr b ↦ or_right (eqb x m) (is_among (xs ++ ys) m) (append_among xs ys m (inr b))
    ]

-- `list_any` is true if a member passes the test
any_member : (test : ℕ → Bool) (ls : List ℕ) (l : ℕ) → is_among ls l ≡ true → test l ≡ true → list_any test ls ≡ true
any_member test [] l m t = absurd (true≢false (sym m))
any_member test (x ∷ xs) l m t =
    elim (or_cases (eqb x l) (is_among xs l) m) [ inl e ↦ or_left (test x) (list_any test xs) (subst (λ y. test y ≡ true) (sym (eqb-true x l e)) t) | inr k ↦ or_right (test x) (list_any test xs) (any_member test xs l k t) ]

any_weaker : (p q : ℕ → Bool) → ((m : ℕ) → p m ≡ true → q m ≡ true) → (ls : List ℕ) → list_any p ls ≡ true → list_any q ls ≡ true
any_weaker p q w [] h = h
any_weaker p q w (l ∷ ls) h = elim (or_cases (p l) (list_any p ls) h) [ inl a ↦ or_left (q l) (list_any q ls) (w l a) | inr b ↦ or_right (q l) (list_any q ls) (any_weaker p q w ls b) ]

pub denied_some : (clause assumed more : List ℕ) → negations_assumed assumed clause ≡ Some more → Denied assumed clause more
denied_some [] assumed more e =
    let same : assumed ≡ more = cc in
    record { enough = record { each = λ l h. subst (λ x. is_among x l ≡ true) same h }; only = record { each = λ l h. subst (λ x. is_among x l ≡ true) (sym same) h }; no_unit = refl; no_tautology = refl }
denied_some (l ∷ ls) assumed more e = go (λ m. denied_some ls m more) (is_among assumed l) refl e
  where
    go : ((m : List ℕ) → negations_assumed m ls ≡ Some more → Denied m ls more) → (b : Bool) → is_among assumed l ≡ b → cond b None (negations_assumed (with_denied assumed l) ls) ≡ Some more → Denied assumed (l ∷ ls) more
    go ih true h e' = absurd cc
    go ih false h e' =
        let d = ih (with_denied assumed l) e' in
        record {
          enough = record {
            each = λ m k. d.enough.each m (append_among (map negated ls) (with_denied assumed l) m
                (elim (or_cases (eqb (negated l) m) (is_among (map negated ls ++ assumed) m) k) [
                  | inl s ↦ inr (among_denied assumed l m (inl (sym (eqb-true (negated l) m s))))
                  | inr a ↦ elim (among_append (map negated ls) assumed m a) [ inl x ↦ inl x | inr y ↦ inr (among_denied assumed l m (inr y)) ]
                ]));
          };
          only = record {
            each = λ m k. elim (among_append (map negated ls) (with_denied assumed l) m (d.only.each m k)) [
              | inl x ↦ or_right (eqb (negated l) m) (is_among (map negated ls ++ assumed) m) (append_among (map negated ls) assumed m (inl x))
              | inr y ↦ elim (denied_among assumed l m y) [
                | inl s ↦ or_left (eqb (negated l) m) (is_among (map negated ls ++ assumed) m) (eq-eqb (negated l) m (sym s))
                | inr z ↦ or_right (eqb (negated l) m) (is_among (map negated ls ++ assumed) m) (append_among (map negated ls) assumed m (inr z))
              ]
            ];
          };
          no_unit = or_from (is_among assumed l) (list_any (is_among assumed) ls) h
              (false_from_ne_true (list_any (is_among assumed) ls) (λ t. both_ways (list_any (is_among (with_denied assumed l)) ls) d.no_unit
              (any_weaker (is_among assumed) (is_among (with_denied assumed l)) (λ m k. among_denied assumed l m (inr k)) ls t)));
          no_tautology = or_from (is_among ls (negated l)) (is_tautology ls)
              (false_from_ne_true (is_among ls (negated l)) (λ t. both_ways (list_any (is_among (with_denied assumed l)) ls) d.no_unit
              (any_member (is_among (with_denied assumed l)) ls (negated l) t (among_denied assumed l (negated l) (inl refl)))))
              d.no_tautology;
        }

-- the check accepts exactly by the rule
pub passes_when_true : (units clause : List ℕ) (buckets : List (List (List ℕ))) → negations_assumed units clause ≡ None → PassesCheck units clause buckets
passes_when_true units clause buckets e = elim (denied_none clause units e) [ inl u ↦ unit_true u | inr t ↦ tautology t ]

pub passes_when_walked : (units clause more : List ℕ) (buckets : List (List (List ℕ))) → AllByRecursion (AllByRecursion NoRepeats) buckets → negations_assumed units clause ≡ Some more → walk_buckets more buckets ≡ true → PassesCheck units clause buckets
passes_when_walked units clause more buckets n e w =
    let d = denied_some clause units more e in
    conflict (rule_from_walk (map negated clause ++ units) buckets (walk_from_rule more (map negated clause ++ units) buckets d.only n (rule_from_walk more buckets w)))

pub walked_when_passes : (units clause more : List ℕ) (buckets : List (List (List ℕ))) → AllByRecursion (AllByRecursion NoRepeats) buckets → negations_assumed units clause ≡ Some more → PassesCheck units clause buckets → walk_buckets more buckets ≡ true
walked_when_passes units clause more buckets n e (tautology t) = absurd (both_ways (is_tautology clause) (denied_some clause units more e).no_tautology t)
walked_when_passes units clause more buckets n e (unit_true u) = absurd (both_ways (list_any (is_among units) clause) (denied_some clause units more e).no_unit u)
walked_when_passes units clause more buckets n e (conflict k) = walk_from_rule (map negated clause ++ units) more buckets (denied_some clause units more e).enough n k

pub exact_when_reached : (units clause : List ℕ) (buckets : List (List (List ℕ))) (answer : Bool) → negations_assumed units clause ≡ None → answer ≡ true → (answer ≡ true) ↔ PassesCheck units clause buckets
exact_when_reached units clause buckets answer e t = ((λ _. passes_when_true units clause buckets e), (λ _. t))

pub exact_when_walked : (units clause more : List ℕ) (buckets : List (List (List ℕ))) (answer : Bool) → AllByRecursion (AllByRecursion NoRepeats) buckets → negations_assumed units clause ≡ Some more → answer ≡ walk_buckets more buckets → (answer ≡ true) ↔ PassesCheck units clause buckets
exact_when_walked units clause more buckets answer sets e w =
    ((λ t. passes_when_walked units clause more buckets sets e (sym w ∙ t)), (λ p. w ∙ walked_when_passes units clause more buckets sets e p))

-- the signed clause, as a map over its literals
pub clause_is_map : (negate : Bool) (ls : List ℕ) → signed negate ls ≡ map (negated_if negate) ls
clause_is_map true ls = refl
clause_is_map false ls = sym (map-id ls)

-- the prefix of the signed clause with one more literal
pub clause_more : (negate : Bool) (ls : List ℕ) (i d : ℕ) → i < length ls → signed negate (take (i + 1) ls) ≡ signed negate (take i ls) ++ negated_if negate (get_or ls i d) ∷ []
clause_more negate ls i d h =
    clause_is_map negate (take (i + 1) ls) ∙ ap (map (negated_if negate)) (take_more ls i d h) ∙ map-append (negated_if negate) (take i ls) (get_or ls i d ∷ [])
    ∙ ap (λ xs. xs ++ negated_if negate (get_or ls i d) ∷ []) (sym (clause_is_map negate (take i ls)))

-- a prefix of the signed clause and the rest are the entire clause
pub clause_split : (negate : Bool) (ls : List ℕ) (i : ℕ) → signed negate (take i ls) ++ signed negate (drop i ls) ≡ signed negate ls
clause_split true ls i = sym (map-append negated (take i ls) (drop i ls)) ∙ ap (map negated) (take-append-drop i ls)
clause_split false ls i = take-append-drop i ls

clause_length : (negate : Bool) (ls : List ℕ) → length (signed negate ls) ≡ length ls
clause_length true ls = length-map ls negated
clause_length false ls = refl

-- the next literal of the clause, given whether it or its negation is assumed
module _ (negate : Bool) (ls : List ℕ) (i d x : ℕ) (inside : i < length ls) (is : x ≡ negated_if negate (get_or ls i d)) (assumed : List ℕ) where
  next : drop i (signed negate ls) ≡ x ∷ drop (i + 1) (signed negate ls)
  next =
      drop_more (signed negate ls) i 0 (subst (λ n. i < n) (sym (clause_length negate ls)) inside)
      ∙ ap (λ l. l ∷ drop (i + 1) (signed negate ls)) (ap (λ c. get_or c i 0) (clause_is_map negate ls) ∙ get_or-map (negated_if negate) ls i d 0 inside ∙ sym is)

  pub denied-true : is_among assumed x ≡ true → negations_assumed assumed (drop i (signed negate ls)) ≡ None
  denied-true t = rw next (rw t refl)

  pub denied-had : is_among assumed x ≡ false → is_among assumed (negated x) ≡ true → negations_assumed assumed (drop i (signed negate ls)) ≡ negations_assumed assumed (drop (i + 1) (signed negate ls))
  denied-had f t = rw next (rw (f, t) refl)

  pub denied-new : is_among assumed x ≡ false → is_among assumed (negated x) ≡ false → negations_assumed assumed (drop i (signed negate ls)) ≡ negations_assumed (negated x ∷ assumed) (drop (i + 1) (signed negate ls))
  denied-new f t = rw next (rw (f, t) refl)

  -- the negation is assumed, unless it already was
  pub denied_once : (n : ℕ) (first mid new : LiteralsAndRoom) → mid.literals ≡ assumed → is_among mid.literals x ≡ false → n ≡ negated x → AssumesOnce n mid new → AssumesMore first mid
      → (negations_assumed mid.literals (drop i (signed negate ls)) ≡ negations_assumed new.literals (drop (i + 1) (signed negate ls))) × AssumesMore first new
  denied_once n first mid new a f e h more = go (is_among mid.literals n) refl h
    where
      free : is_among assumed x ≡ false
      free = ap (λ xs. is_among xs x) (sym a) ∙ f

      go : (b : Bool) → is_among mid.literals n ≡ b → MatchBool b (new ≡ mid) (new ≡ record { literals = n ∷ mid.literals; room = with_room n mid.room })
          → (negations_assumed mid.literals (drop i (signed negate ls)) ≡ negations_assumed new.literals (drop (i + 1) (signed negate ls))) × AssumesMore first new
      go true d k = (
        ap (λ xs. negations_assumed xs (drop i (signed negate ls))) a ∙ denied-had free (ap (is_among assumed) (sym e) ∙ ap (λ xs. is_among xs n) (sym a) ∙ d)
            ∙ ap (λ xs. negations_assumed xs (drop (i + 1) (signed negate ls))) (sym a) ∙ ap (λ (t : LiteralsAndRoom). negations_assumed t.literals (drop (i + 1) (signed negate ls))) (sym k),
        subst (AssumesMore first) (sym k) more,
      )
      go false d k = (
        ap (λ xs. negations_assumed xs (drop i (signed negate ls))) a ∙ denied-new free (ap (is_among assumed) (sym e) ∙ ap (λ xs. is_among xs n) (sym a) ∙ d)
            ∙ ap (λ l. negations_assumed (l ∷ assumed) (drop (i + 1) (signed negate ls))) (sym e) ∙ ap (λ xs. negations_assumed (n ∷ xs) (drop (i + 1) (signed negate ls))) (sym a)
            ∙ ap (λ (t : LiteralsAndRoom). negations_assumed t.literals (drop (i + 1) (signed negate ls))) (sym k),
        Extends-assumed first mid new n more k,
      )

pub ruleset denying = (Extends-itself, Extends-assumed, denied-true)
