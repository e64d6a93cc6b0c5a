-- The clauses that a conflict needs are unit in turn under the needed literals, the last one falsified.
use Rattle.std.proofs.Common.{ℕ, ◌≡◌, Bool, true, false, not, cond, eqb, List, [], ◌∷◌, ◌++◌, map, filter, refl, sym, ap, subst, None, ◌⊎◌, inl, inr}
use Rattle.std.proofs.lemmas.Bool.{or_cases, or_left, or_right, both_ways, eqb-true, eq-eqb, true≢false, false_from_ne_true}
use Rattle.std.specs.List.{AllByRecursion}
use Rattle.sat_base.specs.values.Literals.{negated}
use Rattle.sat_checker.specs.LiteralSets.{is_among}
use Rattle.sat_checker.specs.Propagation.{IsFalsified, IsUnit, UnitInTurn}
use Rattle.sat_checker.specs.Stored.{StoredClause}
use Rattle.sat_checker.specs.inner.Walk.{ClauseState, falsified, becomes_unit, neither, clause_state, state_by_open, not_false, walk, walk_clause, and_then}
use Rattle.sat_checker.specs.announcements.Needed.{ConflictCauses, negations_except, causes_by, conflict_causes}
use Rattle.sat_checker.proofs.lemmas.propagation.Greedy.{Within}
use Rattle.sat_checker.proofs.lemmas.sets.Members.{each_at}
use Rattle.sat_checker.proofs.lemmas.meaning.Clauses.{literals_of}

pub each_from : (P : ℕ → Type 0) (ls : List ℕ) → ((m : ℕ) → is_among ls m ≡ true → P m) → AllByRecursion P ls
each_from P [] h = tt
each_from P (l ∷ ls) h = (h l (or_left (eqb l l) (is_among ls l) (eq-eqb l l refl)), each_from P ls (λ m e. h m (or_right (eqb l m) (is_among ls m) e)))

pub among_negated : (ls : List ℕ) (m : ℕ) → is_among ls m ≡ true → is_among (map negated ls) (negated m) ≡ true
among_negated [] m e = e
among_negated (l ∷ ls) m e =
    elim (or_cases (eqb l m) (is_among ls m) e) [
      | inl s ↦ or_left (eqb (negated l) (negated m)) (is_among (map negated ls) (negated m)) (eq-eqb (negated l) (negated m) (ap negated (eqb-true l m s)))
      | inr k ↦ or_right (eqb (negated l) (negated m)) (is_among (map negated ls) (negated m)) (among_negated ls m k)
    ]

among_filter : (p : ℕ → Bool) (ls : List ℕ) (m : ℕ) → is_among ls m ≡ true → p m ≡ true → is_among (filter p ls) m ≡ true
among_filter p [] m e t = e
among_filter p (l ∷ ls) m e t = go (λ k. among_filter p ls m k t) (p l) refl (or_cases (eqb l m) (is_among ls m) e)
  where
    go : (is_among ls m ≡ true → is_among (filter p ls) m ≡ true) → (b : Bool) → p l ≡ b → (eqb l m ≡ true) ⊎ (is_among ls m ≡ true) → is_among (cond b (l ∷ filter p ls) (filter p ls)) m ≡ true
    go ih true x (inl s) = or_left (eqb l m) (is_among (filter p ls) m) s
    go ih true x (inr k) = or_right (eqb l m) (is_among (filter p ls) m) (ih k)
    go ih false x (inl s) = absurd (both_ways (p l) x (subst (λ y. p y ≡ true) (sym (eqb-true l m s)) t))
    go ih false x (inr k) = ih k

-- what the verdict on a clause says
abbrev pub Says : List ℕ → List ℕ → ClauseState → Type 0
Says assumed clause falsified = IsFalsified assumed clause
Says assumed clause (becomes_unit l) = IsUnit assumed clause l
Says assumed clause neither = Unit {0}

abbrev IsFalse : List ℕ → ℕ → Type 0
IsFalse assumed l = is_among assumed (negated l) ≡ true

none_left : (assumed clause : List ℕ) → not_false assumed clause ≡ [] → IsFalsified assumed clause
none_left assumed [] e = tt
none_left assumed (l ∷ ls) e = go (none_left assumed ls) (is_among assumed (negated l)) refl e
  where
    go : (not_false assumed ls ≡ [] → IsFalsified assumed ls) → (b : Bool) → is_among assumed (negated l) ≡ b → cond (not b) (l ∷ not_false assumed ls) (not_false assumed ls) ≡ [] → IsFalsified assumed (l ∷ ls)
    go ih true h e' = (h, ih e')
    go ih false h e' = absurd cc

record OneLeft (assumed clause : List ℕ) (o : ℕ) : Type 0 where
  within : is_among clause o ≡ true
  not_false : is_among assumed (negated o) ≡ false
  others : AllByRecursion (λ l. (l ≡ o) ⊎ IsFalse assumed l) clause

one_left : (assumed clause : List ℕ) (o : ℕ) → not_false assumed clause ≡ o ∷ [] → OneLeft assumed clause o
one_left assumed [] o e = absurd cc
one_left assumed (l ∷ ls) o e = go (one_left assumed ls o) (is_among assumed (negated l)) refl e
  where
    all_of : (ms : List ℕ) → IsFalsified assumed ms → AllByRecursion (λ m. (m ≡ o) ⊎ IsFalse assumed m) ms
    all_of [] h = tt
    all_of (m ∷ ms) h = (inr h.0, all_of ms h.1)

    go : (not_false assumed ls ≡ o ∷ [] → OneLeft assumed ls o) → (b : Bool) → is_among assumed (negated l) ≡ b → cond (not b) (l ∷ not_false assumed ls) (not_false assumed ls) ≡ o ∷ [] → OneLeft assumed (l ∷ ls) o
    go ih true h e' = let k = ih e' in record { within = or_right (eqb l o) (is_among ls o) k.within; not_false = k.not_false; others = (inr h, k.others) }
    go ih false h e' =
        let same : l ≡ o = cc in
        let rest : not_false assumed ls ≡ [] = cc in
        record {
          within = or_left (eqb l o) (is_among ls o) (eq-eqb l o same);
          not_false = subst (λ x. is_among assumed (negated x) ≡ false) same h;
          others = (inl same, all_of ls (none_left assumed ls rest));
        }

pub verdict_says : (assumed clause : List ℕ) → Says assumed clause (clause_state assumed clause)
verdict_says assumed clause = go (not_false assumed clause) refl
  where
    marked : (o : ℕ) → not_false assumed clause ≡ o ∷ [] → (b : Bool) → is_among assumed o ≡ b → Says assumed clause (cond b neither (becomes_unit o))
    marked o e true m = tt
    marked o e false m = let k = one_left assumed clause o e in record { within = k.within; not_true = m; not_false = k.not_false; others = k.others }

    go : (ls : List ℕ) → not_false assumed clause ≡ ls → Says assumed clause (state_by_open assumed ls)
    go [] e = none_left assumed clause e
    go (o ∷ []) e = marked o e (is_among assumed o) refl
    go (o ∷ p ∷ ls) e = tt

-- a unit clause can be put before clauses that are unit in turn once its literal is assumed
pub unit_front : (known clause : List ℕ) (o : ℕ) (rest : List (List ℕ)) → IsUnit known clause o → UnitInTurn (o ∷ known) rest → UnitInTurn known (clause ∷ rest)
unit_front known clause o [] u r = absurd r
unit_front known clause o (c ∷ cs) u r = (o, u, r)

-- a literal that is not in the larger list is not in the smaller one
not_within : (fewer more : List ℕ) (m : ℕ) → Within fewer more → is_among more m ≡ false → is_among fewer m ≡ false
not_within fewer more m w e = false_from_ne_true (is_among fewer m) (λ t. both_ways (is_among more m) e (w.each m t))

-- the known literals are assumed, and include every assumed literal that is needed
pub record Covers (known assumed needed : List ℕ) : Type 0 where
  pub within : Within known assumed
  pub enough : (m : ℕ) → is_among needed m ≡ true → is_among assumed m ≡ true → is_among known m ≡ true

falsified_known : (known assumed clause : List ℕ) → Covers known assumed (map negated clause) → IsFalsified assumed clause → IsFalsified known clause
falsified_known known assumed clause k f =
    each_from (λ l. is_among known (negated l) ≡ true) clause (λ m e. k.enough (negated m) (among_negated clause m e) (each_at (λ l. is_among assumed (negated l) ≡ true) clause m f e))

unit_known : (known assumed clause following : List ℕ) (o : ℕ) → Covers known assumed (negations_except o clause ++ following) → IsUnit assumed clause o → IsUnit known clause o
unit_known known assumed clause following o k u = record {
  within = u.within;
  not_true = not_within known assumed o k.within u.not_true;
  not_false = not_within known assumed (negated o) k.within u.not_false;
  others = each_from (λ l. (l ≡ o) ⊎ (is_among known (negated l) ≡ true)) clause (λ m e. other m e (eqb m o) refl);
}
  where
    front : (xs ys : List ℕ) (m : ℕ) → is_among xs m ≡ true → is_among (xs ++ ys) m ≡ true
    front [] ys m e = absurd (true≢false (sym e))
    front (x ∷ xs) ys m e = elim (or_cases (eqb x m) (is_among xs m) e) [ inl s ↦ or_left (eqb x m) (is_among (xs ++ ys) m) s | inr t ↦ or_right (eqb x m) (is_among (xs ++ ys) m) (front xs ys m t) ]

    other : (m : ℕ) → is_among clause m ≡ true → (b : Bool) → eqb m o ≡ b → (m ≡ o) ⊎ (is_among known (negated m) ≡ true)
    other m e true s = inl (eqb-true m o s)
    other m e false s =
        elim (each_at (λ l. (l ≡ o) ⊎ (is_among assumed (negated l) ≡ true)) clause m u.others e) [
          | inl t ↦ inl t
          | inr t ↦ inr (k.enough (negated m) (front (negations_except o clause) following (negated m) (among_negated (filter (λ x. not (eqb x o)) clause) m (among_filter (λ x. not (eqb x o)) clause m e (rw s refl)))) t)
        ]

after_covers : (known assumed front following : List ℕ) (o : ℕ) → Covers known assumed (front ++ following) → Covers (o ∷ known) (o ∷ assumed) following
after_covers known assumed front following o k = record {
  within = record { each = λ m e. elim (or_cases (eqb o m) (is_among known m) e) [ inl s ↦ or_left (eqb o m) (is_among assumed m) s | inr t ↦ or_right (eqb o m) (is_among assumed m) (k.within.each m t) ] };
  enough = λ m n e. elim (or_cases (eqb o m) (is_among assumed m) e) [
    | inl s ↦ or_left (eqb o m) (is_among known m) s
    | inr t ↦ or_right (eqb o m) (is_among known m) (k.enough m (later front m n) t)
  ];
}
  where
    later : (xs : List ℕ) (m : ℕ) → is_among following m ≡ true → is_among (xs ++ following) m ≡ true
    later [] m e = e
    later (x ∷ xs) m e = or_right (eqb x m) (is_among (xs ++ following) m) (later xs m e)

-- an implied literal that is not needed can be left out of the known literals
aside_covers : (known assumed following : List ℕ) (o : ℕ) → is_among following o ≡ false → Covers known assumed following → Covers known (o ∷ assumed) following
aside_covers known assumed following o n k = record {
  within = record { each = λ m e. or_right (eqb o m) (is_among assumed m) (k.within.each m e) };
  enough = λ m b e. elim (or_cases (eqb o m) (is_among assumed m) e) [
    | inl s ↦ absurd (both_ways (is_among following o) n (subst (λ x. is_among following x ≡ true) (sym (eqb-true o m s)) b))
    | inr t ↦ k.enough m b t
  ];
}

abbrev Turns : List ℕ → ConflictCauses → Type 0
Turns known g = UnitInTurn known (literals_of g.clauses)

abbrev Run : List StoredClause → Type 0
Run cs = (assumed known : List ℕ) → walk assumed (literals_of cs) ≡ None → Covers known assumed (conflict_causes assumed cs).literals → Turns known (conflict_causes assumed cs)

-- the needed clauses are unit in turn, and the last is falsified
pub grounds_run : (cs : List StoredClause) (assumed known : List ℕ) → walk assumed (literals_of cs) ≡ None → Covers known assumed (conflict_causes assumed cs).literals → UnitInTurn known (literals_of (conflict_causes assumed cs).clauses)
grounds_run [] assumed known e k = absurd cc
grounds_run (c ∷ cs) assumed known e k = go (grounds_run cs) (clause_state assumed c.literals) (verdict_says assumed c.literals) e k
  where
    opened : Run cs → (o : ℕ) → IsUnit assumed c.literals o → walk (o ∷ assumed) (literals_of cs) ≡ None → (b : Bool) → is_among (conflict_causes (o ∷ assumed) cs).literals o ≡ b
        → Covers known assumed (cond b (record { literals = negations_except o c.literals ++ (conflict_causes (o ∷ assumed) cs).literals; clauses = c ∷ (conflict_causes (o ∷ assumed) cs).clauses }) (conflict_causes (o ∷ assumed) cs)).literals
        → Turns known (cond b (record { literals = negations_except o c.literals ++ (conflict_causes (o ∷ assumed) cs).literals; clauses = c ∷ (conflict_causes (o ∷ assumed) cs).clauses }) (conflict_causes (o ∷ assumed) cs))
    opened ih o u w true n k' =
        unit_front known c.literals o (literals_of (conflict_causes (o ∷ assumed) cs).clauses) (unit_known known assumed c.literals (conflict_causes (o ∷ assumed) cs).literals o k' u)
        (ih (o ∷ assumed) (o ∷ known) w (after_covers known assumed (negations_except o c.literals) (conflict_causes (o ∷ assumed) cs).literals o k'))
    opened ih o u w false n k' = ih (o ∷ assumed) known w (aside_covers known assumed (conflict_causes (o ∷ assumed) cs).literals o n k')

    go : Run cs → (v : ClauseState) → Says assumed c.literals v → and_then (walk_clause v assumed) (λ more. walk more (literals_of cs)) ≡ None
        → Covers known assumed (causes_by v c assumed (λ more. conflict_causes more cs)).literals → Turns known (causes_by v c assumed (λ more. conflict_causes more cs))
    go ih falsified s w k' = falsified_known known assumed c.literals k' s
    go ih (becomes_unit o) s w k' = opened ih o s w (is_among (conflict_causes (o ∷ assumed) cs).literals o) refl k'
    go ih neither s w k' = ih assumed known w k'
