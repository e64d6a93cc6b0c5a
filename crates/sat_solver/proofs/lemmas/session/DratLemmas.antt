-- Clauses that are present, and what they refute.
use Rattle.std.proofs.Common.{ℕ, ◌+◌, ◌<◌, ◌≤◌, ◌≡◌, ◌∙◌, ◌⊎◌, inl, inr, Bool, true, false, ◌||◌, ◌&&◌, cond, eqb, List, [], ◌∷◌, ◌++◌, map, refl, sym, ap, subst, arith}
use Rattle.std.specs.List.{AllByRecursion}
use Rattle.std.specs.Cmp.Lexicographic.{same_text}
use Rattle.std.proofs.lemmas.Bool.{or_cases, or_left, or_right, eqb-true, eq-eqb, true≢false}
use Rattle.sat_base.specs.values.Literals.{negated}
use Rattle.sat_checker.specs.LiteralSets.{is_among, canonical, same_literals}
use Rattle.sat_checker.specs.Propagation.{IsFalsified, IsUnit, UnitInTurn}
use Rattle.sat_checker.proofs.lemmas.sets.Canonical.{canonical_among}
use Rattle.sat_checker.proofs.lemmas.sets.Members.{canonical_each}
use Rattle.sat_solver.specs.proof.Drat.{multiplicity, without_set, RefutesByUnits}
use Rattle.sat_checker.specs.ConflictPropagation.{PropagatesToConflict}
use Rattle.sat_checker.specs.Contents.{plus_one_if}

-- COUNTS

more_or : (b : Bool) (n : ℕ) → n ≤ plus_one_if b n
more_or true n = omega arith
more_or false n = omega arith

-- adding a clause lowers no count
pub times_after : (set c : List ℕ) (cs : List (List ℕ)) → multiplicity set cs ≤ multiplicity set (c ∷ cs)
times_after set c cs = more_or (same_literals c set) (multiplicity set cs)

-- a clause equals itself
same_itself : (xs : List ℕ) → same_literals xs xs ≡ true
same_itself [] = refl
same_itself (x ∷ xs) = ap (λ b. b && same_literals xs xs) (eq-eqb x x refl) ∙ same_itself xs

pub times_itself : (set : List ℕ) (cs : List (List ℕ)) → multiplicity set (set ∷ cs) ≡ multiplicity set cs + 1
times_itself set cs = ap (λ b. plus_one_if b (multiplicity set cs)) (same_itself set)

-- removing a clause leaves the counts of other clauses unchanged
pub times_left : (set out : List ℕ) (cs : List (List ℕ)) → same_literals out set ≡ false → multiplicity set cs ≤ multiplicity set (without_set out cs)
times_left set out [] e = omega arith
times_left set out (c ∷ cs) e = go (times_left set out cs e) (same_literals c out) refl
  where
    wider : multiplicity set cs ≤ multiplicity set (without_set out cs) → (b : Bool) → plus_one_if b (multiplicity set cs) ≤ plus_one_if b (multiplicity set (without_set out cs))
    wider ih true = omega (arith, ih)
    wider ih false = ih

    go : multiplicity set cs ≤ multiplicity set (without_set out cs) → (b : Bool) → same_literals c out ≡ b → multiplicity set (c ∷ cs) ≤ multiplicity set (cond b cs (c ∷ without_set out cs))
    go ih true s =
        let other : same_literals c set ≡ false = subst (λ x. same_literals x set ≡ false) (sym (same_text c out (sym s))) e in
        let is : multiplicity set (c ∷ cs) ≡ multiplicity set cs = ap (λ b. plus_one_if b (multiplicity set cs)) other in
        omega (arith, is)
    go ih false s = wider ih (same_literals c set)

-- removing a clause lowers a count by at most 1
pub times_less : (set out : List ℕ) (cs : List (List ℕ)) → multiplicity set cs ≤ multiplicity set (without_set out cs) + 1
times_less set out [] = omega arith
times_less set out (c ∷ cs) = go (times_less set out cs) (same_literals c out)
  where
    one : (b : Bool) → plus_one_if b (multiplicity set cs) ≤ multiplicity set cs + 1
    one true = omega arith
    one false = omega arith

    wider : multiplicity set cs ≤ multiplicity set (without_set out cs) + 1 → (b : Bool) → plus_one_if b (multiplicity set cs) ≤ plus_one_if b (multiplicity set (without_set out cs)) + 1
    wider ih true = omega (arith, ih)
    wider ih false = ih

    go : multiplicity set cs ≤ multiplicity set (without_set out cs) + 1 → (b : Bool) → multiplicity set (c ∷ cs) ≤ multiplicity set (cond b cs (c ∷ without_set out cs)) + 1
    go ih true = one (same_literals c set)
    go ih false = wider ih (same_literals c set)

-- REFUTATIONS

-- one clause is falsified
pub refutes_one : (cs : List (List ℕ)) (known c : List ℕ) → 0 < multiplicity c cs → IsFalsified known c → RefutesByUnits cs known
refutes_one cs known c p f = record { named = c ∷ []; are_present = (p, tt); turns = f }

-- one clause is unit, and with its literal the rest is refuted
pub refutes_unit : (cs : List (List ℕ)) (known c : List ℕ) (o : ℕ) → 0 < multiplicity c cs → IsUnit known c o → RefutesByUnits cs (o ∷ known) → RefutesByUnits cs known
refutes_unit cs known c o p u r = go r.named r.are_present r.turns
  where
    go : (named : List (List ℕ)) → AllByRecursion (λ c. 0 < multiplicity c cs) named → UnitInTurn (o ∷ known) named → RefutesByUnits cs known
    go [] a t = absurd t
    go (d ∷ ds) a t = record { named = c ∷ d ∷ ds; are_present = (p, a); turns = (o, u, t) }

-- all these literals are known
abbrev pub Has : List ℕ → (ℕ → Bool) → Type 0
Has known q = (l : ℕ) → q l ≡ true → is_among known l ≡ true

has_more : (known : List ℕ) (q : ℕ → Bool) (o : ℕ) → Has known q → Has (o ∷ known) (λ l. eqb o l || q l)
has_more known q o h l e = elim (or_cases (eqb o l) (q l) e) [ inl s ↦ or_left (eqb o l) (is_among known l) s | inr t ↦ or_right (eqb o l) (is_among known l) (h l t) ]

has_there : (known : List ℕ) (q : ℕ → Bool) (o : ℕ) → is_among known o ≡ true → Has known q → Has known (λ l. eqb o l || q l)
has_there known q o there h l e = elim (or_cases (eqb o l) (q l) e) [ inl s ↦ subst (λ x. is_among known x ≡ true) (eqb-true o l s) there | inr t ↦ h l t ]

each_falsified : (known : List ℕ) (q : ℕ → Bool) → Has known q → (c : List ℕ) → AllByRecursion (λ l. q (negated l) ≡ true) c → IsFalsified known c
each_falsified known q h [] a = tt
each_falsified known q h (l ∷ ls) a = (h (negated l) a.0, each_falsified known q h ls a.1)

others_falsified : (known : List ℕ) (q : ℕ → Bool) (o : ℕ) → Has known q → (c : List ℕ) → AllByRecursion (λ l. (l ≡ o) ⊎ (q (negated l) ≡ true)) c → AllByRecursion (λ l. (l ≡ o) ⊎ (is_among known (negated l) ≡ true)) c
others_falsified known q o h [] a = tt
others_falsified known q o h (l ∷ ls) a = (elim a.0 [ inl e ↦ inl e | inr t ↦ inr (h (negated l) t) ], others_falsified known q o h ls a.1)

-- if the one remaining literal is false too, the clause is falsified
all_falsified : (known : List ℕ) (o : ℕ) → is_among known (negated o) ≡ true → (c : List ℕ) → AllByRecursion (λ l. (l ≡ o) ⊎ (is_among known (negated l) ≡ true)) c → IsFalsified known c
all_falsified known o f [] a = tt
all_falsified known o f (l ∷ ls) a = (elim a.0 [ inl e ↦ subst (λ x. is_among known (negated x) ≡ true) (sym e) f | inr t ↦ t ], all_falsified known o f ls a.1)

-- Present clauses that lead to a conflict refute what is known: those that aren't unit in turn are left out.
pub leads_refute : (ps cs : List (List ℕ)) (known : List ℕ) (q : ℕ → Bool) → AllByRecursion (λ c. 0 < multiplicity (canonical c) ps) cs → Has known q → PropagatesToConflict q cs → RefutesByUnits ps known
leads_refute ps [] known q p h l = absurd l
leads_refute ps (c ∷ []) known q p h l = refutes_one ps known (canonical c) p.0 (canonical_each (λ m. is_among known (negated m) ≡ true) c (each_falsified known q h c l))
leads_refute ps (c ∷ d ∷ cs) known q p h l = go (λ k r a b. leads_refute ps (d ∷ cs) k r p.1 a b) (is_among known l.0) refl (is_among known (negated l.0)) refl
  where
    o : ℕ
    o = l.0

    others : AllByRecursion (λ m. (m ≡ o) ⊎ (is_among known (negated m) ≡ true)) c
    others = others_falsified known q o h c l.1

    go : ((k : List ℕ) (r : ℕ → Bool) → Has k r → PropagatesToConflict r (d ∷ cs) → RefutesByUnits ps k) → (b : Bool) → is_among known o ≡ b → (n : Bool) → is_among known (negated o) ≡ n → RefutesByUnits ps known
    go ih true e n f = ih known (λ m. eqb o m || q m) (has_there known q o e h) l.3
    go ih false e true f = refutes_one ps known (canonical c) p.0 (canonical_each (λ m. is_among known (negated m) ≡ true) c (all_falsified known o f c others))
    go ih false e false f =
        refutes_unit ps known (canonical c) o p.0
        (record { within = canonical_among c o ∙ l.2; not_true = e; not_false = f; others = canonical_each (λ m. (m ≡ o) ⊎ (is_among known (negated m) ≡ true)) c others })
        (ih (o ∷ known) (λ m. eqb o m || q m) (has_more known q o h) l.3)

-- UNITS

-- present units may be used first
pub units_first : (ps : List (List ℕ)) (us known : List ℕ) (q : ℕ → Bool) → AllByRecursion (λ u. 0 < multiplicity (u ∷ []) ps) us → Has known q → ((k : List ℕ) → Has k (λ l. is_among us l || q l) → RefutesByUnits ps k) → RefutesByUnits ps known
units_first ps [] known q p h f = f known h
units_first ps (u ∷ us) known q p h f = go (λ k r a b. units_first ps us k r p.1 a b) (is_among known u) refl (is_among known (negated u)) refl
  where
    q' : ℕ → Bool
    q' = λ l. eqb u l || q l

    next : (k : List ℕ) → Has k (λ l. is_among us l || q' l) → RefutesByUnits ps k
    next k a = f k (λ l e. a l (turned l (elim (or_cases (is_among (u ∷ us) l) (q l) e) [ inl s ↦ elim (or_cases (eqb u l) (is_among us l) s) [ inl t ↦ inr (or_left (eqb u l) (q l) t) | inr t ↦ inl t ] | inr t ↦ inr (or_right (eqb u l) (q l) t) ])))
      where
        turned : (l : ℕ) → (is_among us l ≡ true) ⊎ (q' l ≡ true) → (is_among us l || q' l) ≡ true
        turned l (inl s) = or_left (is_among us l) (q' l) s
        turned l (inr s) = or_right (is_among us l) (q' l) s

    go : ((k : List ℕ) (r : ℕ → Bool) → Has k r → ((m : List ℕ) → Has m (λ l. is_among us l || r l) → RefutesByUnits ps m) → RefutesByUnits ps k) → (b : Bool) → is_among known u ≡ b → (n : Bool) → is_among known (negated u) ≡ n → RefutesByUnits ps known
    go ih true e n g = ih known q' (has_there known q u e h) next
    go ih false e true g = refutes_one ps known (u ∷ []) p.0 (g, tt)
    go ih false e false g =
        refutes_unit ps known (u ∷ []) u p.0 (record { within = or_left (eqb u u) false (eq-eqb u u refl); not_true = e; not_false = g; others = (inl refl, tt) })
        (ih (u ∷ known) q' (has_more known q u h) next)

-- the negations of all literals
abbrev pub negations : List (List ℕ) → List ℕ
negations [] = []
negations (c ∷ cs) = map negated c ++ negations cs

among_left : (xs ys : List ℕ) (l : ℕ) → is_among xs l ≡ true → is_among (xs ++ ys) l ≡ true
among_left [] ys l e = absurd (true≢false (sym e))
among_left (x ∷ xs) ys l e = elim (or_cases (eqb x l) (is_among xs l) e) [ inl s ↦ or_left (eqb x l) (is_among (xs ++ ys) l) s | inr t ↦ or_right (eqb x l) (is_among (xs ++ ys) l) (among_left xs ys l t) ]

among_right : (xs ys : List ℕ) (l : ℕ) → is_among ys l ≡ true → is_among (xs ++ ys) l ≡ true
among_right [] ys l e = e
among_right (x ∷ xs) ys l e = or_right (eqb x l) (is_among (xs ++ ys) l) (among_right xs ys l e)

-- a condition on a clause concerns only its own literals
within_each : (q r : ℕ → Bool) (c : List ℕ) → ((l : ℕ) → is_among (map negated c) l ≡ true → q l ≡ true → r l ≡ true) → AllByRecursion (λ l. q (negated l) ≡ true) c → AllByRecursion (λ l. r (negated l) ≡ true) c
within_each q r [] f a = tt
within_each q r (x ∷ xs) f a =
    (f (negated x) (or_left (eqb (negated x) (negated x)) (is_among (map negated xs) (negated x)) (eq-eqb (negated x) (negated x) refl)) a.0, within_each q r xs (λ l e. f l (or_right (eqb (negated x) l) (is_among (map negated xs) l) e)) a.1)

within_others : (q r : ℕ → Bool) (o : ℕ) (c : List ℕ) → ((l : ℕ) → is_among (map negated c) l ≡ true → q l ≡ true → r l ≡ true) → AllByRecursion (λ l. (l ≡ o) ⊎ (q (negated l) ≡ true)) c → AllByRecursion (λ l. (l ≡ o) ⊎ (r (negated l) ≡ true)) c
within_others q r o [] f a = tt
within_others q r o (x ∷ xs) f a = (
  elim a.0 [ inl e ↦ inl e | inr t ↦ inr (f (negated x) (or_left (eqb (negated x) (negated x)) (is_among (map negated xs) (negated x)) (eq-eqb (negated x) (negated x) refl)) t) ],
  within_others q r o xs (λ l e. f l (or_right (eqb (negated x) l) (is_among (map negated xs) l) e)) a.1,
)

pub leads_within : (cs : List (List ℕ)) (q r : ℕ → Bool) → ((l : ℕ) → is_among (negations cs) l ≡ true → q l ≡ true → r l ≡ true) → PropagatesToConflict q cs → PropagatesToConflict r cs
leads_within [] q r f h = h
leads_within (c ∷ []) q r f h = within_each q r c (λ l e. f l (among_left (map negated c) [] l e)) h
leads_within (c ∷ d ∷ cs) q r f h = (
  h.0,
  within_others q r h.0 c (λ l e. f l (among_left (map negated c) (negations (d ∷ cs)) l e)) h.1,
  h.2,
  leads_within (d ∷ cs) (λ l. eqb h.0 l || q l) (λ l. eqb h.0 l || r l)
      (λ l e t. elim (or_cases (eqb h.0 l) (q l) t) [ inl s ↦ or_left (eqb h.0 l) (r l) s | inr s ↦ or_right (eqb h.0 l) (r l) (f l (among_right (map negated c) (negations (d ∷ cs)) l e) s) ]) h.3,
)

-- the literals of a list that are units
abbrev pub units_in : (ℕ → Bool) → List ℕ → List ℕ
units_in q [] = []
units_in q (l ∷ ls) = cond (q l) (l ∷ units_in q ls) (units_in q ls)

pub units_there : (q : ℕ → Bool) (ls : List ℕ) (l : ℕ) → is_among ls l ≡ true → q l ≡ true → is_among (units_in q ls) l ≡ true
units_there q [] l e t = absurd (true≢false (sym e))
units_there q (x ∷ xs) l e t = go (λ s. units_there q xs l s t) (q x) refl (or_cases (eqb x l) (is_among xs l) e)
  where
    go : (is_among xs l ≡ true → is_among (units_in q xs) l ≡ true) → (b : Bool) → q x ≡ b → (eqb x l ≡ true) ⊎ (is_among xs l ≡ true) → is_among (cond b (x ∷ units_in q xs) (units_in q xs)) l ≡ true
    go ih true k (inl s) = or_left (eqb x l) (is_among (units_in q xs) l) s
    go ih true k (inr s) = or_right (eqb x l) (is_among (units_in q xs) l) (ih s)
    go ih false k (inl s) = absurd (true≢false (sym (subst (λ y. q y ≡ true) (sym (eqb-true x l s)) t) ∙ k))
    go ih false k (inr s) = ih s

pub units_are : (q : ℕ → Bool) (P : ℕ → Type 0) → ((l : ℕ) → q l ≡ true → P l) → (ls : List ℕ) → AllByRecursion P (units_in q ls)
units_are q P f [] = tt
units_are q P f (l ∷ ls) = go (units_are q P f ls) (q l) refl
  where
    go : AllByRecursion P (units_in q ls) → (b : Bool) → q l ≡ b → AllByRecursion P (cond b (l ∷ units_in q ls) (units_in q ls))
    go ih true e = (f l e, ih)
    go ih false e = ih
