-- A clause that passes the check follows from its propagations.
use Rattle.std.proofs.Common.{ℕ, ◌/◌, ◌≡◌, Bool, true, false, not, ◌&&◌, ◌||◌, cond, eqb, List, [], ◌∷◌, ◌++◌, map, filter, refl, sym, ◌∙◌, ap, subst, arith, Option, Some, None, ◌⊎◌, inl, inr}
use Rattle.std.proofs.lemmas.Bool.{or_cases, or_left, or_right, or_from, both_ways, eqb-true, eq-eqb, eqb-false, ne_eqb, true≢false, cases_Bool, false_from_ne_true}
use Rattle.std.specs.List.{AllByRecursion, list_any}
use Rattle.sat_base.specs.values.Literals.{variable, negated}
use Rattle.sat_checker.specs.LiteralSets.{is_among, mentions, is_tautology, canonical}
use Rattle.sat_checker.specs.inner.Marks.{IsIncreasing, NoRepeats}
use Rattle.sat_checker.specs.Propagation.{UnitInTurn, tautology, unit_true, conflict, clauses_in}
use Rattle.sat_checker.specs.Stored.{StoredClause, StoredUnit, Stored, unit_literals, clause_hash_by, bucket}
use Rattle.sat_checker.specs.Storing.{unit_id}
use Rattle.sat_checker.specs.Accepts.{VariablesDistinct, PassesByHashes}
use Rattle.sat_checker.specs.inner.Walk.{ClauseState, falsified, becomes_unit, neither, clause_state, walk, walk_clause, and_then, walk_buckets, if_conflict}
use Rattle.sat_checker.specs.announcements.Needed.{ConflictCauses, causes_by, conflict_causes, clauses_of_hashes, needed_units, conflict_ids, or_else, satisfying_unit, only_unit_or, propagations}
use Rattle.sat_checker.specs.announcements.Promises.{IsOneOf, FollowsByPropagation, TautologiesNeedNoIds}
use Rattle.sat_checker.proofs.lemmas.sets.Order.{among-append}
use Rattle.sat_checker.proofs.lemmas.sets.Canonical.{canonical_among}
use Rattle.sat_checker.proofs.lemmas.sets.Marks.{once}
use Rattle.sat_checker.proofs.lemmas.propagation.Greedy.{Within, walk_from_rule}
use Rattle.sat_checker.proofs.lemmas.propagation.Soundness.{negated-negated}
use Rattle.sat_checker.proofs.lemmas.meaning.Clauses.{literals_of}
use Rattle.sat_checker.proofs.lemmas.announcements.Sorted.{Sorted, few_increasing}
use Rattle.sat_checker.proofs.lemmas.announcements.Grounds.{among_negated, unit_front, grounds_run}

abbrev literals_in : List StoredUnit → List ℕ
literals_in = map (λ u. u.literal)

-- the known literals with those of the units added, one by one
abbrev pushed : List StoredUnit → List ℕ → List ℕ
pushed [] known = known
pushed (u ∷ us) known = pushed us (u.literal ∷ known)

abbrev AreOpen : List ℕ → List StoredUnit → Type 0
AreOpen known = AllByRecursion (λ u. (is_among known u.literal ≡ false) × (is_among known (negated u.literal) ≡ false))

still_open : (known : List ℕ) (u : StoredUnit) (us : List StoredUnit) → AreOpen known us → mentions (literals_in us) (variable u.literal) ≡ false → AreOpen (u.literal ∷ known) us
still_open known u [] o n = tt
still_open known u (w ∷ ws) o n = (
  (
    or_from (eqb u.literal w.literal) (is_among known w.literal) (apart w.literal (λ e. ap (λ x. x / 2) (sym e))) o.0.0,
    or_from (eqb u.literal (negated w.literal)) (is_among known (negated w.literal)) (apart (negated w.literal) (λ e. other u.literal w.literal e)) o.0.1,
  ),
  still_open known u ws o.1 (later (eqb (variable w.literal) (variable u.literal)) n),
)
  where
    other : (l k : ℕ) → l ≡ negated k → k / 2 ≡ l / 2
    other l k e = omega arith

    first : (b d : Bool) → (b || d) ≡ false → b ≡ false
    first true d e = absurd (true≢false e)
    first false d e = refl

    apart : (l : ℕ) → (u.literal ≡ l → variable w.literal ≡ variable u.literal) → eqb u.literal l ≡ false
    apart l k = ne_eqb u.literal l (λ e. eqb-false (variable w.literal) (variable u.literal) (first (eqb (variable w.literal) (variable u.literal)) (mentions (literals_in ws) (variable u.literal)) n) (k e))

    later : (b : Bool) → (b || mentions (literals_in ws) (variable u.literal)) ≡ false → mentions (literals_in ws) (variable u.literal) ≡ false
    later true e = absurd (true≢false e)
    later false e = e

units_run : (us : List StoredUnit) (known : List ℕ) (rest : List (List ℕ)) → AreOpen known us → VariablesDistinct (literals_in us) → UnitInTurn (pushed us known) rest → UnitInTurn known (map (λ u. u.literal ∷ []) us ++ rest)
units_run [] known rest o p r = r
units_run (u ∷ us) known rest o p r =
    unit_front known (u.literal ∷ []) u.literal (map (λ w. w.literal ∷ []) us ++ rest)
    (record { within = or_left (eqb u.literal u.literal) false (eq-eqb u.literal u.literal refl); not_true = o.0.0; not_false = o.0.1; others = (inl refl, tt) })
    (units_run us (u.literal ∷ known) rest (still_open known u us o.1 p.0) p.1 r)

pushed_has : (us : List StoredUnit) (known : List ℕ) (m : ℕ) → (is_among (literals_in us) m ≡ true) ⊎ (is_among known m ≡ true) → is_among (pushed us known) m ≡ true
pushed_has [] known m h = elim h [ inl e ↦ absurd (true≢false (sym e)) | inr e ↦ e ]
pushed_has (u ∷ us) known m h = pushed_has us (u.literal ∷ known) m
    (elim h [
      | inl e ↦ elim (or_cases (eqb u.literal m) (is_among (literals_in us) m) e) [ inl s ↦ inr (or_left (eqb u.literal m) (is_among known m) s) | inr k ↦ inl k ]
      | inr e ↦ inr (or_right (eqb u.literal m) (is_among known m) e)
    ])

pushed_from : (us : List StoredUnit) (known : List ℕ) (m : ℕ) → is_among (pushed us known) m ≡ true → (is_among (literals_in us) m ≡ true) ⊎ (is_among known m ≡ true)
pushed_from [] known m e = inr e
pushed_from (u ∷ us) known m e =
    elim (pushed_from us (u.literal ∷ known) m e) [
      | inl k ↦ inl (or_right (eqb u.literal m) (is_among (literals_in us) m) k)
      | inr k ↦ elim (or_cases (eqb u.literal m) (is_among known m) k) [ inl s ↦ inl (or_left (eqb u.literal m) (is_among (literals_in us) m) s) | inr t ↦ inr t ]
    ]

-- what still holds if some units are left out
module _ (p : StoredUnit → Bool) where
  few_within : (us : List StoredUnit) (m : ℕ) → is_among (literals_in (filter p us)) m ≡ true → is_among (literals_in us) m ≡ true
  few_within [] m e = e
  few_within (u ∷ us) m e = go (few_within us m) (p u) e
    where
      go : (is_among (literals_in (filter p us)) m ≡ true → is_among (literals_in us) m ≡ true) → (b : Bool) → is_among (literals_in (cond b (u ∷ filter p us) (filter p us))) m ≡ true → is_among (literals_in (u ∷ us)) m ≡ true
      go ih true k = elim (or_cases (eqb u.literal m) (is_among (literals_in (filter p us)) m) k) [ inl s ↦ or_left (eqb u.literal m) (is_among (literals_in us) m) s | inr t ↦ or_right (eqb u.literal m) (is_among (literals_in us) m) (ih t) ]
      go ih false k = or_right (eqb u.literal m) (is_among (literals_in us) m) (ih k)

  few_mention : (v : ℕ) (us : List StoredUnit) → mentions (literals_in us) v ≡ false → mentions (literals_in (filter p us)) v ≡ false
  few_mention v [] e = e
  few_mention v (u ∷ us) e = go (few_mention v us) (p u) (eqb (variable u.literal) v) refl e
    where
      go : (mentions (literals_in us) v ≡ false → mentions (literals_in (filter p us)) v ≡ false) → (b d : Bool) → eqb (variable u.literal) v ≡ d → (d || mentions (literals_in us) v) ≡ false → mentions (literals_in (cond b (u ∷ filter p us) (filter p us))) v ≡ false
      go ih b true s k = absurd (true≢false k)
      go ih true false s k = rw s (ih k)
      go ih false false s k = ih k

  few_apart : (us : List StoredUnit) → VariablesDistinct (literals_in us) → VariablesDistinct (literals_in (filter p us))
  few_apart [] h = tt
  few_apart (u ∷ us) h = go (few_apart us h.1) (p u)
    where
      go : VariablesDistinct (literals_in (filter p us)) → (b : Bool) → VariablesDistinct (literals_in (cond b (u ∷ filter p us) (filter p us)))
      go ih true = (few_mention (variable u.literal) us h.0, ih)
      go ih false = ih

  few_each : (P : StoredUnit → Type 0) (us : List StoredUnit) → AllByRecursion (λ u. p u ≡ true → P u) us → AllByRecursion P (filter p us)
  few_each P [] h = tt
  few_each P (u ∷ us) h = go (few_each P us h.1) (p u) refl
    where
      go : AllByRecursion P (filter p us) → (b : Bool) → p u ≡ b → AllByRecursion P (cond b (u ∷ filter p us) (filter p us))
      go ih true e = (h.0 e, ih)
      go ih false e = ih

  few_has : (us : List StoredUnit) (m : ℕ) → ((u : StoredUnit) → u.literal ≡ m → p u ≡ true) → is_among (literals_in us) m ≡ true → is_among (literals_in (filter p us)) m ≡ true
  few_has [] m t e = e
  few_has (u ∷ us) m t e = go (few_has us m t) (p u) refl (or_cases (eqb u.literal m) (is_among (literals_in us) m) e)
    where
      go : (is_among (literals_in us) m ≡ true → is_among (literals_in (filter p us)) m ≡ true) → (b : Bool) → p u ≡ b → (eqb u.literal m ≡ true) ⊎ (is_among (literals_in us) m ≡ true) → is_among (literals_in (cond b (u ∷ filter p us) (filter p us))) m ≡ true
      go ih true x (inl s) = or_left (eqb u.literal m) (is_among (literals_in (filter p us)) m) s
      go ih true x (inr k) = or_right (eqb u.literal m) (is_among (literals_in (filter p us)) m) (ih k)
      go ih false x (inl s) = absurd (both_ways (p u) x (t u (eqb-true u.literal m s)))
      go ih false x (inr k) = ih k

one_of_later : {A : Type 0} (P : A → Type 0) (y : A) (ys xs : List A) → AllByRecursion (λ x. P x → IsOneOf x ys) xs → AllByRecursion (λ x. P x → IsOneOf x (y ∷ ys)) xs
one_of_later P y ys [] h = tt
one_of_later P y ys (x ∷ xs) h = (λ k. inr (h.0 k), one_of_later P y ys xs h.1)

one_of_itself : (p : StoredUnit → Bool) (us : List StoredUnit) → AllByRecursion (λ u. p u ≡ true → IsOneOf u us) us
one_of_itself p [] = tt
one_of_itself p (u ∷ us) = (λ k. inl refl, one_of_later (λ w. p w ≡ true) u us us (one_of_itself p us))

-- a unit with this literal and this id
pub record UnitOf (us : List StoredUnit) (l id : ℕ) : Type 0 where
  pub unit : StoredUnit
  pub stored : IsOneOf unit us
  pub id_is : unit.id ≡ id
  pub literal_is : unit.literal ≡ l

pub unit_found : (l id : ℕ) (us : List StoredUnit) → unit_id l us ≡ Some id → UnitOf us l id
unit_found l id [] e = absurd cc
unit_found l id (u ∷ us) e = go (unit_found l id us) (eqb u.literal l) refl e
  where
    go : (unit_id l us ≡ Some id → UnitOf us l id) → (b : Bool) → eqb u.literal l ≡ b → cond b (Some u.id) (unit_id l us) ≡ Some id → UnitOf (u ∷ us) l id
    go ih true s k = record { unit = u; stored = inl refl; id_is = cc; literal_is = eqb-true u.literal l s }
    go ih false s k = let w = ih k in record { unit = w.unit; stored = inr w.stored; id_is = w.id_is; literal_is = w.literal_is }

unit_missing : (l : ℕ) (us : List StoredUnit) → unit_id l us ≡ None → is_among (literals_in us) l ≡ false
unit_missing l [] e = refl
unit_missing l (u ∷ us) e = go (unit_missing l us) (eqb u.literal l) e
  where
    go : (unit_id l us ≡ None → is_among (literals_in us) l ≡ false) → (b : Bool) → cond b (Some u.id) (unit_id l us) ≡ None → (b || is_among (literals_in us) l) ≡ false
    go ih true k = absurd cc
    go ih false k = ih k

pub record TrueUnit (us : List StoredUnit) (ls : List ℕ) (id : ℕ) : Type 0 where
  pub literal : ℕ
  pub within : is_among ls literal ≡ true
  pub found : UnitOf us literal id

pub true_found : (ls : List ℕ) (us : List StoredUnit) (id : ℕ) → satisfying_unit ls us ≡ Some id → TrueUnit us ls id
true_found [] us id e = absurd cc
true_found (l ∷ ls) us id e = go (true_found ls us id) (unit_id l us) refl e
  where
    go : (satisfying_unit ls us ≡ Some id → TrueUnit us ls id) → (x : Option ℕ) → unit_id l us ≡ x → or_else x (satisfying_unit ls us) ≡ Some id → TrueUnit us (l ∷ ls) id
    go ih None s k = let t = ih k in record { literal = t.literal; within = or_right (eqb l t.literal) (is_among ls t.literal) t.within; found = t.found }
    go ih (Some i) s k = record { literal = l; within = or_left (eqb l l) (is_among ls l) (eq-eqb l l refl); found = unit_found l id us (s ∙ k) }

pub true_missing : (ls : List ℕ) (us : List StoredUnit) → satisfying_unit ls us ≡ None → (m : ℕ) → is_among ls m ≡ true → is_among (literals_in us) m ≡ false
true_missing [] us e m h = absurd (true≢false (sym h))
true_missing (l ∷ ls) us e m h = go (true_missing ls us) (unit_id l us) refl e (or_cases (eqb l m) (is_among ls m) h)
  where
    go : (satisfying_unit ls us ≡ None → (n : ℕ) → is_among ls n ≡ true → is_among (literals_in us) n ≡ false) → (x : Option ℕ) → unit_id l us ≡ x → or_else x (satisfying_unit ls us) ≡ None → (eqb l m ≡ true) ⊎ (is_among ls m ≡ true) → is_among (literals_in us) m ≡ false
    go ih None s k (inl t) = subst (λ x. is_among (literals_in us) x ≡ false) (eqb-true l m t) (unit_missing l us s)
    go ih None s k (inr t) = ih k m t
    go ih (Some i) s k c = absurd cc

-- the named clauses are the clauses of the buckets
filter_literals : (p : List ℕ → Bool) (cs : List StoredClause) → filter p (literals_of cs) ≡ literals_of (filter (λ c. p c.literals) cs)
filter_literals p [] = refl
filter_literals p (c ∷ cs) = go (filter_literals p cs) (p c.literals)
  where
    go : filter p (literals_of cs) ≡ literals_of (filter (λ d. p d.literals) cs) → (b : Bool) → cond b (c.literals ∷ filter p (literals_of cs)) (filter p (literals_of cs)) ≡ literals_of (cond b (c ∷ filter (λ d. p d.literals) cs) (filter (λ d. p d.literals) cs))
    go ih true = ap (λ xs. c.literals ∷ xs) ih
    go ih false = ih

literals_both : (xs ys : List StoredClause) → literals_of (xs ++ ys) ≡ literals_of xs ++ literals_of ys
literals_both [] ys = refl
literals_both (x ∷ xs) ys = ap (λ zs. x.literals ∷ zs) (literals_both xs ys)

named_clauses : (hashes : List ℕ) (f : Stored) → clauses_in (map (bucket f) hashes) ≡ literals_of (clauses_of_hashes hashes f)
named_clauses [] f = refl
named_clauses (h ∷ hs) f =
    let p : List ℕ → Bool = λ c. eqb (clause_hash_by f.solver_names f.width c) h in
    ap (λ xs. xs ++ clauses_in (map (bucket f) hs)) (filter_literals p f.clauses)
    ∙ ap (λ ys. literals_of (filter (λ c. p c.literals) f.clauses) ++ ys) (named_clauses hs f)
    ∙ sym (literals_both (filter (λ c. p c.literals) f.clauses) (clauses_of_hashes hs f))

walk_both : (xs ys : List (List ℕ)) (assumed : List ℕ) → walk assumed (xs ++ ys) ≡ and_then (walk assumed xs) (λ more. walk more ys)
walk_both [] ys assumed = refl
walk_both (c ∷ cs) ys assumed = go (walk_both cs ys) (walk_clause (clause_state assumed c) assumed)
  where
    go : ((m : List ℕ) → walk m (cs ++ ys) ≡ and_then (walk m cs) (λ more. walk more ys)) → (o : Option (List ℕ)) → and_then o (λ m. walk m (cs ++ ys)) ≡ and_then (and_then o (λ m. walk m cs)) (λ more. walk more ys)
    go ih None = refl
    go ih (Some m) = ih m

walk_joined : (buckets : List (List (List ℕ))) (assumed : List ℕ) → walk_buckets assumed buckets ≡ true → walk assumed (clauses_in buckets) ≡ None
walk_joined [] assumed e = absurd (true≢false (sym e))
walk_joined ([] ∷ bs) assumed e = absurd (true≢false (sym e))
walk_joined ((c ∷ cs) ∷ bs) assumed e = walk_both (c ∷ cs) (clauses_in bs) assumed ∙ go (walk_joined bs) (walk assumed (c ∷ cs)) e
  where
    go : ((m : List ℕ) → walk_buckets m bs ≡ true → walk m (clauses_in bs) ≡ None) → (o : Option (List ℕ)) → if_conflict o (λ m. walk_buckets m bs) ≡ true → and_then o (λ more. walk more (clauses_in bs)) ≡ None
    go ih None k = refl
    go ih (Some m) k = ih m k

-- no literal occurs twice in a stored clause
sets_once : (p : List ℕ → Bool) (cs : List StoredClause) → AllByRecursion (λ c. IsIncreasing c.literals) cs → AllByRecursion NoRepeats (filter p (literals_of cs))
sets_once p [] h = tt
sets_once p (c ∷ cs) h = go (sets_once p cs h.1) (p c.literals)
  where
    go : AllByRecursion NoRepeats (filter p (literals_of cs)) → (b : Bool) → AllByRecursion NoRepeats (cond b (c.literals ∷ filter p (literals_of cs)) (filter p (literals_of cs)))
    go ih true = (once c.literals h.0, ih)
    go ih false = ih

buckets_sets : (hashes : List ℕ) (f : Stored) → Sorted f → AllByRecursion (AllByRecursion NoRepeats) (map (bucket f) hashes)
buckets_sets [] f s = tt
buckets_sets (h ∷ hs) f s = (sets_once (λ c. eqb (clause_hash_by f.solver_names f.width c) h) f.clauses s.sets, buckets_sets hs f s)

-- the needed clauses are stored
pub one_of_few : (p : StoredClause → Bool) (c : StoredClause) (cs : List StoredClause) → IsOneOf c (filter p cs) → IsOneOf c cs
one_of_few p c [] h = h
one_of_few p c (d ∷ ds) h = go (one_of_few p c ds) (p d) h
  where
    go : (IsOneOf c (filter p ds) → IsOneOf c ds) → (b : Bool) → IsOneOf c (cond b (d ∷ filter p ds) (filter p ds)) → IsOneOf c (d ∷ ds)
    go ih true k = elim k [ inl e ↦ inl e | inr m ↦ inr (ih m) ]
    go ih false k = inr (ih k)

one_of_both : (c : StoredClause) (xs ys : List StoredClause) → IsOneOf c (xs ++ ys) → IsOneOf c xs ⊎ IsOneOf c ys
one_of_both c [] ys h = inr h
one_of_both c (x ∷ xs) ys h = elim h [ inl e ↦ inl (inl e) | inr k ↦ elim (one_of_both c xs ys k) [ inl m ↦ inl (inr m) | inr n ↦ inr n ] ]

pub named_stored : (hashes : List ℕ) (f : Stored) (c : StoredClause) → IsOneOf c (clauses_of_hashes hashes f) → IsOneOf c f.clauses
named_stored [] f c h = absurd h
named_stored (k ∷ ks) f c h =
    elim (one_of_both c (filter (λ d. eqb (clause_hash_by f.solver_names f.width d.literals) k) f.clauses) (clauses_of_hashes ks f) h) [
      | inl m ↦ one_of_few (λ d. eqb (clause_hash_by f.solver_names f.width d.literals) k) c f.clauses m
      | inr m ↦ named_stored ks f c m
    ]

grounds_among : (P : StoredClause → Type 0) (cs : List StoredClause) (assumed : List ℕ) → ((c : StoredClause) → IsOneOf c cs → P c) → AllByRecursion P (conflict_causes assumed cs).clauses
grounds_among P [] assumed h = tt
grounds_among P (c ∷ cs) assumed h = go (λ m. grounds_among P cs m (λ d k. h d (inr k))) (clause_state assumed c.literals)
  where
    opened : (o : ℕ) (g : ConflictCauses) → AllByRecursion P g.clauses → (b : Bool) → AllByRecursion P (cond b (record { literals = map negated (filter (λ m. not (eqb m o)) c.literals) ++ g.literals; clauses = c ∷ g.clauses }) g).clauses
    opened o g ih true = (h c (inl refl), ih)
    opened o g ih false = ih

    go : ((m : List ℕ) → AllByRecursion P (conflict_causes m cs).clauses) → (v : ClauseState) → AllByRecursion P (causes_by v c assumed (λ more. conflict_causes more cs)).clauses
    go ih falsified = (h c (inl refl), tt)
    go ih (becomes_unit o) = opened o (conflict_causes (o ∷ assumed) cs) (ih (o ∷ assumed)) (is_among (conflict_causes (o ∷ assumed) cs).literals o)
    go ih neither = ih assumed

unnegated : (ls : List ℕ) (m : ℕ) → is_among (map negated ls) (negated m) ≡ true → is_among ls m ≡ true
unnegated [] m e = e
unnegated (l ∷ ls) m e =
    elim (or_cases (eqb (negated l) (negated m)) (is_among (map negated ls) (negated m)) e) [
      | inl s ↦ or_left (eqb l m) (is_among ls m) (eq-eqb l m (sym (negated-negated l) ∙ ap negated (eqb-true (negated l) (negated m) s) ∙ negated-negated m))
      | inr k ↦ or_right (eqb l m) (is_among ls m) (unnegated ls m k)
    ]

pub not_both : (b d : Bool) → (b && not d) ≡ true → d ≡ false
not_both true true e = absurd (true≢false (sym e))
not_both true false e = refl
not_both false d e = absurd (true≢false (sym e))

pub both_from : (b d : Bool) → b ≡ true → d ≡ false → (b && not d) ≡ true
both_from true true e f = absurd (true≢false f)
both_from true false e f = refl
both_from false d e f = absurd (true≢false (sym e))

pub any_none : (p : ℕ → Bool) (ls : List ℕ) → ((m : ℕ) → is_among ls m ≡ true → p m ≡ false) → list_any p ls ≡ false
any_none p [] h = refl
any_none p (l ∷ ls) h = or_from (p l) (list_any p ls) (h l (or_left (eqb l l) (is_among ls l) (eq-eqb l l refl))) (any_none p ls (λ m e. h m (or_right (eqb l m) (is_among ls m) e)))

each_unit : (P : ℕ → Type 0) (us : List StoredUnit) → ((m : ℕ) → is_among (literals_in us) m ≡ true → P m) → AllByRecursion (λ u. P u.literal) us
each_unit P [] h = tt
each_unit P (u ∷ us) h = (h u.literal (or_left (eqb u.literal u.literal) (is_among (literals_in us) u.literal) (eq-eqb u.literal u.literal refl)), each_unit P us (λ m e. h m (or_right (eqb u.literal m) (is_among (literals_in us) m) e)))

each_imp : (P Q : StoredUnit → Type 0) (us : List StoredUnit) → ((u : StoredUnit) → P u → Q u) → AllByRecursion P us → AllByRecursion Q us
each_imp P Q [] w h = tt
each_imp P Q (u ∷ us) w h = (w u h.0, each_imp P Q us w h.1)

-- if no unit satisfies the clause and the walk reaches a conflict, the clause follows from its causes
module _ (f : Stored) (clause hashes : List ℕ) (sorted : Sorted f) (apart : VariablesDistinct (unit_literals f)) where
  rests_on_conflict : ((m : ℕ) → is_among clause m ≡ true → is_among (unit_literals f) m ≡ false) → walk (map negated clause ++ unit_literals f) (literals_of (clauses_of_hashes hashes f)) ≡ None
      → FollowsByPropagation f clause (conflict_ids (map negated clause) (conflict_causes (map negated clause ++ unit_literals f) (clauses_of_hashes hashes f)) f.units)
  rests_on_conflict none e =
      let denied : List ℕ = map negated clause in
      let assumed : List ℕ = denied ++ unit_literals f in
      let g : ConflictCauses = conflict_causes assumed (clauses_of_hashes hashes f) in
      let p : StoredUnit → Bool = λ u. is_among g.literals u.literal && not (is_among denied u.literal) in
      let needed : List StoredUnit = needed_units denied g f.units in
      let open_units : AreOpen denied needed = few_each p (λ u. (is_among denied u.literal ≡ false) × (is_among denied (negated u.literal) ≡ false)) f.units
      (each_imp (λ u. is_among clause u.literal ≡ false) (λ u. p u ≡ true → (is_among denied u.literal ≡ false) × (is_among denied (negated u.literal) ≡ false)) f.units
      (λ u n t. (not_both (is_among g.literals u.literal) (is_among denied u.literal) t, false_from_ne_true (is_among denied (negated u.literal)) (λ k. both_ways (is_among clause u.literal) n (unnegated clause u.literal k))))
      (each_unit (λ l. is_among clause l ≡ false) f.units (λ m k. false_from_ne_true (is_among clause m) (λ t. both_ways (is_among (unit_literals f) m) (none m t) k)))) in
      let within : Within (pushed needed denied) assumed = record {
        each = λ m k. among-append denied (unit_literals f) m ∙ elim (pushed_from needed denied m k) [
          | inl t ↦ or_right (is_among denied m) (is_among (unit_literals f) m) (few_within p f.units m t)
          | inr t ↦ or_left (is_among denied m) (is_among (unit_literals f) m) t
        ];
      } in
      let enough : (m : ℕ) → is_among g.literals m ≡ true → is_among assumed m ≡ true → is_among (pushed needed denied) m ≡ true = λ m n a. pushed_has needed denied m
      (elim (cases_Bool (is_among denied m)) [
        | inl t ↦ inr t
        | inr t ↦ inl (few_has p f.units m
            (λ u s. both_from (is_among g.literals u.literal) (is_among denied u.literal) (subst (λ x. is_among g.literals x ≡ true) (sym s) n) (subst (λ x. is_among denied x ≡ false) (sym s) t))
            (elim (or_cases (is_among denied m) (is_among (unit_literals f) m) (sym (among-append denied (unit_literals f) m) ∙ a)) [ inl x ↦ absurd (both_ways (is_among denied m) t x) | inr y ↦ y ]))
      ]) in
      record {
        units = needed;
        clauses = g.clauses;
        are = refl;
        units_stored = few_each p (λ u. IsOneOf u f.units) f.units (one_of_itself p f.units);
        clauses_stored = grounds_among (λ c. IsOneOf c f.clauses) (clauses_of_hashes hashes f) assumed (named_stored hashes f);
        increasing = few_increasing p f.units sorted.increasing;
        conflict = units_run needed denied (literals_of g.clauses) open_units (few_apart p f.units apart) (grounds_run (clauses_of_hashes hashes f) assumed (pushed needed denied) e (record { within = within; enough = enough }));
      }

  pub rests_on_unit : (id : ℕ) → satisfying_unit (canonical clause) f.units ≡ Some id → FollowsByPropagation f clause (id ∷ [])
  rests_on_unit id e =
      let t = true_found (canonical clause) f.units id e in
      let m : is_among clause t.found.unit.literal ≡ true = subst (λ x. is_among clause x ≡ true) (sym t.found.literal_is) (sym (canonical_among clause t.literal) ∙ t.within) in
      record {
        units = t.found.unit ∷ [];
        clauses = [];
        are = ap (λ i. i ∷ []) (sym t.found.id_is);
        units_stored = (t.found.stored, tt);
        clauses_stored = tt;
        increasing = (tt, tt);
        conflict = (among_negated clause t.found.unit.literal m, tt);
      }

  -- a clause that passes because of a conflict makes the walk reach one
  pub reached : ((m : ℕ) → is_among clause m ≡ true → is_among (unit_literals f) m ≡ false) → is_tautology clause ≡ false → PassesByHashes f clause hashes → walk (map negated clause ++ unit_literals f) (literals_of (clauses_of_hashes hashes f)) ≡ None
  reached none n (tautology t) = absurd (both_ways (is_tautology clause) n t)
  reached none n (unit_true t) = absurd (both_ways (list_any (is_among (unit_literals f)) clause) (any_none (is_among (unit_literals f)) clause none) t)
  reached none n (conflict k) =
      let assumed : List ℕ = map negated clause ++ unit_literals f in
      subst (λ cs. walk assumed cs ≡ None) (named_clauses hashes f)
      (walk_joined (map (bucket f) hashes) assumed (walk_from_rule assumed assumed (map (bucket f) hashes) (record { each = λ l h. h }) (buckets_sets hashes f sorted) k))

  pub rests_on : PassesByHashes f clause hashes → is_tautology clause ≡ false → FollowsByPropagation f clause (propagations f clause hashes)
  rests_on passes n = subst (λ b. FollowsByPropagation f clause (cond b [] (only_unit_or (satisfying_unit (canonical clause) f.units) ids))) (sym n) (go (satisfying_unit (canonical clause) f.units) refl)
    where
      ids : List ℕ
      ids = conflict_ids (map negated clause) (conflict_causes (map negated clause ++ unit_literals f) (clauses_of_hashes hashes f)) f.units

      go : (x : Option ℕ) → satisfying_unit (canonical clause) f.units ≡ x → FollowsByPropagation f clause (only_unit_or x ids)
      go (Some id) e = rests_on_unit id e
      go None e =
          let none : (m : ℕ) → is_among clause m ≡ true → is_among (unit_literals f) m ≡ false = λ m k. true_missing (canonical clause) f.units e m (canonical_among clause m ∙ k) in
          rests_on_conflict none (reached none n passes)

pub tautologies : TautologiesNeedNoIds
tautologies f clause hashes t = rw t refl
