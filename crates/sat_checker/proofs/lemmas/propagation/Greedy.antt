-- The greedy walk reaches a conflict exactly if some of the clauses are unit in turn, the last falsified.
use Rattle.std.proofs.Common.{ℕ, ◌≡◌, ◌≢◌, Bool, true, false, not, ◌||◌, cond, eqb, List, [], ◌∷◌, ◌++◌, refl, sym, ◌∙◌, ap, subst, Option, Some, None, ◌⊎◌, inl, inr}
use Rattle.std.proofs.lemmas.Bool.{or_cases, or_left, or_right, both_ways, eqb-true, eq-eqb, true≢false}
use Rattle.std.specs.List.{AllByRecursion}
use Rattle.sat_base.specs.values.Literals.{negated}
use Rattle.sat_checker.specs.LiteralSets.{is_among}
use Rattle.sat_checker.specs.inner.Marks.{NoRepeats}
use Rattle.sat_checker.specs.Propagation.{IsFalsified, IsUnit, UnitInTurn, IsSubsequence, clauses_in, BucketsConflict}
use Rattle.sat_checker.specs.inner.Walk.{becomes_unit, neither, clause_state, state_by_open, not_false, walk, walk_clause, and_then, walk_buckets, if_conflict}

abbrev IsFalse : List ℕ → ℕ → Type 0
IsFalse assumed l = is_among assumed (negated l) ≡ true

-- if no literal is left, all literals are false
none_open : (assumed clause : List ℕ) → not_false assumed clause ≡ [] → IsFalsified assumed clause
none_open assumed [] e = tt
none_open assumed (l ∷ ls) e = go (none_open assumed ls) (is_among assumed (negated l)) refl e
  where
    go : (not_false assumed ls ≡ [] → IsFalsified assumed ls) → (b : Bool) → is_among assumed (negated l) ≡ b → cond (not b) (l ∷ not_false assumed ls) (not_false assumed ls) ≡ [] → IsFalsified assumed (l ∷ ls)
    go ih true h e' = (h, ih e')
    go ih false h e' = absurd cc

all_false : (assumed clause : List ℕ) → IsFalsified assumed clause → not_false assumed clause ≡ []
all_false assumed [] h = refl
all_false assumed (l ∷ ls) h = rw h.0 (all_false assumed ls h.1)

-- exactly one literal is not false
record OneOpen (assumed clause : List ℕ) (o : ℕ) : Type 0 where
  within : is_among clause o ≡ true
  not_false : is_among assumed (negated o) ≡ false
  others : AllByRecursion (λ l. (l ≡ o) ⊎ IsFalse assumed l) clause

others_from : (assumed clause : List ℕ) (o : ℕ) → IsFalsified assumed clause → AllByRecursion (λ l. (l ≡ o) ⊎ IsFalse assumed l) clause
others_from assumed [] o h = tt
others_from assumed (l ∷ ls) o h = (inr h.0, others_from assumed ls o h.1)

one_open : (assumed clause : List ℕ) (o : ℕ) → not_false assumed clause ≡ o ∷ [] → OneOpen assumed clause o
one_open assumed [] o e = absurd cc
one_open assumed (l ∷ ls) o e = go (one_open assumed ls o) (is_among assumed (negated l)) refl e
  where
    go : (not_false assumed ls ≡ o ∷ [] → OneOpen assumed ls o) → (b : Bool) → is_among assumed (negated l) ≡ b → cond (not b) (l ∷ not_false assumed ls) (not_false assumed ls) ≡ o ∷ [] → OneOpen assumed (l ∷ ls) o
    go ih true h e' = let k = ih e' in record { within = or_right (eqb l o) (is_among ls o) k.within; not_false = k.not_false; others = (inr h, k.others) }
    go ih false h e' =
        let same : l ≡ o = cc in
        let rest : not_false assumed ls ≡ [] = cc in
        record {
          within = or_left (eqb l o) (is_among ls o) (eq-eqb l o same);
          not_false = subst (λ x. is_among assumed (negated x) ≡ false) same h;
          others = (inl same, others_from assumed ls o (none_open assumed ls rest));
        }

-- if a disjunction is false, so is its second part
or_none : (x y : Bool) → (x || y) ≡ false → y ≡ false
or_none true y e = absurd cc
or_none false y e = e

-- if all literals but `o` are false, at most `o` is left, and none if `o` is not in the clause
away : (assumed : List ℕ) (o : ℕ) (ms : List ℕ) → is_among ms o ≡ false → AllByRecursion (λ m. (m ≡ o) ⊎ IsFalse assumed m) ms → IsFalsified assumed ms
away assumed o [] k a = tt
away assumed o (m ∷ ms) k a = (
  elim a.0 [ inl e ↦ absurd (both_ways (eqb m o || is_among ms o) k (or_left (eqb m o) (is_among ms o) (eq-eqb m o e))) | inr f ↦ f ],
  away assumed o ms (or_none (eqb m o) (is_among ms o) k) a.1,
)

only_open : (assumed clause : List ℕ) (o : ℕ) → NoRepeats clause → AllByRecursion (λ l. (l ≡ o) ⊎ IsFalse assumed l) clause → (not_false assumed clause ≡ []) ⊎ (not_false assumed clause ≡ o ∷ [])
only_open assumed [] o n h = inl refl
only_open assumed (l ∷ ls) o n h = go (only_open assumed ls o n.1 h.1) (is_among assumed (negated l)) refl
  where
    go : (not_false assumed ls ≡ []) ⊎ (not_false assumed ls ≡ o ∷ []) → (b : Bool) → is_among assumed (negated l) ≡ b → (cond (not b) (l ∷ not_false assumed ls) (not_false assumed ls) ≡ []) ⊎ (cond (not b) (l ∷ not_false assumed ls) (not_false assumed ls) ≡ o ∷ [])
    go ih true e = ih
    go ih false e = elim h.0 [
      | inl same ↦ let gone : is_among ls o ≡ false = subst (λ x. is_among ls x ≡ false) same n.0 in
          inr (ap (λ ms. l ∷ ms) (all_false assumed ls (away assumed o ls gone h.1)) ∙ ap (λ x. x ∷ []) same)
      | inr f ↦ absurd (both_ways (is_among assumed (negated l)) e f)
    ]

-- a subsequence of a list is a subsequence of a longer list
IsSubsequence-longer : (xs : List (List ℕ)) (y : List ℕ) (ys : List (List ℕ)) → IsSubsequence xs ys → IsSubsequence xs (y ∷ ys)
IsSubsequence-longer [] y ys h = tt
IsSubsequence-longer (x ∷ xs) y ys h = inr h

-- what holds for all members of a list holds for a subsequence
pub picked_each : (P : List ℕ → Type 0) (xs ys : List (List ℕ)) → IsSubsequence xs ys → AllByRecursion P ys → AllByRecursion P xs
picked_each P [] ys s h = tt
picked_each P (x ∷ xs) [] s h = absurd s
picked_each P (x ∷ xs) (y ∷ ys) s h = elim s [ inl p ↦ (subst P (sym p.0) h.0, picked_each P xs ys p.1 h.1) | inr q ↦ picked_each P (x ∷ xs) ys q h.1 ]

record Runs (assumed : List ℕ) (clauses : List (List ℕ)) : Type 0 where
  picked : List (List ℕ)
  chosen : IsSubsequence picked clauses
  conflict : UnitInTurn assumed picked

-- a unit clause can be put before clauses that are unit in turn once its literal is assumed
unit_first : (assumed clause : List ℕ) (o : ℕ) (rest : List (List ℕ)) → IsUnit assumed clause o → Runs (o ∷ assumed) rest → Runs assumed (clause ∷ rest)
unit_first assumed clause o rest u r = go r.picked r.chosen r.conflict
  where
    go : (named : List (List ℕ)) → IsSubsequence named rest → UnitInTurn (o ∷ assumed) named → Runs assumed (clause ∷ rest)
    go [] s c = absurd c
    go (d ∷ ds) s c = record { picked = clause ∷ d ∷ ds; chosen = inl (refl, s); conflict = (o, u, c) }

-- if the walk reaches a conflict, some of the clauses are unit in turn, the last falsified
walk_runs : (clauses : List (List ℕ)) (assumed : List ℕ) → walk assumed clauses ≡ None → Runs assumed clauses
walk_runs [] assumed e = absurd cc
walk_runs (c ∷ cs) assumed e = by_open (walk_runs cs) (not_false assumed c) refl e
  where
    by_mark : ((more : List ℕ) → walk more cs ≡ None → Runs more cs) → (o : ℕ) → not_false assumed c ≡ o ∷ [] → (b : Bool) → is_among assumed o ≡ b → and_then (walk_clause (cond b neither (becomes_unit o)) assumed) (λ more. walk more cs) ≡ None → Runs assumed (c ∷ cs)
    by_mark ih o h true m e' = let r = ih assumed e' in record { picked = r.picked; chosen = IsSubsequence-longer r.picked c cs r.chosen; conflict = r.conflict }
    by_mark ih o h false m e' =
        let k = one_open assumed c o h in
        unit_first assumed c o cs (record { within = k.within; not_true = m; not_false = k.not_false; others = k.others }) (ih (o ∷ assumed) e')

    by_open : ((more : List ℕ) → walk more cs ≡ None → Runs more cs) → (ls : List ℕ) → not_false assumed c ≡ ls → and_then (walk_clause (state_by_open assumed ls) assumed) (λ more. walk more cs) ≡ None → Runs assumed (c ∷ cs)
    by_open ih [] h e' = record { picked = c ∷ []; chosen = inl (refl, tt); conflict = none_open assumed c h }
    by_open ih (o ∷ []) h e' = by_mark ih o h (is_among assumed o) refl e'
    by_open ih (o ∷ p ∷ ls) h e' = let r = ih assumed e' in record { picked = r.picked; chosen = IsSubsequence-longer r.picked c cs r.chosen; conflict = r.conflict }

-- every literal of the first list is in the second
pub record Within (fewer more : List ℕ) : Type 0 where
  pub each : (l : ℕ) → is_among fewer l ≡ true → is_among more l ≡ true

pub Within-itself : (xs : List ℕ) → Within xs xs
Within-itself xs = record { each = λ l h. h }

Within-one_more : (xs : List ℕ) (o : ℕ) → Within xs (o ∷ xs)
Within-one_more xs o = record { each = λ l h. or_right (eqb o l) (is_among xs l) h }

Within-further : (xs ys zs : List ℕ) → Within xs ys → Within ys zs → Within xs zs
Within-further xs ys zs h k = record { each = λ l m. k.each l (h.each l m) }

Within-both : (xs ys : List ℕ) (o : ℕ) → Within xs ys → Within (o ∷ xs) (o ∷ ys)
Within-both xs ys o h =
    record { each = λ l m. elim (or_cases (eqb o l) (is_among xs l) m) [ inl e ↦ or_left (eqb o l) (is_among ys l) e | inr k ↦ or_right (eqb o l) (is_among ys l) (h.each l k) ] }

Within-had : (xs ys : List ℕ) (o : ℕ) → Within xs ys → is_among ys o ≡ true → Within (o ∷ xs) ys
Within-had xs ys o h t =
    record { each = λ l m. elim (or_cases (eqb o l) (is_among xs l) m) [ inl e ↦ subst (λ x. is_among ys x ≡ true) (eqb-true o l e) t | inr k ↦ h.each l k ] }

falsified_more : (xs ys clause : List ℕ) → Within xs ys → IsFalsified xs clause → IsFalsified ys clause
falsified_more xs ys [] h f = tt
falsified_more xs ys (l ∷ ls) h f = (h.each (negated l) f.0, falsified_more xs ys ls h f.1)

others_more : (xs ys clause : List ℕ) (o : ℕ) → Within xs ys → AllByRecursion (λ l. (l ≡ o) ⊎ IsFalse xs l) clause → AllByRecursion (λ l. (l ≡ o) ⊎ IsFalse ys l) clause
others_more xs ys [] o h f = tt
others_more xs ys (l ∷ ls) o h f = (elim f.0 [ inl e ↦ inl e | inr k ↦ inr (h.each (negated l) k) ], others_more xs ys ls o h f.1)

-- how the walk continues after a clause, given its literals that are not false
abbrev from_open : List ℕ → List (List ℕ) → List ℕ → Option (List ℕ)
from_open assumed rest ls = and_then (walk_clause (state_by_open assumed ls) assumed) (λ more. walk more rest)

walk_falsified : (assumed clause : List ℕ) (rest : List (List ℕ)) → not_false assumed clause ≡ [] → walk assumed (clause ∷ rest) ≡ None
walk_falsified assumed clause rest e = ap (from_open assumed rest) e

walk_opened : (assumed clause : List ℕ) (rest : List (List ℕ)) (o : ℕ) → not_false assumed clause ≡ o ∷ [] → (is_among assumed o ≡ true → walk assumed rest ≡ None) → (is_among assumed o ≡ false → walk (o ∷ assumed) rest ≡ None) → walk assumed (clause ∷ rest) ≡ None
walk_opened assumed clause rest o e had new = ap (from_open assumed rest) e ∙ go (is_among assumed o) refl
  where
    go : (b : Bool) → is_among assumed o ≡ b → and_then (walk_clause (cond b neither (becomes_unit o)) assumed) (λ more. walk more rest) ≡ None
    go true h = had h
    go false h = new h

-- if the rest of the walk reaches a conflict under any superset of the literals, so does the entire walk
walk_past : (assumed clause : List ℕ) (rest : List (List ℕ)) → ((more : List ℕ) → Within assumed more → walk more rest ≡ None) → walk assumed (clause ∷ rest) ≡ None
walk_past assumed clause rest next = go (not_false assumed clause) refl
  where
    go : (ls : List ℕ) → not_false assumed clause ≡ ls → walk assumed (clause ∷ rest) ≡ None
    go [] e = walk_falsified assumed clause rest e
    go (o ∷ []) e = walk_opened assumed clause rest o e (λ h. next assumed (Within-itself assumed)) (λ h. next (o ∷ assumed) (Within-one_more assumed o))
    go (o ∷ p ∷ ls) e = ap (from_open assumed rest) e ∙ next assumed (Within-itself assumed)

-- if some of the clauses are unit in turn, the last falsified, the walk reaches a conflict
-- even under more assumed literals
walk_finds : (clauses : List (List ℕ)) (fewer more : List ℕ) → Within fewer more → AllByRecursion NoRepeats clauses → (named : List (List ℕ)) → IsSubsequence named clauses → UnitInTurn fewer named → walk more clauses ≡ None
walk_finds clauses fewer more w n [] s r = absurd r
walk_finds [] fewer more w n (x ∷ xs) s r = absurd s
walk_finds (c ∷ cs) fewer more w n (x ∷ []) s r =
    elim s [
      | inl p ↦ walk_falsified more c cs (all_false more c (falsified_more fewer more c w (subst (λ y. IsFalsified fewer y) p.0 r)))
      | inr q ↦ walk_past more c cs (λ m k. walk_finds cs fewer m (Within-further fewer more m w k) n.1 (x ∷ []) q r)
    ]
walk_finds (c ∷ cs) fewer more w n (x ∷ d ∷ ds) s r =
    elim s [
      | inl p ↦
          let o : ℕ = r.0 in
          elim (only_open more c o n.0 (others_more fewer more c o w (subst (λ y. AllByRecursion (λ l. (l ≡ o) ⊎ IsFalse fewer l) y) p.0 r.1.others))) [
            | inl e ↦ walk_falsified more c cs e
            | inr e ↦ walk_opened more c cs o e
                (λ had. walk_finds cs (o ∷ fewer) more (Within-had fewer more o w had) n.1 (d ∷ ds) p.1 r.2)
                (λ new. walk_finds cs (o ∷ fewer) (o ∷ more) (Within-both fewer more o w) n.1 (d ∷ ds) p.1 r.2)
          ]
      | inr q ↦ walk_past more c cs (λ m k. walk_finds cs fewer m (Within-further fewer more m w k) n.1 (x ∷ d ∷ ds) q r)
    ]

walk-append : (xs ys : List (List ℕ)) (assumed : List ℕ) → walk assumed (xs ++ ys) ≡ and_then (walk assumed xs) (λ more. walk more ys)
walk-append [] ys assumed = refl
walk-append (c ∷ cs) ys assumed = go (walk-append cs ys) (walk_clause (clause_state assumed c) assumed)
  where
    go : ((m : List ℕ) → walk m (cs ++ ys) ≡ and_then (walk m cs) (λ more. walk more ys)) → (o : Option (List ℕ)) → and_then o (λ m. walk m (cs ++ ys)) ≡ and_then (and_then o (λ m. walk m cs)) (λ more. walk more ys)
    go ih None = refl
    go ih (Some m) = ih m

-- the buckets that the walk visited, none of them empty, up to its conflict
record Front (assumed : List ℕ) (buckets : List (List (List ℕ))) : Type 0 where
  first : List (List (List ℕ))
  rest : List (List (List ℕ))
  split : buckets ≡ first ++ rest
  none_empty : AllByRecursion (λ b. b ≢ []) first
  reached : walk assumed (clauses_in first) ≡ None

walk_front : (buckets : List (List (List ℕ))) (assumed : List ℕ) → walk_buckets assumed buckets ≡ true → Front assumed buckets
walk_front [] assumed e = absurd (true≢false (sym e))
walk_front ([] ∷ bs) assumed e = absurd (true≢false (sym e))
walk_front ((c ∷ cs) ∷ bs) assumed e = go (walk_front bs) (walk assumed (c ∷ cs)) refl e
  where
    go : ((m : List ℕ) → walk_buckets m bs ≡ true → Front m bs) → (o : Option (List ℕ)) → walk assumed (c ∷ cs) ≡ o → if_conflict o (λ m. walk_buckets m bs) ≡ true → Front assumed ((c ∷ cs) ∷ bs)
    go ih None h e' =
        record { first = (c ∷ cs) ∷ []; rest = bs; split = refl; none_empty = ((λ k. cc), tt); reached = walk-append (c ∷ cs) [] assumed ∙ ap (λ o. and_then o (λ more. walk more [])) h }
    go ih (Some m) h e' =
        let f = ih m e' in
        record {
          first = (c ∷ cs) ∷ f.first;
          rest = f.rest;
          split = ap (λ b. (c ∷ cs) ∷ b) f.split;
          none_empty = ((λ k. cc), f.none_empty);
          reached = walk-append (c ∷ cs) (clauses_in f.first) assumed ∙ ap (λ o. and_then o (λ more. walk more (clauses_in f.first))) h ∙ f.reached;
        }

walk_over : (first rest : List (List (List ℕ))) (assumed : List ℕ) → AllByRecursion (λ b. b ≢ []) first → walk assumed (clauses_in first) ≡ None → walk_buckets assumed (first ++ rest) ≡ true
walk_over [] rest assumed n e = absurd cc
walk_over ([] ∷ fs) rest assumed n e = absurd (n.0 refl)
walk_over ((c ∷ cs) ∷ fs) rest assumed n e = go (λ m. walk_over fs rest m n.1) (walk assumed (c ∷ cs)) (sym (walk-append (c ∷ cs) (clauses_in fs) assumed) ∙ e)
  where
    go : ((m : List ℕ) → walk m (clauses_in fs) ≡ None → walk_buckets m (fs ++ rest) ≡ true) → (o : Option (List ℕ)) → and_then o (λ more. walk more (clauses_in fs)) ≡ None → if_conflict o (λ m. walk_buckets m (fs ++ rest)) ≡ true
    go ih None e' = refl
    go ih (Some m) e' = ih m e'

-- a conflict that the walk reaches is a conflict by the rule
pub rule_from_walk : (assumed : List ℕ) (buckets : List (List (List ℕ))) → walk_buckets assumed buckets ≡ true → BucketsConflict assumed buckets
rule_from_walk assumed buckets e =
    let f = walk_front buckets assumed e in
    let r = walk_runs (clauses_in f.first) assumed f.reached in
    record { first = f.first; rest = f.rest; picked = r.picked; split = f.split; none_empty = f.none_empty; chosen = r.chosen; conflict = r.conflict }

-- what holds for the clauses of all buckets holds for those of the first buckets
pub joined_front : (P : List ℕ → Type 0) (first rest : List (List (List ℕ))) → AllByRecursion (AllByRecursion P) (first ++ rest) → AllByRecursion P (clauses_in first)
joined_front P [] rest h = tt
joined_front P (b ∷ bs) rest h = both b (clauses_in bs) h.0 (joined_front P bs rest h.1)
  where
    both : (xs ys : List (List ℕ)) → AllByRecursion P xs → AllByRecursion P ys → AllByRecursion P (xs ++ ys)
    both [] ys p q = q
    both (x ∷ xs) ys p q = (p.0, both xs ys p.1 q)

-- if there is a conflict by the rule, the walk reaches one, even under more assumed literals
pub walk_from_rule : (fewer more : List ℕ) (buckets : List (List (List ℕ))) → Within fewer more → AllByRecursion (AllByRecursion NoRepeats) buckets → BucketsConflict fewer buckets → walk_buckets more buckets ≡ true
walk_from_rule fewer more buckets w n h =
    let n' : AllByRecursion (AllByRecursion NoRepeats) (h.first ++ h.rest) = subst (AllByRecursion (AllByRecursion NoRepeats)) h.split n in
    subst (λ b. walk_buckets more b ≡ true) (sym h.split)
    (walk_over h.first h.rest more h.none_empty (walk_finds (clauses_in h.first) fewer more w (joined_front NoRepeats h.first h.rest n') h.picked h.chosen h.conflict))
