-- `conflict_causes` gives exactly what following the conflict backwards finds.
use Rattle.std.proofs.Common.{ℕ, ◌≡◌, Bool, true, false, not, ◌||◌, cond, eqb, List, [], ◌∷◌, ◌++◌, map, filter, refl, sym, ◌∙◌, ap, subst, None, ◌⊎◌, inl, inr}
use Rattle.std.proofs.lemmas.Bool.{or_cases, or_left, or_right, or_parts, both_ways, eqb-true, eq-eqb, eqb-false, ne_eqb, true≢false, false_from_ne_true}
use Rattle.std.specs.List.{AllByRecursion}
use Rattle.sat_base.specs.values.Literals.{negated}
use Rattle.sat_checker.specs.LiteralSets.{is_among}
use Rattle.sat_checker.specs.inner.Marks.{NoRepeats}
use Rattle.sat_checker.specs.Propagation.{IsFalsified, IsUnit}
use Rattle.sat_checker.specs.Stored.{StoredClause}
use Rattle.sat_checker.specs.inner.Walk.{ClauseState, falsified, becomes_unit, neither, clause_state, state_by_open, not_false, walk, walk_clause, and_then}
use Rattle.sat_checker.specs.announcements.Needed.{ConflictCauses, negations_except, causes_by, conflict_causes}
use Rattle.sat_checker.specs.announcements.Promises.{IsOneOf, Reason, is_conflict, is_unit, is_neither, IsNeededLiteral, of_last, of_reason, IsConflictCauses}
use Rattle.sat_checker.proofs.lemmas.meaning.Clauses.{literals_of}
use Rattle.sat_checker.proofs.lemmas.sets.Members.{each_at}
use Rattle.sat_checker.proofs.lemmas.announcements.Grounds.{among_negated, Says, verdict_says}

-- a member of the negated list is the negation of a member
record Negation (ls : List ℕ) (m : ℕ) : Type 0 where
  literal : ℕ
  within : is_among ls literal ≡ true
  is_it : negated literal ≡ m

from_negated : (ls : List ℕ) (m : ℕ) → is_among (map negated ls) m ≡ true → Negation ls m
from_negated [] m e = absurd (true≢false (sym e))
from_negated (l ∷ ls) m e =
    elim (or_cases (eqb (negated l) m) (is_among (map negated ls) m) e) [
      | inl s ↦ record { literal = l; within = or_left (eqb l l) (is_among ls l) (eq-eqb l l refl); is_it = eqb-true (negated l) m s }
      | inr k ↦ let n = from_negated ls m k in record { literal = n.literal; within = or_right (eqb l n.literal) (is_among ls n.literal) n.within; is_it = n.is_it }
    ]

record IsBut (o : ℕ) (ls : List ℕ) (m : ℕ) : Type 0 where
  within : is_among ls m ≡ true
  differs : eqb m o ≡ false

from_but : (o : ℕ) (ls : List ℕ) (m : ℕ) → is_among (filter (λ x. not (eqb x o)) ls) m ≡ true → IsBut o ls m
from_but o [] m e = absurd (true≢false (sym e))
from_but o (l ∷ ls) m e = go (from_but o ls m) (eqb l o) refl e
  where
    go : (is_among (filter (λ x. not (eqb x o)) ls) m ≡ true → IsBut o ls m) → (b : Bool) → eqb l o ≡ b → is_among (cond (not b) (l ∷ filter (λ x. not (eqb x o)) ls) (filter (λ x. not (eqb x o)) ls)) m ≡ true → IsBut o (l ∷ ls) m
    go ih true s k = let b = ih k in record { within = or_right (eqb l m) (is_among ls m) b.within; differs = b.differs }
    go ih false s k =
        elim (or_cases (eqb l m) (is_among (filter (λ x. not (eqb x o)) ls) m) k) [
          | inl t ↦ record { within = or_left (eqb l m) (is_among ls m) t; differs = subst (λ x. eqb x o ≡ false) (eqb-true l m t) s }
          | inr t ↦ let b = ih t in record { within = or_right (eqb l m) (is_among ls m) b.within; differs = b.differs }
        ]

to_but : (o : ℕ) (ls : List ℕ) (m : ℕ) → is_among ls m ≡ true → eqb m o ≡ false → is_among (filter (λ x. not (eqb x o)) ls) m ≡ true
to_but o [] m e d = e
to_but o (l ∷ ls) m e d = go (λ k. to_but o ls m k d) (eqb l o) refl (or_cases (eqb l m) (is_among ls m) e)
  where
    go : (is_among ls m ≡ true → is_among (filter (λ x. not (eqb x o)) ls) m ≡ true) → (b : Bool) → eqb l o ≡ b → (eqb l m ≡ true) ⊎ (is_among ls m ≡ true) → is_among (cond (not b) (l ∷ filter (λ x. not (eqb x o)) ls) (filter (λ x. not (eqb x o)) ls)) m ≡ true
    go ih true s (inl t) = absurd (both_ways (eqb l o) (subst (λ x. eqb x o ≡ false) (sym (eqb-true l m t)) d) s)
    go ih true s (inr k) = ih k
    go ih false s (inl t) = or_left (eqb l m) (is_among (filter (λ x. not (eqb x o)) ls) m) t
    go ih false s (inr k) = or_right (eqb l m) (is_among (filter (λ x. not (eqb x o)) ls) m) (ih k)

among_front : (xs ys : List ℕ) (m : ℕ) → is_among xs m ≡ true → is_among (xs ++ ys) m ≡ true
among_front [] ys m e = absurd (true≢false (sym e))
among_front (x ∷ xs) ys m e = elim (or_cases (eqb x m) (is_among xs m) e) [ inl s ↦ or_left (eqb x m) (is_among (xs ++ ys) m) s | inr t ↦ or_right (eqb x m) (is_among (xs ++ ys) m) (among_front xs ys m t) ]

among_after : (xs ys : List ℕ) (m : ℕ) → is_among ys m ≡ true → is_among (xs ++ ys) m ≡ true
among_after [] ys m e = e
among_after (x ∷ xs) ys m e = or_right (eqb x m) (is_among (xs ++ ys) m) (among_after xs ys m e)

among_either : (xs ys : List ℕ) (m : ℕ) → is_among (xs ++ ys) m ≡ true → (is_among xs m ≡ true) ⊎ (is_among ys m ≡ true)
among_either [] ys m e = inr e
among_either (x ∷ xs) ys m e =
    elim (or_cases (eqb x m) (is_among (xs ++ ys) m) e) [
      | inl s ↦ inl (or_left (eqb x m) (is_among xs m) s)
      | inr k ↦ elim (among_either xs ys m k) [ inl a ↦ inl (or_right (eqb x m) (is_among xs m) a) | inr b ↦ inr b ]
    ]

-- if all literals of a clause are false, none is left; a clause with verdict `neither` is neither falsified nor unit
all_gone : (assumed clause : List ℕ) → IsFalsified assumed clause → not_false assumed clause ≡ []
all_gone assumed [] h = refl
all_gone assumed (l ∷ ls) h = rw h.0 (all_gone assumed ls h.1)

one_stays : (assumed clause : List ℕ) (o : ℕ) → NoRepeats clause → is_among clause o ≡ true → is_among assumed (negated o) ≡ false → AllByRecursion (λ l. (l ≡ o) ⊎ (is_among assumed (negated l) ≡ true)) clause → not_false assumed clause ≡ o ∷ []
one_stays assumed [] o n m f h = absurd (true≢false (sym m))
one_stays assumed (l ∷ ls) o n m f h = go (λ k. one_stays assumed ls o n.1 k f h.1) (eqb l o) refl m
  where
    gone : (ms : List ℕ) → is_among ms o ≡ false → AllByRecursion (λ x. (x ≡ o) ⊎ (is_among assumed (negated x) ≡ true)) ms → IsFalsified assumed ms
    gone [] e k = tt
    gone (x ∷ xs) e k = let p = or_parts (eqb x o) (is_among xs o) e in (elim k.0 [ inl s ↦ absurd (eqb-false x o p.0 s) | inr t ↦ t ], gone xs p.1 k.1)

    go : (is_among ls o ≡ true → not_false assumed ls ≡ o ∷ []) → (b : Bool) → eqb l o ≡ b → (b || is_among ls o) ≡ true → cond (not (is_among assumed (negated l))) (l ∷ not_false assumed ls) (not_false assumed ls) ≡ o ∷ []
    go ih true s k =
        let same : l ≡ o = eqb-true l o s in
        let f' : is_among assumed (negated l) ≡ false = subst (λ x. is_among assumed (negated x) ≡ false) (sym same) f in
        let none : not_false assumed ls ≡ [] = all_gone assumed ls (gone ls (subst (λ x. is_among ls x ≡ false) same n.0) h.1) in
        rw (f', none) (ap (λ x. x ∷ []) same)
    go ih false s k = let t : is_among assumed (negated l) ≡ true = elim h.0 [ inl e ↦ absurd (eqb-false l o s e) | inr x ↦ x ] in rw t (ih k)

never_falsified : (assumed clause : List ℕ) → clause_state assumed clause ≡ neither → IsFalsified assumed clause → ⊥
never_falsified assumed clause e h = let k : state_by_open assumed [] ≡ neither = subst (λ ls. state_by_open assumed ls ≡ neither) (all_gone assumed clause h) e in absurd cc

never_unit : (assumed clause : List ℕ) → NoRepeats clause → clause_state assumed clause ≡ neither → (o : ℕ) → IsUnit assumed clause o → ⊥
never_unit assumed clause n e o u =
    let k : cond (is_among assumed o) neither (becomes_unit o) ≡ neither = subst (λ ls. state_by_open assumed ls ≡ neither) (one_stays assumed clause o n u.within u.not_false u.others) e in
    let j : becomes_unit o ≡ neither = subst (λ b. cond b neither (becomes_unit o) ≡ neither) u.not_true k in
    absurd cc

-- a needed literal is still needed after another reason is added
still_needed : (r : Reason) (rs : List Reason) (last : StoredClause) (m : ℕ) → IsNeededLiteral rs last m → IsNeededLiteral (r ∷ rs) last m
still_needed r rs last m (of_last l h) = of_last l h
still_needed r rs last m (of_reason s l k n h d) = of_reason s l (inr k) (still_needed r rs last s.literal n) h d

abbrev keeps : List ℕ → Reason → Bool
keeps ls r = is_among ls r.literal

each_reason : (P : Reason → Type 0) (rs : List Reason) (r : Reason) → AllByRecursion P rs → IsOneOf r rs → P r
each_reason P [] r h k = absurd k
each_reason P (x ∷ xs) r h k = elim k [ inl e ↦ subst P (sym e) h.0 | inr t ↦ each_reason P xs r h.1 t ]

filter_same : (p q : Reason → Bool) (rs : List Reason) → AllByRecursion (λ r. p r ≡ q r) rs → filter p rs ≡ filter q rs
filter_same p q [] h = refl
filter_same p q (r ∷ rs) h = rw h.0 (ap (λ xs. cond (q r) (r ∷ xs) xs) (filter_same p q rs h.1))

map_each : (P Q : Reason → Type 0) (rs : List Reason) → ((r : Reason) → P r → Q r) → AllByRecursion P rs → AllByRecursion Q rs
map_each P Q [] w h = tt
map_each P Q (r ∷ rs) w h = (w r h.0, map_each P Q rs w h.1)

-- the causes are exact, and no literal that a reason implied was assumed
pub record Followed (assumed : List ℕ) (cs : List StoredClause) (g : ConflictCauses) : Type 0 where
  pub is_ground : IsConflictCauses assumed cs g
  pub fresh : AllByRecursion (λ r. is_among assumed r.literal ≡ false) is_ground.reasons

module _ (assumed : List ℕ) (c : StoredClause) (cs : List StoredClause) where
  followed_conflict : IsFalsified assumed c.literals → Followed assumed (c ∷ cs) (record { literals = map negated c.literals; clauses = c ∷ [] })
  followed_conflict h = record {
    is_ground = record {
      reasons = [];
      last = c;
      passing = is_conflict assumed c cs h;
      literals = λ m. ((λ e. let n = from_negated c.literals m e in subst (IsNeededLiteral [] c) n.is_it (of_last n.literal n.within)), back m);
      clauses = refl;
    };
    fresh = tt;
  }
    where
      back : (m : ℕ) → IsNeededLiteral [] c m → is_among (map negated c.literals) m ≡ true
      back m (of_last l k) = among_negated c.literals l k
      back m (of_reason r l k n w d) = absurd k

  followed_over : (IsFalsified assumed c.literals → ⊥) → ((l : ℕ) → IsUnit assumed c.literals l → ⊥) → (g : ConflictCauses) → Followed assumed cs g → Followed assumed (c ∷ cs) g
  followed_over nf nu g d = record {
    is_ground = record {
      reasons = d.is_ground.reasons;
      last = d.is_ground.last;
      passing = is_neither assumed c cs d.is_ground.reasons d.is_ground.last nf nu d.is_ground.passing;
      literals = d.is_ground.literals;
      clauses = d.is_ground.clauses;
    };
    fresh = d.fresh;
  }

  module _ (o : ℕ) (u : IsUnit assumed c.literals o) (g : ConflictCauses) (d : Followed (o ∷ assumed) cs g) where
    this : Reason
    this = record { clause = c; literal = o }

    fresh_still : AllByRecursion (λ r. is_among assumed r.literal ≡ false) d.is_ground.reasons
    fresh_still = map_each (λ r. is_among (o ∷ assumed) r.literal ≡ false) (λ r. is_among assumed r.literal ≡ false) d.is_ground.reasons (λ r e. (or_parts (eqb o r.literal) (is_among assumed r.literal) e).1) d.fresh

    -- the negations of all literals of the unit clause but the implied one are assumed
    others_assumed : (m : ℕ) → is_among (negations_except o c.literals) m ≡ true → is_among assumed m ≡ true
    others_assumed m e =
        let n = from_negated (filter (λ x. not (eqb x o)) c.literals) m e in
        let b = from_but o c.literals n.literal n.within in
        elim (each_at (λ l. (l ≡ o) ⊎ (is_among assumed (negated l) ≡ true)) c.literals n.literal u.others b.within) [
          | inl s ↦ absurd (eqb-false n.literal o b.differs s)
          | inr t ↦ subst (λ x. is_among assumed x ≡ true) n.is_it t
        ]

    followed_left : is_among g.literals o ≡ false → Followed assumed (c ∷ cs) g
    unfolding this
    followed_left n = record {
      is_ground = record {
        reasons = this ∷ d.is_ground.reasons;
        last = d.is_ground.last;
        passing = is_unit assumed c cs o d.is_ground.reasons d.is_ground.last u d.is_ground.passing;
        literals = λ m. ((λ e. still_needed this d.is_ground.reasons d.is_ground.last m ((d.is_ground.literals m).0 e)), back m);
        clauses = d.is_ground.clauses ∙ ap (λ b. map (λ r. r.clause) (cond b (this ∷ filter (keeps g.literals) d.is_ground.reasons) (filter (keeps g.literals) d.is_ground.reasons)) ++ d.is_ground.last ∷ []) (sym n);
      };
      fresh = (u.not_true, fresh_still);
    }
      where
        back : (m : ℕ) → IsNeededLiteral (this ∷ d.is_ground.reasons) d.is_ground.last m → is_among g.literals m ≡ true
        back m (of_last l k) = (d.is_ground.literals (negated l)).1 (of_last l k)
        back m (of_reason r l k w h e) = go (back r.literal w) k
          where
            go : is_among g.literals r.literal ≡ true → (r ≡ this) ⊎ IsOneOf r d.is_ground.reasons → is_among g.literals (negated l) ≡ true
            go ih (inl s) = absurd (both_ways (is_among g.literals o) n (subst (λ x. is_among g.literals x.literal ≡ true) s ih))
            go ih (inr t) = (d.is_ground.literals (negated l)).1 (of_reason r l t ((d.is_ground.literals r.literal).0 ih) h e)

    followed_taken : is_among g.literals o ≡ true → Followed assumed (c ∷ cs) (record { literals = negations_except o c.literals ++ g.literals; clauses = c ∷ g.clauses })
    unfolding this
    followed_taken n = record {
      is_ground = record {
        reasons = this ∷ d.is_ground.reasons;
        last = d.is_ground.last;
        passing = is_unit assumed c cs o d.is_ground.reasons d.is_ground.last u d.is_ground.passing;
        literals = λ m. (forth m, back m);
        clauses = ap (λ xs. c ∷ xs) (d.is_ground.clauses ∙ ap (λ xs. map (λ r. r.clause) xs ++ d.is_ground.last ∷ []) (filter_same (keeps g.literals) (keeps (negations_except o c.literals ++ g.literals)) d.is_ground.reasons
            (map_each (λ r. is_among assumed r.literal ≡ false) (λ r. keeps g.literals r ≡ keeps (negations_except o c.literals ++ g.literals) r) d.is_ground.reasons (λ r e. same r.literal e) fresh_still)))
            ∙ ap (λ b. map (λ r. r.clause) (cond b (this ∷ filter (keeps (negations_except o c.literals ++ g.literals)) d.is_ground.reasons) (filter (keeps (negations_except o c.literals ++ g.literals)) d.is_ground.reasons)) ++ d.is_ground.last ∷ []) (sym (among_after (negations_except o c.literals) g.literals o n));
      };
      fresh = (u.not_true, fresh_still);
    }
      where
        same : (m : ℕ) → is_among assumed m ≡ false → is_among g.literals m ≡ is_among (negations_except o c.literals ++ g.literals) m
        same m e = go (is_among g.literals m) refl
          where
            go : (b : Bool) → is_among g.literals m ≡ b → b ≡ is_among (negations_except o c.literals ++ g.literals) m
            go true t = sym (among_after (negations_except o c.literals) g.literals m t)
            go false t = sym (false_from_ne_true (is_among (negations_except o c.literals ++ g.literals) m) (λ k. elim (among_either (negations_except o c.literals) g.literals m k) [
              | inl a ↦ both_ways (is_among assumed m) e (others_assumed m a)
              | inr b ↦ both_ways (is_among g.literals m) t b
            ]))

        forth : (m : ℕ) → is_among (negations_except o c.literals ++ g.literals) m ≡ true → IsNeededLiteral (this ∷ d.is_ground.reasons) d.is_ground.last m
        forth m e = elim (among_either (negations_except o c.literals) g.literals m e) [
          | inl a ↦
              let k = from_negated (filter (λ x. not (eqb x o)) c.literals) m a in
              let b = from_but o c.literals k.literal k.within in
              subst (IsNeededLiteral (this ∷ d.is_ground.reasons) d.is_ground.last) k.is_it
              (of_reason this k.literal (inl refl) (still_needed this d.is_ground.reasons d.is_ground.last o ((d.is_ground.literals o).0 n)) b.within (eqb-false k.literal o b.differs))
          | inr b ↦ still_needed this d.is_ground.reasons d.is_ground.last m ((d.is_ground.literals m).0 b)
        ]

        back : (m : ℕ) → IsNeededLiteral (this ∷ d.is_ground.reasons) d.is_ground.last m → is_among (negations_except o c.literals ++ g.literals) m ≡ true
        back m (of_last l k) = among_after (negations_except o c.literals) g.literals (negated l) ((d.is_ground.literals (negated l)).1 (of_last l k))
        back m (of_reason r l k w h e) = go (back r.literal w) k
          where
            go : is_among (negations_except o c.literals ++ g.literals) r.literal ≡ true → (r ≡ this) ⊎ IsOneOf r d.is_ground.reasons → is_among (negations_except o c.literals ++ g.literals) (negated l) ≡ true
            go ih (inl s) = among_front (negations_except o c.literals) g.literals (negated l)
                (among_negated (filter (λ x. not (eqb x o)) c.literals) l (to_but o c.literals l (subst (λ x. is_among x.clause.literals l ≡ true) s h) (ne_eqb l o (λ q. e (q ∙ ap (λ x. x.literal) (sym s))))))
            go ih (inr t) = elim (among_either (negations_except o c.literals) g.literals r.literal ih) [
              | inl a ↦ absurd (both_ways (is_among assumed r.literal) (each_reason (λ x. is_among assumed x.literal ≡ false) d.is_ground.reasons r fresh_still t) (others_assumed r.literal a))
              | inr b ↦ among_after (negations_except o c.literals) g.literals (negated l) ((d.is_ground.literals (negated l)).1 (of_reason r l t ((d.is_ground.literals r.literal).0 b) h e))
            ]

abbrev Follow : List StoredClause → Type 0
Follow cs = (assumed : List ℕ) → walk assumed (literals_of cs) ≡ None → Followed assumed cs (conflict_causes assumed cs)

pub followed : (cs : List StoredClause) (assumed : List ℕ) → AllByRecursion (λ c. NoRepeats c.literals) cs → walk assumed (literals_of cs) ≡ None → Followed assumed cs (conflict_causes assumed cs)
followed [] assumed n e = absurd cc
followed (c ∷ cs) assumed n e = go (λ m. followed cs m n.1) (clause_state assumed c.literals) refl (verdict_says assumed c.literals) e
  where
    opened : Follow cs → (o : ℕ) → IsUnit assumed c.literals o → walk (o ∷ assumed) (literals_of cs) ≡ None → (b : Bool) → is_among (conflict_causes (o ∷ assumed) cs).literals o ≡ b
        → Followed assumed (c ∷ cs) (cond b (record { literals = negations_except o c.literals ++ (conflict_causes (o ∷ assumed) cs).literals; clauses = c ∷ (conflict_causes (o ∷ assumed) cs).clauses }) (conflict_causes (o ∷ assumed) cs))
    opened ih o u w true k = followed_taken assumed c cs o u (conflict_causes (o ∷ assumed) cs) (ih (o ∷ assumed) w) k
    opened ih o u w false k = followed_left assumed c cs o u (conflict_causes (o ∷ assumed) cs) (ih (o ∷ assumed) w) k

    go : Follow cs → (v : ClauseState) → clause_state assumed c.literals ≡ v → Says assumed c.literals v → and_then (walk_clause v assumed) (λ more. walk more (literals_of cs)) ≡ None → Followed assumed (c ∷ cs) (causes_by v c assumed (λ more. conflict_causes more cs))
    go ih falsified q s w = followed_conflict assumed c cs s
    go ih (becomes_unit o) q s w = opened ih o s w (is_among (conflict_causes (o ∷ assumed) cs).literals o) refl
    go ih neither q s w = followed_over assumed c cs (never_falsified assumed c.literals q) (never_unit assumed c.literals n.0 q) (conflict_causes assumed cs) (ih assumed w)
