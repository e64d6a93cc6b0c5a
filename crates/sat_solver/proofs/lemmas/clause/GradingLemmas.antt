-- Headers of the antecedents of an analysis.
use Rattle.std.proofs.Common.{ℕ, zero, suc, ◌+◌, ◌*◌, ◌<◌, ◌≤◌, ◌≡◌, ◌∙◌, inl, inr, Bool, true, false, cond, ltb, List, [], ◌∷◌, length, drop, get_or, refl, sym, ap, subst, arith, lt-ltb}
use Rattle.std.proofs.lemmas.List.{drop_more}
use Rattle.std.specs.List.{Contains}
use Rattle.std.specs.Prelude.{◌&&◌, min}
use Rattle.std.proofs.lemmas.Bool.{cases_lt, ltb-true, false_from_ne_true}
use Rattle.sat_store.specs.clause.Buffer.{lits_at}
use Rattle.sat_store.specs.clause.Header.{Header, is_learned}
use Rattle.sat_parts.specs.clause.Activity.{ActivityScale}
use Rattle.sat_parts.specs.clause.Db.{live_refs, PutsHeader}
use Rattle.sat_parts.specs.clause.Glue.{LitsHaveNodes, LevelsHaveFlags}
use Rattle.sat_parts.specs.clause.Stored.{lit_of}
use Rattle.sat_parts.specs.declared.parts.SearchState.{SearchState}
use Rattle.sat_parts.specs.parts.Frame.{ChangesHeaders}
use Rattle.sat_parts.specs.parts.Whole.{SearchStateInvariant}
use Rattle.sat_parts.proofs.lemmas.parts.WordSteps.{extends_refl, extends_trans}
use Rattle.sat_solver.specs.clause.Assessed.{with_glue, with_updated_glue, clause_level_count, BumpsClause, DecaysActivities, BumpsClauses, ChangesOnlyHeaders, AreAntecedents}

-- if the header of a clause is written twice, the second one remains
pub puts_twice : (a b c refs : List ℕ) (o : ℕ) (h k : Header) → PutsHeader a b refs o h → PutsHeader b c refs o k → PutsHeader a c refs o k
puts_twice a b c refs o h k x y = record {
  size = y.size ∙ x.size;
  holds_clauses = y.holds_clauses;
  header_there = y.header_there;
  lits_there = y.lits_there ∙ x.lits_there;
  others = λ p there ne. (let u = x.others p there ne in let v = y.others p there ne in record { clause = v.clause; header = v.header ∙ u.header; lits = v.lits ∙ u.lits });
}

-- FRAMES

headed_refl : (p : SearchState) → ChangesHeaders p p
headed_refl p = record { live = refl; lits = λ o c. refl; sides = λ o c. refl; same = ((refl, refl, refl), refl, refl) }

headed_trans : (p q r : SearchState) → ChangesHeaders p q → ChangesHeaders q r → ChangesHeaders p r
headed_trans p q r x y = record {
  live = y.live ∙ x.live;
  lits = λ o c. y.lits o (subst (λ os. Contains os o) (sym x.live) c) ∙ x.lits o c;
  sides = λ o c. y.sides o (subst (λ os. Contains os o) (sym x.live) c) ∙ x.sides o c;
  same = ((y.same.0.0 ∙ x.same.0.0, y.same.0.1 ∙ x.same.0.1, y.same.0.2 ∙ x.same.0.2), y.same.1 ∙ x.same.1, y.same.2 ∙ x.same.2);
}

pub rates_refl : (p : SearchState) → SearchStateInvariant p → ChangesOnlyHeaders p p
rates_refl p holds = record { holds = holds; headed = headed_refl p; refs = refl; word = extends_refl p }

pub rates_trans : (p q r : SearchState) → ChangesOnlyHeaders p q → ChangesOnlyHeaders q r → ChangesOnlyHeaders p r
rates_trans p q r x y = record {
  holds = y.holds;
  headed = headed_trans p q r x.headed y.headed;
  refs = y.refs ∙ x.refs;
  word = extends_trans p q r x.word y.word;
}

-- LEVELS

-- every literal of a live clause has a node
pub clause_nodes : (p : SearchState) (o : ℕ) → SearchStateInvariant p → Contains (live_refs p.clauses p.db.refs) o → LitsHaveNodes p.graph (lits_at p.clauses o)
clause_nodes p o h live k lt = (let b : lit_of p.clauses o k < 2 * length p.assignment.current = h.below.propagation.clauses.below o k live lt in omega (arith, b, h.below.propagation.agrees.nodes))

module _ (p q : SearchState) (h : ChangesHeaders p q) (o : ℕ) (live : Contains (live_refs p.clauses p.db.refs) o) where
  pub live_kept : Contains (live_refs q.clauses q.db.refs) o
  live_kept = subst (λ os. Contains os o) (sym h.live) live

  pub flags_kept : (flags : List Bool) → LevelsHaveFlags p.graph flags (lits_at p.clauses o) → LevelsHaveFlags q.graph flags (lits_at q.clauses o)
  flags_kept flags x = rw (h.same.0.1, h.lits o live) x

  pub levels_kept : clause_level_count q o ≡ clause_level_count p o
  levels_kept = rw (h.same.0.1, h.lits o live) (refl {a = clause_level_count p o})

-- what bumping requires of antecedents still holds after headers change
pub involved_kept : (p q : SearchState) (flags : List Bool) (os : List ℕ) → ChangesHeaders p q → AreAntecedents p flags os → AreAntecedents q flags os
involved_kept p q flags os h x = record {
  live = λ o c. live_kept p q h o (x.live o c);
  levels = λ o c. flags_kept p q h o (x.live o c) flags (x.levels o c);
  clear = x.clear;
}

-- CLAUSES, ONE AFTER ANOTHER

-- one more antecedent was bumped, then the rest of the list
pub takes_next : (levels : ℕ → ℕ) (refs os : List ℕ) (i o : ℕ) (words mid words' : List ℕ) (s t s' : ActivityScale) → i < length os → o ≡ get_or os i 0 → BumpsClause (levels o) words mid refs o s t → BumpsClauses levels refs (drop (i + 1) os) mid t words' s' →
    BumpsClauses levels refs (drop i os) words s words' s'
takes_next levels refs os i o words mid words' s t s' lt at one rest =
    subst (λ ps. BumpsClauses levels refs ps words s words' s') (sym (drop_more os i 0 lt ∙ ap (λ z. z ∷ drop (i + 1) os) (sym at))) (mid, t, one, rest)

-- HEADERS

pub improved_fewer : (levels : ℕ) (h : Header) → is_learned h.tier ≡ true → levels < h.glue → with_updated_glue levels h ≡ with_glue levels (record h { active = true })
improved_fewer levels h e lt = ap (λ b. cond b (with_glue levels (record h { active = true })) (record h { active = true })) (ap (λ b. is_learned h.tier && b) (lt-ltb levels h.glue lt) ∙ ap (λ b. b && true) e)

drop_all : (os : List ℕ) (n : ℕ) → length os ≤ n → drop n os ≡ []
drop_all [] zero le = refl
drop_all [] (suc n) le = refl
drop_all (o ∷ os) zero le = absurd (omega arith)
drop_all (o ∷ os) (suc n) le = drop_all os n (omega arith)

-- when no antecedent is left, activities decay
pub takes_last : (levels : ℕ → ℕ) (refs os : List ℕ) (n : ℕ) (words words' : List ℕ) (s s' : ActivityScale) → length os ≤ n → DecaysActivities words words' refs s s' → BumpsClauses levels refs (drop n os) words s words' s'
takes_last levels refs os n words words' s s' le h = subst (λ ps. BumpsClauses levels refs ps words s words' s') (sym (drop_all os n le)) h

-- IMPROVED GLUE

-- an irredundant clause gets the same header for every number of levels
pub improved_given : (m n : ℕ) (h : Header) → is_learned h.tier ≡ false → with_updated_glue m h ≡ with_updated_glue n h
improved_given m n h e =
    ap (λ b. cond (b && ltb m h.glue) (with_glue m (record h { active = true })) (record h { active = true })) e
    ∙ sym (ap (λ b. cond (b && ltb n h.glue) (with_glue n (record h { active = true })) (record h { active = true })) e)

not_below : (k g : ℕ) → g ≤ k → ltb k g ≡ false
not_below k g le = false_from_ne_true (ltb k g) (λ t. let lt = ltb-true k g t in absurd (omega arith))

-- counting levels beyond the glue does not change the improved header
pub improved_limit : (m n : ℕ) (h : Header) → m ≡ min h.glue n → with_updated_glue m h ≡ with_updated_glue n h
improved_limit m n h e = elim (cases_lt n h.glue) [
  | inl lt ↦ ap (λ k. with_updated_glue k h) (let q : m ≡ n = omega arith in q)
  | inr ge ↦ past m (omega arith) ∙ sym (past n ge)
]
  where
    past : (k : ℕ) → h.glue ≤ k → with_updated_glue k h ≡ record h { active = true }
    past k le =
        ap (λ b. cond (is_learned h.tier && b) (with_glue k (record h { active = true })) (record h { active = true })) (not_below k h.glue le)
        ∙ neither (is_learned h.tier)
      where
        neither : (b : Bool) → cond (b && false) (with_glue k (record h { active = true })) (record h { active = true }) ≡ record h { active = true }
        neither true = refl
        neither false = refl
