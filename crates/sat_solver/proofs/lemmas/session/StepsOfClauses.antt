-- How steps change the search's list of clauses.
use Rattle.std.proofs.Common.{ℕ, suc, ◌+◌, ◌<◌, ◌≡◌, Bool, true, false, ◌||◌, cond, eqb, ltb, List, [], ◌∷◌, ◌++◌, map, length, refl, sym, ◌∙◌, ap, arith}
use Rattle.std.proofs.lemmas.Bool.{both_ways, eqb-true, eq-eqb, true≢false}
use Rattle.sat_base.specs.values.Literals.{negated}
use Rattle.sat_base.specs.steps.Steps.{AtClause, UnitClauses}
use Rattle.sat_checker.specs.LiteralSets.{is_among, is_tautology, with_literal, canonical}
use Rattle.sat_checker.specs.SortedSets.{NoRepeats}
use Rattle.sat_checker.proofs.lemmas.sets.Canonical.{canonical_among}
use Rattle.sat_solver.specs.session.Session.{Session, with_unit_added, after}
use Rattle.sat_solver.proofs.lemmas.session.Changes.{with_live, with_facts, with_sorted, with_live_clause, knowing_literals, session_if}
use Rattle.sat_solver.specs.session.LiveClauses.{LiveClause, with_var, AreMapped, AreLiveClausesOf}
use Rattle.sat_solver.proofs.lemmas.session.Mapped.{once_mapped}
use Rattle.sat_solver.proofs.lemmas.session.Represented.{comes_in, still_of}

-- THE LENGTH OF A SORTED SET

-- inserting a new literal into a sorted clause adds 1 to its length
length_put : (l : ℕ) (ls : List ℕ) → is_among ls l ≡ false → length (with_literal l ls) ≡ length ls + 1
length_put l [] n = refl
length_put l (m ∷ ms) n = go (ltb l m) (eqb l m) refl (eqb m l) refl n (length_put l ms)
  where
    go : (b d : Bool) → eqb l m ≡ d → (e : Bool) → eqb m l ≡ e → e || is_among ms l ≡ false → (is_among ms l ≡ false → length (with_literal l ms) ≡ length ms + 1) → length (cond b (l ∷ m ∷ ms) (cond d (m ∷ ms) (m ∷ with_literal l ms))) ≡ length (m ∷ ms) + 1
    go true d x e y k ih = omega arith
    go false d x true y k ih = absurd (true≢false k)
    go false true x false y k ih = absurd (both_ways (eqb m l) y (eq-eqb m l (sym (eqb-true l m x))))
    go false false x false y k ih = let j : length (with_literal l ms) ≡ length ms + 1 = ih k in omega arith

-- sorting different literals preserves their number
pub length_sorted : (ls : List ℕ) → NoRepeats ls → length (canonical ls) ≡ length ls
length_sorted [] h = refl
length_sorted (l ∷ ls) h =
    let a : length (with_literal l (canonical ls)) ≡ length (canonical ls) + 1 = length_put l (canonical ls) (canonical_among ls l ∙ h.0) in
    let b : length (canonical ls) ≡ length ls = length_sorted ls h.1 in
    omega arith

-- mapping a list preserves its length
pub length_mapped : (f : ℕ → ℕ) (ls : List ℕ) → length (map f ls) ≡ length ls
length_mapped f [] = refl
length_mapped f (l ∷ ls) = ap suc (length_mapped f ls)

-- WHAT STAYS THE SAME

-- live clauses and solver names are unchanged
pub record Stays (s t : Session) : Type 0 where
  pub live : t.live ≡ s.live
  pub names : t.solver_names ≡ s.solver_names

-- a unit changes neither live clauses nor solver names
pub fact_stays : (l : ℕ) (s : Session) → Stays s (with_unit_added l s)
fact_stays l s = go (s.units l) (s.units (negated l))
  where
    go : (b d : Bool) → Stays s (session_if b s (session_if d (record s { unsat = true }) (record s { units = λ m. eqb l m || s.units m })))
    go true d = record { live = refl; names = refl }
    go false true = record { live = refl; names = refl }
    go false false = record { live = refl; names = refl }

-- nor do several units
pub facts_stay : (ls : List ℕ) (s : Session) → Stays s (with_facts ls s)
facts_stay [] s = record { live = refl; names = refl }
facts_stay (l ∷ ls) s = let a = fact_stays l s in let b = facts_stay ls (with_unit_added l s) in record { live = b.live ∙ a.live; names = b.names ∙ a.names }

-- the list still matches if live clauses and solver names are unchanged
pub of_staying : (s t : Session) (global : ℕ → ℕ) (cs : List LiveClause) → Stays s t → AreLiveClausesOf s global cs → AreLiveClausesOf t global cs
of_staying s t global cs k h = still_of s t global cs (λ r set. ap (λ f. f r set) k.live) k.names h

-- a sorted set of two or more literals is added to the live clauses
sorted_long : (r : Bool) (set : List ℕ) (s : Session) → 1 < length set → with_sorted r set s ≡ with_live r set s
sorted_long r [] s n = absurd (omega arith)
sorted_long r (l ∷ []) s n = absurd (omega arith)
sorted_long r (l ∷ m ∷ ls) s n = refl

-- a shorter set changes neither live clauses nor solver names
sorted_short : (r : Bool) (set : List ℕ) (s : Session) → length set < 2 → Stays s (with_sorted r set s)
sorted_short r [] s n = record { live = refl; names = refl }
sorted_short r (l ∷ []) s n = fact_stays l s
sorted_short r (l ∷ m ∷ ls) s n = absurd (omega arith)

-- a clause of two or more literals is added to the live clauses
pub clause_long : (r : Bool) (c : List ℕ) (s : Session) → NoRepeats c → 1 < length c → is_tautology c ≡ false → with_live_clause r c s ≡ with_live r (canonical c) s
clause_long r c s n l t =
    ap (λ b. session_if b s (with_sorted r (canonical c) s)) t ∙ sorted_long r (canonical c) s (let e : length (canonical c) ≡ length c = length_sorted c n in omega arith)

-- STEPS

module _ (s : Session) (global : ℕ → ℕ) where
  -- a derived clause is added, redundant or not
  pub derived_comes : (xs ys : List LiveClause) (c : LiveClause) (hashes : List ℕ) → AreLiveClausesOf s global (xs ++ ys) → AreMapped global s.solver_names c.literals → NoRepeats c.literals → 1 < length c.literals → is_tautology (map (with_var global) c.literals) ≡ false
      → AreLiveClausesOf (after (AtClause c.redundant (map (with_var global) c.literals) hashes) s) global (xs ++ c ∷ ys)
  derived_comes xs ys c hashes h n o l t =
      let w : List ℕ = map (with_var global) c.literals in
      let long : 1 < length w = (let e : length w ≡ length c.literals = length_mapped (with_var global) c.literals in omega arith) in
      let same : with_live_clause c.redundant w (knowing_literals w s) ≡ with_live c.redundant (canonical w) (knowing_literals w s) = clause_long c.redundant w (knowing_literals w s) (once_mapped global s.solver_names c.literals n o) long t in
      still_of (with_live c.redundant (canonical w) s) (after (AtClause c.redundant w hashes) s) global (xs ++ c ∷ ys) (λ r set. ap (λ x. x.live r set) same) (ap (λ x. x.solver_names) same) (comes_in s global xs ys c h n o)

  -- units leave the list unchanged
  pub units_leave : (cs : List LiveClause) (us : List (ℕ × ℕ)) → AreLiveClausesOf s global cs → AreLiveClausesOf (after (UnitClauses us) s) global cs
  units_leave cs us h =
      let ls : List ℕ = map (λ u. u.0) us in let k = facts_stay ls (knowing_literals ls s) in
      of_staying s (after (UnitClauses us) s) global cs (record { live = k.live; names = k.names }) h

  -- derived clauses of at most one literal leave it unchanged, too
  pub short_leaves : (cs : List LiveClause) (r : Bool) (c hashes : List ℕ) → NoRepeats c → length c < 2 → is_tautology c ≡ false → AreLiveClausesOf s global cs → AreLiveClausesOf (after (AtClause r c hashes) s) global cs
  short_leaves cs r c hashes n l t h =
      let e : length (canonical c) ≡ length c = length_sorted c n in
      let k = sorted_short r (canonical c) (knowing_literals c s) (omega arith) in
      let same : with_live_clause r c (knowing_literals c s) ≡ with_sorted r (canonical c) (knowing_literals c s) = ap (λ b. session_if b (knowing_literals c s) (with_sorted r (canonical c) (knowing_literals c s))) t in
      of_staying s (after (AtClause r c hashes) s) global cs (record { live = ap (λ x. x.live) same ∙ k.live; names = ap (λ x. x.solver_names) same ∙ k.names }) h

  -- the step may have the literals in another order than the list
  pub derived_comes_as : (xs ys : List LiveClause) (c : LiveClause) (d hashes : List ℕ) → AreLiveClausesOf s global (xs ++ ys) → AreMapped global s.solver_names c.literals → NoRepeats c.literals → NoRepeats d → 1 < length d → is_tautology d ≡ false
      → canonical d ≡ canonical (map (with_var global) c.literals) → AreLiveClausesOf (after (AtClause c.redundant d hashes) s) global (xs ++ c ∷ ys)
  derived_comes_as xs ys c d hashes h n o m l t e =
      let w : List ℕ = map (with_var global) c.literals in
      let same : with_live_clause c.redundant d (knowing_literals d s) ≡ with_live c.redundant (canonical d) (knowing_literals d s) = clause_long c.redundant d (knowing_literals d s) m l t in
      still_of (with_live c.redundant (canonical w) s) (after (AtClause c.redundant d hashes) s) global (xs ++ c ∷ ys)
      (λ r set. ap (λ x. x.live r set) same ∙ ap (λ k. (with_live c.redundant k s).live r set) e) (ap (λ x. x.solver_names) same) (comes_in s global xs ys c h n o)
