-- The clauses of search and session, while clauses are added and deleted and indices are reused.
use Rattle.std.proofs.Common.{ℕ, ◌+◌, ◌-◌, ◌/◌, ◌^◌, ◌<◌, ◌≡◌, ◌≢◌, Bool, true, false, ◌&&◌, cond, eqb, List, [], ◌∷◌, ◌++◌, map, refl, sym, ◌∙◌, ap, subst, arith, ◌⊎◌, inl, inr, Option, None, Some}
use Rattle.std.proofs.lemmas.Bool.{or_parts, eqb-false, ne_eqb}
use Rattle.std.specs.List.{AllByRecursion}
use Rattle.sat_base.specs.values.Literals.{variable}
use Rattle.sat_base.specs.values.Hashes.{hash_of}
use Rattle.sat_checker.specs.LiteralSets.{mentions, canonical, same_literals}
use Rattle.sat_checker.specs.SortedSets.{NoRepeats}
use Rattle.sat_checker.specs.Contents.{same_flag, plus_one_if, minus_one_if}
use Rattle.sat_solver.specs.session.Session.{Session, IsLive, hash_in}
use Rattle.sat_solver.proofs.lemmas.session.Changes.{with_live, without_live, session_with_name}
use Rattle.sat_solver.specs.session.LiveClauses.{LiveClause, live_count_of, IsIn, with_var, mapped, AreMapped, AreLiveClausesOf}
use Rattle.sat_solver.proofs.lemmas.session.Lists.{count_between, in_counts, solver_hash}
use Rattle.sat_solver.proofs.lemmas.session.Mapped.{once_mapped}

-- mapping a list with one more clause in the middle
map_between : (f : LiveClause → LiveClause) (xs ys : List LiveClause) (c : LiveClause) → map f (xs ++ c ∷ ys) ≡ map f xs ++ f c ∷ map f ys
map_between f [] ys c = refl
map_between f (x ∷ xs) ys c = ap (λ zs. f x ∷ zs) (map_between f xs ys c)

-- mapping the concatenation of two lists
map_both : (f : LiveClause → LiveClause) (xs ys : List LiveClause) → map f (xs ++ ys) ≡ map f xs ++ map f ys
map_both f [] ys = refl
map_both f (x ∷ xs) ys = ap (λ zs. f x ∷ zs) (map_both f xs ys)

-- an element of a list with one more clause is this clause or one of the others
pub in_between : (xs ys : List LiveClause) (c d : LiveClause) → IsIn d (xs ++ c ∷ ys) → (d ≡ c) ⊎ IsIn d (xs ++ ys)
in_between [] ys c d h = h
in_between (x ∷ xs) ys c d h = elim h [ inl e ↦ inr (inl e) | inr k ↦ elim (in_between xs ys c d k) [ inl e ↦ inl e | inr j ↦ inr (inr j) ] ]

-- a clause of a list is also in a longer one
pub in_longer : (xs ys : List LiveClause) (c d : LiveClause) → IsIn d (xs ++ ys) → IsIn d (xs ++ c ∷ ys)
in_longer [] ys c d h = inr h
in_longer (x ∷ xs) ys c d h = elim h [ inl e ↦ inl e | inr k ↦ inr (in_longer xs ys c d k) ]

-- the image of a clause is among the images
in_mapped : (f : LiveClause → LiveClause) (cs : List LiveClause) (c : LiveClause) → IsIn c cs → IsIn (f c) (map f cs)
in_mapped f [] c h = h
in_mapped f (d ∷ ds) c h = elim h [ inl e ↦ inl (ap f e) | inr k ↦ inr (in_mapped f ds c k) ]

-- the count with one more clause
counts_with : (global : ℕ → ℕ) (xs ys : List LiveClause) (c : LiveClause) (r : Bool) (set : List ℕ)
    → live_count_of (map (mapped global) (xs ++ c ∷ ys)) r set ≡ plus_one_if (same_flag c.redundant r && same_literals (canonical (map (with_var global) c.literals)) set) (live_count_of (map (mapped global) (xs ++ ys)) r set)
counts_with global xs ys c r set =
    ap (λ zs. live_count_of zs r set) (map_between (mapped global) xs ys c) ∙ count_between (map (mapped global) xs) (map (mapped global) ys) (mapped global c) r set
    ∙ ap (λ zs. plus_one_if (same_flag c.redundant r && same_literals (canonical (map (with_var global) c.literals)) set) (live_count_of zs r set)) (sym (map_both (mapped global) xs ys))

-- A live clause of the search is live in the session, and the search computes the hash that it has there.
pub record Usable (s : Session) (global : ℕ → ℕ) (c : LiveClause) : Type 0 where
  pub live : IsLive s (map (with_var global) c.literals)
  pub hash : hash_of c.literals / 2 ^ (64 - s.width) ≡ hash_in s (map (with_var global) c.literals)

-- a set that counts on one side has a positive count
either_positive : (r : Bool) (s : Session) (set : List ℕ) → 0 < s.live r set → 0 < s.live false set + s.live true set
either_positive true s set h = omega arith
either_positive false s set h = omega arith

-- a clause of the search is usable in the session
pub usable : (s : Session) (global : ℕ → ℕ) (cs : List LiveClause) (c : LiveClause) → AreLiveClausesOf s global cs → IsIn c cs → Usable s global c
usable s global cs c h k =
    let w : List ℕ = map (with_var global) c.literals in
    let n : 0 < s.live c.redundant (canonical w) = subst (λ x. 0 < x) (sym (h.counts c.redundant (canonical w))) (in_counts (map (mapped global) cs) (mapped global c) (in_mapped (mapped global) cs c k)) in
    record {
      live = record { once = once_mapped global s.solver_names c.literals (h.named c k) (h.once c k); counted = either_positive c.redundant s (canonical w) n };
      hash = sym (ap (λ ls. hash_of ls / 2 ^ (64 - s.width)) (solver_hash global s.solver_names c.literals (h.named c k)));
    }

-- a clause is added
pub comes_in : (s : Session) (global : ℕ → ℕ) (xs ys : List LiveClause) (c : LiveClause) → AreLiveClausesOf s global (xs ++ ys) → AreMapped global s.solver_names c.literals → NoRepeats c.literals
    → AreLiveClausesOf (with_live c.redundant (canonical (map (with_var global) c.literals)) s) global (xs ++ c ∷ ys)
comes_in s global xs ys c h n o = record {
  named = λ d k. elim (in_between xs ys c d k) [ inl e ↦ subst (λ x. AreMapped global s.solver_names x.literals) (sym e) n | inr j ↦ h.named d j ];
  once = λ d k. elim (in_between xs ys c d k) [ inl e ↦ subst (λ x. NoRepeats x.literals) (sym e) o | inr j ↦ h.once d j ];
  counts = λ r set.
      ap (plus_one_if (same_flag c.redundant r && same_literals (canonical (map (with_var global) c.literals)) set)) (h.counts r set) ∙ sym (counts_with global xs ys c r set);
}

-- adding 1 and subtracting 1 leaves a count unchanged
less_more : (b : Bool) (n : ℕ) → minus_one_if b (plus_one_if b n) ≡ n
less_more true n = omega arith
less_more false n = refl

-- a clause is deleted
pub goes : (s : Session) (global : ℕ → ℕ) (xs ys : List LiveClause) (c : LiveClause) → AreLiveClausesOf s global (xs ++ c ∷ ys)
    → AreLiveClausesOf (without_live c.redundant (canonical (map (with_var global) c.literals)) s) global (xs ++ ys)
goes s global xs ys c h = record {
  named = λ d k. h.named d (in_longer xs ys c d k);
  once = λ d k. h.once d (in_longer xs ys c d k);
  counts = λ r set.
      ap (minus_one_if (same_flag c.redundant r && same_literals (canonical (map (with_var global) c.literals)) set)) (h.counts r set ∙ counts_with global xs ys c r set)
      ∙ less_more (same_flag c.redundant r && same_literals (canonical (map (with_var global) c.literals)) set) (live_count_of (map (mapped global) (xs ++ ys)) r set);
}

-- SOLVER NAMES ARE ADDED AND REMOVED

-- if a clause lacks a variable, a property of all literals over others holds for its literals
others_of : (ls : List ℕ) (x : ℕ) (P : ℕ → Type 0) → mentions ls x ≡ false → ((l : ℕ) → variable l ≢ x → P l) → AllByRecursion P ls
others_of [] x P n h = tt
others_of (l ∷ ls) x P n h = let p = or_parts (eqb (variable l) x) (mentions ls x) n in (h l (eqb-false (variable l) x p.0), others_of ls x P p.1 h)

-- a property that follows from two others, for all members
both_of : (P Q R : ℕ → Type 0) (ls : List ℕ) → ((l : ℕ) → P l → Q l → R l) → AllByRecursion P ls → AllByRecursion Q ls → AllByRecursion R ls
both_of P Q R [] f p q = tt
both_of P Q R (l ∷ ls) f p q = (f l p.0 q.0, both_of P Q R ls f p.1 q.1)

-- equal options have equal values
some_same : (x y : ℕ) → Some x ≡ Some y → x ≡ y
some_same x y e = cc

-- the name of another variable is unchanged
renamed : (names : ℕ → Option ℕ) (v w : ℕ) (name o : Option ℕ) → w ≢ v → names w ≡ o → cond (eqb w v) name (names w) ≡ o
renamed names v w name o n e = ap (λ b. cond b name (names w)) (ne_eqb w v n) ∙ e

-- An index that is in no clause loses its proof variable.
pub loses_name : (s : Session) (f : ℕ → ℕ) (v x : ℕ) (cs : List LiveClause) → AreLiveClausesOf s f cs → s.solver_names v ≡ Some x → ((c : LiveClause) → IsIn c cs → mentions c.literals x ≡ false) → AreLiveClausesOf (session_with_name v None s) f cs
loses_name s f v x cs h its unused = record {
  named = λ c k. both_of (λ l. s.solver_names (f (variable l)) ≡ Some (variable l)) (λ l. variable l ≢ x) (λ l. cond (eqb (f (variable l)) v) None (s.solver_names (f (variable l))) ≡ Some (variable l)) c.literals
      (λ l p q. renamed s.solver_names v (f (variable l)) None (Some (variable l)) (λ e. q (some_same (variable l) x (sym p ∙ ap s.solver_names e ∙ its))) p)
      (h.named c k) (others_of c.literals x (λ l. variable l ≢ x) (unused c k) (λ l n. n));
  once = h.once;
  counts = h.counts;
}

-- the match is preserved if live clauses and solver names are unchanged
pub still_of : (s t : Session) (f : ℕ → ℕ) (cs : List LiveClause) → ((r : Bool) (set : List ℕ) → t.live r set ≡ s.live r set) → t.solver_names ≡ s.solver_names → AreLiveClausesOf s f cs → AreLiveClausesOf t f cs
still_of s t f cs e n h = record {
  named = λ c k. subst (λ names. AreMapped f names c.literals) (sym n) (h.named c k);
  once = h.once;
  counts = λ r set. e r set ∙ h.counts r set;
}
