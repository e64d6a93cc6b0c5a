-- The search's clauses as a list: counts of a set as clauses are added and removed.
use Rattle.std.proofs.Common.{ℕ, ◌+◌, ◌*◌, ◌/◌, ◌%◌, ◌<◌, ◌≡◌, Bool, true, false, ◌&&◌, eqb, List, [], ◌∷◌, ◌++◌, map, refl, sym, ◌∙◌, ap, subst, arith, inl, inr, Option, Some, unwrap_or}
use Rattle.std.specs.List.{list_any}
use Rattle.sat_base.specs.values.Literals.{variable}
use Rattle.sat_checker.specs.LiteralSets.{mentions, canonical, same_literals}
use Rattle.sat_checker.specs.Stored.{solver_literal}
use Rattle.sat_checker.proofs.lemmas.meaning.Clauses.{same, same_from}
use Rattle.sat_checker.proofs.lemmas.sets.Canonical.{canonical_among}
use Rattle.sat_checker.proofs.lemmas.sets.Subsets.{any_true, some_of, any_canonical}
use Rattle.sat_checker.specs.Contents.{same_flag, plus_one_if}
use Rattle.sat_solver.specs.session.LiveClauses.{LiveClause, live_count_of, IsIn, with_var, AreMapped}

-- two clauses are counted in either order
more_more : (a b : Bool) (n : ℕ) → plus_one_if a (plus_one_if b n) ≡ plus_one_if b (plus_one_if a n)
more_more true true n = refl
more_more true false n = refl
more_more false b n = refl

-- one more clause at any position
pub count_between : (xs ys : List LiveClause) (c : LiveClause) (r : Bool) (set : List ℕ) → live_count_of (xs ++ c ∷ ys) r set ≡ plus_one_if (same_flag c.redundant r && same_literals (canonical c.literals) set) (live_count_of (xs ++ ys) r set)
count_between [] ys c r set = refl
count_between (x ∷ xs) ys c r set =
    ap (plus_one_if (same_flag x.redundant r && same_literals (canonical x.literals) set)) (count_between xs ys c r set)
    ∙ more_more (same_flag x.redundant r && same_literals (canonical x.literals) set) (same_flag c.redundant r && same_literals (canonical c.literals) set) (live_count_of (xs ++ ys) r set)

-- `same_flag` holds for equal sides
its_side : (r : Bool) → same_flag r r ≡ true
its_side true = refl
its_side false = refl

-- a positive count stays positive
more_positive : (b : Bool) (n : ℕ) → 0 < n → 0 < plus_one_if b n
more_positive true n h = omega arith
more_positive false n h = h

-- a clause in the list has a positive count
pub in_counts : (cs : List LiveClause) (c : LiveClause) → IsIn c cs → 0 < live_count_of cs c.redundant (canonical c.literals)
in_counts [] c h = absurd h
in_counts (d ∷ ds) c h = elim h [
  | inl e ↦
      let t : (same_flag d.redundant c.redundant && same_literals (canonical d.literals) (canonical c.literals)) ≡ true = subst (λ x. (same_flag x.redundant c.redundant && same_literals (canonical x.literals) (canonical c.literals)) ≡ true) e (ap (λ b. b && same_literals (canonical c.literals) (canonical c.literals)) (its_side c.redundant) ∙ same_from (canonical c.literals) (canonical c.literals) refl) in
      subst (λ b. 0 < plus_one_if b (live_count_of ds c.redundant (canonical c.literals))) (sym t) (omega arith)
  | inr k ↦ more_positive (same_flag d.redundant c.redundant && same_literals (canonical d.literals) (canonical c.literals)) (live_count_of ds c.redundant (canonical c.literals)) (in_counts ds c k)
]

-- a clause of the list that has this side and set
pub record SomeIn (cs : List LiveClause) (r : Bool) (set : List ℕ) : Type 0 where
  pub clause : LiveClause
  pub within : IsIn clause cs
  pub side : clause.redundant ≡ r
  pub its : canonical clause.literals ≡ set

-- `same_flag` holds for equal sides only
side_is : (a b : Bool) → same_flag a b ≡ true → a ≡ b
side_is true true e = refl
side_is true false e = absurd cc
side_is false true e = absurd cc
side_is false false e = refl

-- a set with a positive count belongs to a clause in the list
pub counts_in : (cs : List LiveClause) (r : Bool) (set : List ℕ) → 0 < live_count_of cs r set → SomeIn cs r set
counts_in [] r set n = absurd (omega arith)
counts_in (c ∷ cs) r set n = go (counts_in cs r set) (same_flag c.redundant r) refl (same_literals (canonical c.literals) set) refl n
  where
    later : SomeIn cs r set → SomeIn (c ∷ cs) r set
    later s = record { clause = s.clause; within = inr s.within; side = s.side; its = s.its }

    go : (0 < live_count_of cs r set → SomeIn cs r set) → (a : Bool) → same_flag c.redundant r ≡ a → (b : Bool) → same_literals (canonical c.literals) set ≡ b → 0 < plus_one_if (a && b) (live_count_of cs r set) → SomeIn (c ∷ cs) r set
    go ih true x true y k = record { clause = c; within = inl refl; side = side_is c.redundant r x; its = same (canonical c.literals) set y }
    go ih true x false y k = later (ih k)
    go ih false x b y k = later (ih k)

-- if every irredundant clause of the list has a true literal, so has every counted set
pub shows_all : (cs : List LiveClause) (test : ℕ → Bool) → ((c : LiveClause) → IsIn c cs → c.redundant ≡ false → list_any test c.literals ≡ true) → (set : List ℕ) → 0 < live_count_of cs false set → list_any test set ≡ true
shows_all cs test h set n = let s = counts_in cs false set n in subst (λ x. list_any test x ≡ true) s.its (any_canonical test s.clause.literals (h s.clause s.within s.side))

-- a variable that isn't in a clause isn't in its sorted set
mentions_canonical : (v : ℕ) (ls : List ℕ) → mentions ls v ≡ false → mentions (canonical ls) v ≡ false
mentions_canonical v ls n = go (mentions (canonical ls) v) refl
  where
    go : (b : Bool) → mentions (canonical ls) v ≡ b → b ≡ false
    go true t = let s = some_of (λ l. eqb (variable l) v) (canonical ls) t in sym (any_true (λ l. eqb (variable l) v) ls s.literal (sym (canonical_among ls s.literal) ∙ s.within) s.passes) ∙ n
    go false t = refl

-- if no clause of the list has the variable, no counted set has it
pub unused_in_all : (cs : List LiveClause) (v : ℕ) → ((c : LiveClause) → IsIn c cs → mentions c.literals v ≡ false) → (r : Bool) (set : List ℕ) → 0 < live_count_of cs r set → mentions set v ≡ false
unused_in_all cs v h r set n = let s = counts_in cs r set n in subst (λ x. mentions x v ≡ false) s.its (mentions_canonical v s.clause.literals (h s.clause s.within))

-- SEARCH VARIABLES

-- mapping a literal to its proof variable and back gives the same literal
back_again : (global : ℕ → ℕ) (names : ℕ → Option ℕ) (l : ℕ) → names (global (variable l)) ≡ Some (variable l) → solver_literal names (with_var global l) ≡ l
back_again global names l e =
    let half : variable (with_var global l) ≡ global (l / 2) = omega arith in
    let sign : with_var global l % 2 ≡ l % 2 = omega arith in
    let got : names (variable (with_var global l)) ≡ Some (variable l) = ap names half ∙ e in
    ap (λ o. 2 * unwrap_or o (variable (with_var global l)) + with_var global l % 2) got ∙ ap (λ b. 2 * (l / 2) + b) sign ∙ (let k : 2 * (l / 2) + l % 2 ≡ l = omega arith in k)

-- the solver names map a clause over proof variables back to the search's clause
pub solver_hash : (global : ℕ → ℕ) (names : ℕ → Option ℕ) (ls : List ℕ) → AreMapped global names ls → map (solver_literal names) (map (with_var global) ls) ≡ ls
solver_hash global names [] h = refl
solver_hash global names (l ∷ ls) h = ap (λ m. m ∷ map (solver_literal names) (map (with_var global) ls)) (back_again global names l h.0) ∙ ap (λ ms. l ∷ ms) (solver_hash global names ls h.1)
