-- One more clause among the clauses of the parts.
use Rattle.std.proofs.Common.{ℕ, zero, suc, ◌<◌, ◌≡◌, ◌≢◌, Bool, not, cond, List, [], ◌∷◌, ◌++◌, refl, sym, ◌∙◌, ap, subst, arith, ◌⊎◌, inl, inr, append_assoc}
use Rattle.std.proofs.lemmas.Bool.{cases_eq, ne_eqb, eq-eqb}
use Rattle.std.proofs.lemmas.List.{append-nil}
use Rattle.std.specs.List.{Contains}
use Rattle.sat_store.specs.clause.Buffer.{lits_at}
use Rattle.sat_parts.specs.clause.Db.{without_ref}
use Rattle.sat_parts.specs.clause.Orders.{AreDistinct}
use Rattle.sat_parts.proofs.lemmas.clause.ListLemmas.{in_tail, in_head, there, at_place}
use Rattle.sat_solver.specs.session.LiveClauses.{LiveClause}
use Rattle.sat_solver.specs.session.SolverClauses.{longs, InsertsClause}

-- a clause is inserted after or before other clauses
pub inserted_after : (xs old new : List LiveClause) (c : LiveClause) → InsertsClause old new c → InsertsClause (xs ++ old) (xs ++ new) c
inserted_after xs old new c i = record {
  before = xs ++ i.before;
  following = i.following;
  was = ap (λ cs. xs ++ cs) i.was ∙ sym (append_assoc xs i.before i.following);
  is = ap (λ cs. xs ++ cs) i.is ∙ sym (append_assoc xs i.before (c ∷ i.following));
}

pub inserted_before : (ys old new : List LiveClause) (c : LiveClause) → InsertsClause old new c → InsertsClause (old ++ ys) (new ++ ys) c
inserted_before ys old new c i = record {
  before = i.before;
  following = i.following ++ ys;
  was = ap (λ cs. cs ++ ys) i.was ∙ append_assoc i.before i.following ys;
  is = ap (λ cs. cs ++ ys) i.is ∙ append_assoc i.before (c ∷ i.following) ys;
}

pub inserted_first : (old : List LiveClause) (c : LiveClause) → InsertsClause old (c ∷ old) c
inserted_first old c = record { before = []; following = old; was = refl; is = refl }

-- a clause is inserted before another one, which is then deleted
pub replaces : (xs front back : List LiveClause) (c d : LiveClause) → InsertsClause (xs ++ (front ++ c ∷ back)) (xs ++ (front ++ d ∷ c ∷ back)) d × InsertsClause (xs ++ (front ++ d ∷ back)) (xs ++ (front ++ d ∷ c ∷ back)) c
replaces xs front back c d = (
  inserted_after xs (front ++ c ∷ back) (front ++ d ∷ c ∷ back) d (record { before = front; following = c ∷ back; was = refl; is = refl }),
  inserted_after xs (front ++ d ∷ back) (front ++ d ∷ c ∷ back) c (record { before = front ++ d ∷ []; following = back; was = sym (append_assoc front (d ∷ []) back); is = sym (append_assoc front (d ∷ []) (c ∷ back)) }),
)

-- LONG CLAUSES

pub longs_both : (r : ℕ → Bool) (words os ps : List ℕ) → longs r words (os ++ ps) ≡ longs r words os ++ longs r words ps
longs_both r words [] ps = refl
longs_both r words (o ∷ os) ps = ap (λ ds. (record { redundant = r o; literals = lits_at words o }) ∷ ds) (longs_both r words os ps)

-- splits a list at an element that occurs once
pub record Splits (os : List ℕ) (o : ℕ) : Type 0 where
  pub front : List ℕ
  pub back : List ℕ
  pub was : os ≡ front ++ o ∷ back
  pub left : without_ref o os ≡ front ++ back
  pub in_front : (p : ℕ) → Contains front p → Contains os p × (p ≢ o)
  pub in_back : (p : ℕ) → Contains back p → Contains os p × (p ≢ o)

none_without : (os : List ℕ) (o : ℕ) → ((p : ℕ) → Contains os p → p ≢ o) → without_ref o os ≡ os
none_without [] o n = refl
none_without (p ∷ os) o n =
    ap (λ b. cond (not b) (p ∷ without_ref o os) (without_ref o os)) (ne_eqb p o (n p (0, omega arith, refl)))
    ∙ ap (λ qs. p ∷ qs) (none_without os o (λ q c. n q (in_tail p os q c)))

front_or_rest : (x : ℕ) (xs : List ℕ) (p : ℕ) → Contains (x ∷ xs) p → (x ≡ p) ⊎ Contains xs p
front_or_rest x xs p (zero, lt, e) = inl e
front_or_rest x xs p (suc k, lt, e) = inr (k, omega arith, e)

pub splits : (os : List ℕ) (o : ℕ) → AreDistinct os → Contains os o → Splits os o
splits [] o d c = (let n : c.0 < 0 = c.1 in absurd (omega arith))
splits (p ∷ os) o d c = elim (cases_eq p o) [
  | inl e ↦
      let others : (q : ℕ) → Contains os q → q ≢ o = λ q k same. (let z : 0 ≡ suc k.0 = d 0 (suc k.0) (omega arith) (omega (arith, k.1)) (e ∙ sym same ∙ sym (at_place os q k)) in omega arith) in
      record {
        front = [];
        back = os;
        was = ap (λ q. q ∷ os) e;
        left = ap (λ b. cond (not b) (p ∷ without_ref o os) (without_ref o os)) (eq-eqb p o e) ∙ none_without os o others;
        in_front = λ q k. (let z : k.0 < 0 = k.1 in absurd (omega arith));
        in_back = λ q k. (in_tail p os q k, others q k);
      }
  | inr n ↦
      let x : Splits os o = splits os o (λ j k a b same. (let z : suc j ≡ suc k = d (suc j) (suc k) (omega arith) (omega arith) same in omega arith)) (there p os o n c) in
      record {
        front = p ∷ x.front;
        back = x.back;
        was = ap (λ qs. p ∷ qs) x.was;
        left = ap (λ b. cond (not b) (p ∷ without_ref o os) (without_ref o os)) (ne_eqb p o n) ∙ ap (λ qs. p ∷ qs) x.left;
        in_front = λ q k. elim (front_or_rest p x.front q k) [
          | inl e ↦ subst (λ z. Contains (p ∷ os) z × (z ≢ o)) e (in_head p os, n)
          | inr r ↦ let y = x.in_front q r in (in_tail p os q y.0, y.1)
        ];
        in_back = λ q k. let y = x.in_back q k in (in_tail p os q y.0, y.1);
      }
]

-- a long clause is deleted
pub long_goes : (r : ℕ → Bool) (words os : List ℕ) (o : ℕ) → AreDistinct os → Contains os o → InsertsClause (longs r words (without_ref o os)) (longs r words os) (record { redundant = r o; literals = lits_at words o })
long_goes r words os o d c =
    let x : Splits os o = splits os o d c in
    record {
      before = longs r words x.front;
      following = longs r words x.back;
      was = ap (longs r words) x.left ∙ longs_both r words x.front x.back;
      is = ap (longs r words) x.was ∙ longs_both r words x.front (o ∷ x.back);
    }

-- a long clause is added
pub long_comes : (r : ℕ → Bool) (words os : List ℕ) (o : ℕ) → InsertsClause (longs r words os) (longs r words (os ++ o ∷ [])) (record { redundant = r o; literals = lits_at words o })
long_comes r words os o = record { before = longs r words os; following = []; was = sym (append-nil (longs r words os)); is = longs_both r words os (o ∷ []) }
