-- Headers of a list of clauses, written one by one.
use Rattle.std.proofs.Common.{ℕ, ◌≡◌, ◌+◌, ◌^◌, ◌<◌, ◌≤◌, ◌==◌, ◌-◌, min, inl, inr, List, [], ◌∷◌, ◌++◌, take, true, false, length, get_or, sym, ap, ◌∙◌, subst, arith, Bool, not, ◌&&◌, cond}
use Rattle.std.proofs.lemmas.Bool.{cases_eq, ne_eqb, eq-eqb, cond-true, cond-false}
use Rattle.std.proofs.lemmas.List.{append-nil}
use Rattle.std.proofs.lemmas.List.Elements.{filter_more}
use Rattle.std.specs.List.{Contains, filter}
use Rattle.sat_store.specs.clause.Buffer.{header_at, lits_at}
use Rattle.sat_store.specs.clause.Header.{Header, tier_index}
use Rattle.sat_parts.specs.clause.Db.{Db, is_live, live_refs, is_live_in_tier, garbage_of, DbMatchesBuffer, PutsHeader}
use Rattle.sat_parts.specs.clause.Activity.{PutsHeaders, PutsFirstHeaders}
use Rattle.sat_parts.proofs.lemmas.clause.ListLemmas.{at_place, sum_same, filter_same}

-- once the first n clauses are all clauses, all have their new headers
pub first_all : (words one refs : List ℕ) (f : ℕ → Header) (n : ℕ) → PutsFirstHeaders words one refs f n → n ≡ length refs → PutsHeaders words one refs f
first_all words one refs f n x e = record {
  size = x.size;
  holds_clauses = x.holds_clauses;
  headers = λ p c.
      let q : get_or refs c.0 0 ≡ p = at_place refs p c in
      ap (λ z. header_at one z) (sym q) ∙ x.first c.0 (omega (arith, c.1)) c.1 ∙ ap (λ z. f z) q;
  lits = λ p c.
      let q : get_or refs c.0 0 ≡ p = at_place refs p c in
      ap (λ z. lits_at one z) (sym q) ∙ x.lits c.0 c.1 ∙ ap (λ z. lits_at words z) q;
}

-- new headers with the same tiers and deletion marks preserve the invariant of the list
pub holds_headers : (words one : List ℕ) (db : Db) (f : ℕ → Header) → DbMatchesBuffer words db → PutsHeaders words one db.refs f →
    ((p : ℕ) → Contains db.refs p → (f p).deleted ≡ (header_at words p).deleted) → ((p : ℕ) → Contains db.refs p → (f p).tier ≡ (header_at words p).tier) → DbMatchesBuffer one db
holds_headers words one db f h x dead tier =
    let live : (p : ℕ) → Contains db.refs p → is_live one p ≡ is_live words p = λ p c. ap (λ (y : Header). not y.deleted) (x.headers p c) ∙ ap (λ b. not b) (dead p c) in
    let same : (p : ℕ) → Contains db.refs p → (header_at one p).tier ≡ (header_at words p).tier = λ p c. ap (λ (y : Header). y.tier) (x.headers p c) ∙ tier p c in
    record {
      holds_clauses = x.holds_clauses;
      rising = h.rising;
      tiers = h.tiers;
      counts = λ t. h.counts t
          ∙ sym (sum_same (λ p. cond (is_live_in_tier words t p) 1 0) (λ p. cond (is_live_in_tier one t p) 1 0) db.refs
          (λ p c. ap (λ b. cond (b && (tier_index (header_at one p).tier == tier_index t)) 1 0) (live p c) ∙ ap (λ y. cond (is_live words p && (tier_index y == tier_index t)) 1 0) (same p c)));
      garbage = h.garbage
          ∙ ap (λ s. min s (2 ^ 64 - 1)) (sym (sum_same (garbage_of words) (garbage_of one) db.refs
          (λ p c. ap (λ b. cond b 0 (length (lits_at one p) + 3)) (live p c) ∙ ap (λ (ls : List ℕ). cond (is_live words p) 0 (length ls + 3)) (x.lits p c))));
      few = h.few;
      long = λ p c. subst (λ (ls : List ℕ). 3 ≤ length ls) (sym (x.lits p c)) (h.long p c);
    }

-- new headers that keep `deleted` leave the same clauses live
pub live_headers : (words one : List ℕ) (db : Db) (f : ℕ → Header) → PutsHeaders words one db.refs f → ((p : ℕ) → Contains db.refs p → (f p).deleted ≡ (header_at words p).deleted) →
    live_refs one db.refs ≡ live_refs words db.refs
live_headers words one db f x dead = filter_same (is_live words) (is_live one) db.refs (λ p c. ap (λ (y : Header). not y.deleted) (x.headers p c) ∙ ap (λ b. not b) (dead p c))

-- one new header, as new headers for all clauses
pub put_one : (words one refs : List ℕ) (o : ℕ) (h : Header) → PutsHeader words one refs o h → PutsHeaders words one refs (λ p. cond (p == o) h (header_at words p))
put_one words one refs o h put = record {
  size = put.size;
  holds_clauses = put.holds_clauses;
  headers = λ p c. elim (cases_eq p o) [
    | inl e ↦ ap (λ z. header_at one z) e ∙ put.header_there ∙ sym (cond-true (p == o) h (header_at words p) (eq-eqb p o e))
    | inr n ↦ (put.others p c n).header ∙ sym (cond-false (p == o) h (header_at words p) (ne_eqb p o n))
  ];
  lits = λ p c. elim (cases_eq p o) [
    | inl e ↦ ap (λ z. lits_at one z) e ∙ put.lits_there ∙ ap (λ z. lits_at words z) (sym e)
    | inr n ↦ (put.others p c n).lits
  ];
}

one_of : (words : List ℕ) (o p : ℕ) (h : Header) {A : Type 0} (f : Header → A) → f h ≡ f (header_at words o) → f (cond (p == o) h (header_at words p)) ≡ f (header_at words p)
one_of words o p h f e = elim (cases_eq p o) [
  | inl q ↦ ap (λ (x : Header). f x) (cond-true (p == o) h (header_at words p) (eq-eqb p o q)) ∙ e ∙ ap (λ z. f (header_at words z)) (sym q)
  | inr n ↦ ap (λ (x : Header). f x) (cond-false (p == o) h (header_at words p) (ne_eqb p o n))
]

-- a new header that keeps `deleted` and the tier preserves the invariant of the list of clauses
pub holds_put : (words one : List ℕ) (db : Db) (o : ℕ) (h : Header) → DbMatchesBuffer words db → PutsHeader words one db.refs o h → h.deleted ≡ (header_at words o).deleted → h.tier ≡ (header_at words o).tier →
    DbMatchesBuffer one db × (live_refs one db.refs ≡ live_refs words db.refs)
holds_put words one db o h x put dead tier =
    let all : PutsHeaders words one db.refs (λ p. cond (p == o) h (header_at words p)) = put_one words one db.refs o h put in
    let dead' : (p : ℕ) → Contains db.refs p → (cond (p == o) h (header_at words p)).deleted ≡ (header_at words p).deleted = λ p c. one_of words o p h (λ (z : Header). z.deleted) dead in
    let tier' : (p : ℕ) → Contains db.refs p → (cond (p == o) h (header_at words p)).tier ≡ (header_at words p).tier = λ p c. one_of words o p h (λ (z : Header). z.tier) tier in
    (holds_headers words one db (λ p. cond (p == o) h (header_at words p)) x all dead' tier', live_headers words one db (λ p. cond (p == o) h (header_at words p)) all dead')

-- one more item of a filtered list
pub passed_more : (p : ℕ → Bool) (refs xs : List ℕ) (at x : ℕ) → xs ≡ filter p (take at refs) → at < length refs → x ≡ get_or refs at 0 → p x ≡ true → xs ++ x ∷ [] ≡ filter p (take (at + 1) refs)
passed_more p refs xs at x e lt is passes =
    let y : p (get_or refs at 0) ≡ true = subst (λ z. p z ≡ true) is passes in
    ap (λ (zs : List ℕ). zs ++ x ∷ []) e ∙ ap (λ z. filter p (take at refs) ++ z ∷ []) is
    ∙ ap (λ (zs : List ℕ). filter p (take at refs) ++ zs) (sym (cond-true (p (get_or refs at 0)) (get_or refs at 0 ∷ []) [] y)) ∙ sym (filter_more p refs at 0 lt)

-- an item that fails the test is not among those that were selected
pub passed_skip : (p : ℕ → Bool) (refs xs : List ℕ) (at x : ℕ) → xs ≡ filter p (take at refs) → at < length refs → x ≡ get_or refs at 0 → p x ≡ false → xs ≡ filter p (take (at + 1) refs)
passed_skip p refs xs at x e lt is fails =
    let n : p (get_or refs at 0) ≡ false = subst (λ z. p z ≡ false) is fails in
    e ∙ sym (append-nil (filter p (take at refs)))
    ∙ ap (λ (zs : List ℕ). filter p (take at refs) ++ zs) (sym (cond-false (p (get_or refs at 0)) (get_or refs at 0 ∷ []) [] n)) ∙ sym (filter_more p refs at 0 lt)
