-- Adding, deleting and moving clauses preserves the invariant of the list of clauses.
use Rattle.std.proofs.Common.{ℕ, ◌≡◌, ◌≢◌, ◌+◌, ◌-◌, ◌^◌, ◌<◌, ◌≤◌, inl, inr, min, List, [], ◌∷◌, ◌++◌, length, get_or, set, take, refl, sym, ap, ◌∙◌, subst, arith, length-set, get_or-set_same, get_or-set_other, Bool, true, false, not, ◌&&◌, ◌==◌, cond}
use Rattle.std.proofs.lemmas.Bool.{cases_eq, ne_eqb, eq-eqb, cond-true, cond-false}
use Rattle.std.proofs.lemmas.List.{take_all, length-take-le}
use Rattle.std.proofs.lemmas.List.Sums.{sum_by_push}
use Rattle.std.proofs.lemmas.List.Elements.{filter-append, filter_passes, All-contains, Contains-push_cases}
use Rattle.std.specs.List.{Contains, sum_by, count_by}
use Rattle.sat_store.specs.clause.Buffer.{IsClause, HoldsClauses, SameClauseAt, AppendsClause, ChangesClauseAt, header_at, lits_at}
use Rattle.sat_store.specs.clause.Header.{Header, tier_index}
use Rattle.sat_store.specs.declared.clause.tier.Tier.{Tier}
use Rattle.sat_store.specs.declared.clause.tier.Tier.TheVariants.{Irred}
use Rattle.sat_store.proofs.lemmas.clause.HeldClauses.{same_count, clause_within, kept_below}
use Rattle.sat_parts.specs.clause.Db.{Db, is_live, live_refs, is_live_in_tier, garbage_of, AreStrictlyIncreasing, DbMatchesBuffer, tier_count_more, tier_count_less, AddsLongClause, PutsHeader, DeletesClause, MovesClauseToTier, ShortensClause}
use Rattle.sat_parts.proofs.lemmas.prop.BuildLemmas.{live_in, live_same}
use Rattle.sat_parts.proofs.lemmas.clause.ListLemmas.{rising_push, sum_same, sum_changed, count_less, counted_some, filter_without, filter_same}

and_false : (a : Bool) → (a && false) ≡ false
and_false true = refl
and_false false = refl

and_true : (a : Bool) → (a && true) ≡ a
and_true true = refl
and_true false = refl

-- what is in the list of live clauses is live
pub live_is : (words refs : List ℕ) (o : ℕ) → Contains (live_refs words refs) o → is_live words o ≡ true
live_is words refs o h = All-contains (λ x. is_live words x ≡ true) (live_refs words refs) o (filter_passes (is_live words) refs) h

-- replacing a header by one of the same length, as `set_header` does
-- a header written in place, where no literal is dropped
pub header_put : (words words' refs : List ℕ) (o : ℕ) (h : Header) → HoldsClauses words refs → Contains refs o →
    header_at words' o ≡ h → lits_at words' o ≡ lits_at words o → ChangesClauseAt words words' o → PutsHeader words words' refs o h
header_put words words' refs o h holds_clauses has header lits change = record {
  size = change.size;
  holds_clauses = change.holds_clauses refs has holds_clauses;
  header_there = header;
  lits_there = lits;
  others = λ p c n. change.others p (holds_clauses.clauses p c) (holds_clauses.apart o p has c (λ e. n (sym e)));
}

pub puts_header : (words words' refs : List ℕ) (o : ℕ) (h : Header) → HoldsClauses words refs → Contains refs o → h.len ≡ (header_at words o).len →
    header_at words' o ≡ h → lits_at words' o ≡ take h.len (lits_at words o) → ChangesClauseAt words words' o → PutsHeader words words' refs o h
puts_header words words' refs o h holds_clauses has len header lits change =
    header_put words words' refs o h holds_clauses has header
    (lits ∙ take_all h.len (lits_at words o) (omega (arith, same_count words o (holds_clauses.clauses o has)))) change

-- a live clause counts for a tier exactly if its header has this tier
counted_live : (words : List ℕ) (t : Tier) (o : ℕ) (tier : Tier) → is_live words o ≡ true → (header_at words o).tier ≡ tier → is_live_in_tier words t o ≡ (tier_index tier == tier_index t)
counted_live words t o tier live is = ap (λ b. b && (tier_index (header_at words o).tier == tier_index t)) live ∙ ap (λ x. tier_index x == tier_index t) is

counted_dead : (words : List ℕ) (t : Tier) (o : ℕ) → is_live words o ≡ false → is_live_in_tier words t o ≡ false
counted_dead words t o dead = ap (λ b. b && (tier_index (header_at words o).tier == tier_index t)) dead

abbrev one : Bool → ℕ
one b = cond b 1 0

-- unchanged clauses count as before
kept_counted : (words words' : List ℕ) (t : Tier) (p : ℕ) → header_at words' p ≡ header_at words p → is_live_in_tier words' t p ≡ is_live_in_tier words t p
kept_counted words words' t p e = ap (λ (h : Header). not h.deleted && (tier_index h.tier == tier_index t)) e

kept_garbage : (words words' : List ℕ) (p : ℕ) → SameClauseAt words words' p → garbage_of words' p ≡ garbage_of words p
kept_garbage words words' p k =
    ap (λ (h : Header). cond (not h.deleted) 0 (length (lits_at words' p) + 3)) k.header ∙ ap (λ (ls : List ℕ). cond (is_live words p) 0 (length ls + 3)) k.lits

-- the counts by tier when the header of one clause changes
counts_changed : (words words' refs : List ℕ) (o : ℕ) (h : Header) (t : Tier) → AreStrictlyIncreasing refs → Contains refs o → PutsHeader words words' refs o h →
    count_by (is_live_in_tier words' t) refs + one (is_live_in_tier words t o) ≡ count_by (is_live_in_tier words t) refs + one (is_live_in_tier words' t o)
counts_changed words words' refs o h t rising has put =
    sum_changed (λ p. one (is_live_in_tier words t p)) (λ p. one (is_live_in_tier words' t p)) refs o rising has
    (λ p c n. ap (λ b. one b) (kept_counted words words' t p (put.others p c n).header))

garbage_changed : (words words' refs : List ℕ) (o : ℕ) (h : Header) → AreStrictlyIncreasing refs → Contains refs o → PutsHeader words words' refs o h →
    sum_by (garbage_of words') refs + garbage_of words o ≡ sum_by (garbage_of words) refs + garbage_of words' o
garbage_changed words words' refs o h rising has put =
    sum_changed (garbage_of words) (garbage_of words') refs o rising has (λ p c n. kept_garbage words words' p (put.others p c n))

-- the count of a live clause's tier is not 0
pub counted_one : (words : List ℕ) (db : Db) (o : ℕ) → DbMatchesBuffer words db → Contains (live_refs words db.refs) o → 0 < get_or db.counts (tier_index (header_at words o).tier) 0
counted_one words db o h c = elim (cases_eq (get_or db.counts (tier_index (header_at words o).tier) 0) 0) [
  | inl e ↦
      let tier : Tier = (header_at words o).tier in
      let yes : is_live_in_tier words (header_at words o).tier o ≡ true = counted_live words tier o tier (live_is words db.refs o c) refl ∙ eq-eqb (tier_index tier) (tier_index tier) refl in
      let some : 0 < count_by (is_live_in_tier words (header_at words o).tier) db.refs = counted_some (is_live_in_tier words (header_at words o).tier) db.refs o (live_in words db.refs o c) yes in
      absurd (omega (arith, h.counts (header_at words o).tier))
  | inr n ↦ omega arith
]

index_small : (t : Tier) → tier_index t < 4
index_small Irred = omega arith
index_small e = omega arith

-- reading the counts after one of them was set
set_there : (counts : List ℕ) (a b : Tier) (x : ℕ) → length counts ≡ 4 → tier_index a ≡ tier_index b → get_or (set counts (tier_index a) x) (tier_index b) 0 ≡ x
set_there counts a b x n e = ap (λ k. get_or (set counts (tier_index a) x) k 0) (sym e) ∙ get_or-set_same counts (tier_index a) x 0 (omega (arith, index_small a))

set_elsewhere : (counts : List ℕ) (a b : Tier) (x : ℕ) → tier_index a ≢ tier_index b → get_or (set counts (tier_index a) x) (tier_index b) 0 ≡ get_or counts (tier_index b) 0
set_elsewhere counts a b x n = get_or-set_other counts (tier_index a) (tier_index b) x 0 (λ e. n (sym e))

held_more : (sum x limit : ℕ) → min (min sum limit + x) limit ≡ min (sum + x) limit
held_more sum x limit = grind arith

long_put : (words words' refs : List ℕ) (o : ℕ) (h : Header) → PutsHeader words words' refs o h → ((p : ℕ) → Contains refs p → 3 ≤ length (lits_at words p)) →
    (p : ℕ) → Contains refs p → 3 ≤ length (lits_at words' p)
long_put words words' refs o h put long p c = elim (cases_eq p o) [
  | inl e ↦ subst (λ (ls : List ℕ). 3 ≤ length ls) (sym (ap (λ z. lits_at words' z) e ∙ put.lits_there ∙ ap (λ z. lits_at words z) (sym e))) (long p c)
  | inr n ↦ subst (λ (ls : List ℕ). 3 ≤ length ls) (sym (put.others p c n).lits) (long p c)
]

-- the list after the clause at o was deleted
abbrev pub after_delete : List ℕ → ℕ → Db → Db
after_delete words o db = record db {
  counts = tier_count_less (header_at words o).tier db.counts;
  garbage = min (db.garbage + (length (lits_at words o) + 3)) (2 ^ 64 - 1);
}

-- marking a live clause as deleted preserves the invariant of the list of clauses
pub deletes : (words : List ℕ) (db : Db) (words' : List ℕ) (o : ℕ) → DbMatchesBuffer words db → Contains (live_refs words db.refs) o →
    PutsHeader words words' db.refs o (record (header_at words o) { deleted = true }) → DeletesClause words db words' (after_delete words o db) o
deletes words db words' o h c put =
    let tier : Tier = (header_at words o).tier in
    let has : Contains db.refs o = live_in words db.refs o c in
    let live : is_live words o ≡ true = live_is words db.refs o c in
    let dead : is_live words' o ≡ false = ap (λ (x : Header). not x.deleted) put.header_there in
    record {
      put = put;
      holds = record {
        holds_clauses = put.holds_clauses;
        rising = h.rising;
        tiers = length-set db.counts (tier_index tier) (get_or db.counts (tier_index tier) 0 - 1) ∙ h.tiers;
        counts = λ t.
            let q : count_by (is_live_in_tier words' t) db.refs + one (is_live_in_tier words t o) ≡ count_by (is_live_in_tier words t) db.refs + one (is_live_in_tier words' t o) =
            counts_changed words words' db.refs o (record (header_at words o) { deleted = true }) t h.rising has put in
            let gone : one (is_live_in_tier words' t o) ≡ 0 = ap (λ b. one b) (counted_dead words' t o dead) in
            elim (cases_eq (tier_index tier) (tier_index t)) [
              | inl e ↦
                  let yes : one (is_live_in_tier words t o) ≡ 1 = ap (λ b. one b) (counted_live words t o tier live refl ∙ eq-eqb (tier_index tier) (tier_index t) e) in
                  let same : get_or db.counts (tier_index tier) 0 ≡ get_or db.counts (tier_index t) 0 = ap (λ k. get_or db.counts k 0) e in
                  omega (arith, set_there db.counts tier t (get_or db.counts (tier_index tier) 0 - 1) h.tiers e, h.counts t, q, gone, yes, same)
              | inr n ↦
                  let no : one (is_live_in_tier words t o) ≡ 0 = ap (λ b. one b) (counted_live words t o tier live refl ∙ ne_eqb (tier_index tier) (tier_index t) n) in
                  omega (arith, set_elsewhere db.counts tier t (get_or db.counts (tier_index tier) 0 - 1) n, h.counts t, q, gone, no)
            ];
        garbage =
            let q : sum_by (garbage_of words') db.refs + garbage_of words o ≡ sum_by (garbage_of words) db.refs + garbage_of words' o =
            garbage_changed words words' db.refs o (record (header_at words o) { deleted = true }) h.rising has put in
            let before : garbage_of words o ≡ 0 = cond-true (is_live words o) 0 (length (lits_at words o) + 3) live in
            let now : garbage_of words' o ≡ length (lits_at words o) + 3 = cond-false (is_live words' o) 0 (length (lits_at words' o) + 3) dead ∙ ap (λ (ls : List ℕ). length ls + 3) put.lits_there in
            let whole : sum_by (garbage_of words) db.refs + (length (lits_at words o) + 3) ≡ sum_by (garbage_of words') db.refs = omega arith in
            ap (λ x. min (x + (length (lits_at words o) + 3)) (2 ^ 64 - 1)) h.garbage
            ∙ held_more (sum_by (garbage_of words) db.refs) (length (lits_at words o) + 3) (2 ^ 64 - 1)
            ∙ ap (λ x. min x (2 ^ 64 - 1)) whole;
        few = h.few;
        long = long_put words words' db.refs o (record (header_at words o) { deleted = true }) put h.long;
      };
      refs = refl;
      live = filter_without (is_live words) (is_live words') o db.refs (λ x d. elim (cases_eq x o) [
        | inl e ↦ ap (λ z. is_live words' z) e ∙ dead ∙ sym (and_false (is_live words x)) ∙ ap (λ b. is_live words x && not b) (sym (eq-eqb x o e))
        | inr n ↦
            ap (λ (y : Header). not y.deleted) (put.others x d n).header ∙ sym (and_true (is_live words x)) ∙ ap (λ b. is_live words x && not b) (sym (ne_eqb x o n))
      ]);
    }

-- the list after the clause at o moved to another tier
abbrev pub after_move : List ℕ → ℕ → Tier → Db → Db
after_move words o tier db = record db { counts = tier_count_more tier (tier_count_less (header_at words o).tier db.counts) }

-- a header with the same deletion mark leaves the live clauses unchanged
pub live_put : (words words' refs : List ℕ) (o : ℕ) (h : Header) → h.deleted ≡ (header_at words o).deleted → PutsHeader words words' refs o h → live_refs words' refs ≡ live_refs words refs
live_put words words' refs o h e put = filter_same (is_live words) (is_live words') refs (λ x d. elim (cases_eq x o) [
  | inl q ↦ ap (λ z. is_live words' z) q ∙ ap (λ (y : Header). not y.deleted) put.header_there ∙ ap (λ b. not b) e ∙ ap (λ z. is_live words z) (sym q)
  | inr n ↦ ap (λ (y : Header). not y.deleted) (put.others x d n).header
])

garbage_put : (words words' refs : List ℕ) (o : ℕ) (h : Header) → AreStrictlyIncreasing refs → Contains refs o → is_live words o ≡ true → is_live words' o ≡ true → PutsHeader words words' refs o h →
    sum_by (garbage_of words') refs ≡ sum_by (garbage_of words) refs
garbage_put words words' refs o h rising has live live' put =
    let q : sum_by (garbage_of words') refs + garbage_of words o ≡ sum_by (garbage_of words) refs + garbage_of words' o = garbage_changed words words' refs o h rising has put in
    let before : garbage_of words o ≡ 0 = cond-true (is_live words o) 0 (length (lits_at words o) + 3) live in
    let now : garbage_of words' o ≡ 0 = cond-true (is_live words' o) 0 (length (lits_at words' o) + 3) live' in
    omega arith

-- moving a live clause to another tier preserves the invariant of the list of clauses
pub moves : (words : List ℕ) (db : Db) (words' : List ℕ) (o : ℕ) (tier : Tier) → DbMatchesBuffer words db → Contains (live_refs words db.refs) o → tier_index (header_at words o).tier ≢ tier_index tier →
    PutsHeader words words' db.refs o (record (header_at words o) { tier = tier }) → MovesClauseToTier words db words' (after_move words o tier db) o tier
moves words db words' o tier h c differ put =
    let old : Tier = (header_at words o).tier in
    let has : Contains db.refs o = live_in words db.refs o c in
    let live : is_live words o ≡ true = live_is words db.refs o c in
    let live' : is_live words' o ≡ true = ap (λ (x : Header). not x.deleted) put.header_there ∙ live in
    let less : List ℕ = tier_count_less old db.counts in
    let size : length (tier_count_less old db.counts) ≡ 4 = length-set db.counts (tier_index old) (get_or db.counts (tier_index old) 0 - 1) ∙ h.tiers in
    record {
      put = put;
      holds = record {
        holds_clauses = put.holds_clauses;
        rising = h.rising;
        tiers = length-set less (tier_index tier) (get_or less (tier_index tier) 0 + 1) ∙ size;
        counts = λ t.
            let q : count_by (is_live_in_tier words' t) db.refs + one (is_live_in_tier words t o) ≡ count_by (is_live_in_tier words t) db.refs + one (is_live_in_tier words' t o) =
            counts_changed words words' db.refs o (record (header_at words o) { tier = tier }) t h.rising has put in
            let was : is_live_in_tier words t o ≡ (tier_index old == tier_index t) = counted_live words t o old live refl in
            let is : is_live_in_tier words' t o ≡ (tier_index tier == tier_index t) = counted_live words' t o tier live' (ap (λ (x : Header). x.tier) put.header_there) in
            elim (cases_eq (tier_index tier) (tier_index t)) [
              | inl e ↦
                  let n : tier_index old ≢ tier_index t = λ f. differ (f ∙ sym e) in
                  let no : one (is_live_in_tier words t o) ≡ 0 = ap (λ b. one b) (was ∙ ne_eqb (tier_index old) (tier_index t) n) in
                  let yes : one (is_live_in_tier words' t o) ≡ 1 = ap (λ b. one b) (is ∙ eq-eqb (tier_index tier) (tier_index t) e) in
                  let same : get_or less (tier_index tier) 0 ≡ get_or less (tier_index t) 0 = ap (λ k. get_or less k 0) e in
                  let kept : get_or less (tier_index t) 0 ≡ get_or db.counts (tier_index t) 0 = set_elsewhere db.counts old t (get_or db.counts (tier_index old) 0 - 1) n in
                  omega (arith, set_there less tier t (get_or less (tier_index tier) 0 + 1) size e, h.counts t, q, no, yes, same, kept)
              | inr m ↦
                  let none : one (is_live_in_tier words' t o) ≡ 0 = ap (λ b. one b) (is ∙ ne_eqb (tier_index tier) (tier_index t) m) in
                  let there : get_or (set less (tier_index tier) (get_or less (tier_index tier) 0 + 1)) (tier_index t) 0 ≡ get_or less (tier_index t) 0 = set_elsewhere less tier t (get_or less (tier_index tier) 0 + 1) m in
                  elim (cases_eq (tier_index old) (tier_index t)) [
                    | inl e ↦
                        let yes : one (is_live_in_tier words t o) ≡ 1 = ap (λ b. one b) (was ∙ eq-eqb (tier_index old) (tier_index t) e) in
                        let same : get_or db.counts (tier_index old) 0 ≡ get_or db.counts (tier_index t) 0 = ap (λ k. get_or db.counts k 0) e in
                        let taken : get_or less (tier_index t) 0 ≡ get_or db.counts (tier_index old) 0 - 1 = set_there db.counts old t (get_or db.counts (tier_index old) 0 - 1) h.tiers e in
                        omega (arith, there, taken, h.counts t, q, yes, none, same)
                    | inr n ↦
                        let no : one (is_live_in_tier words t o) ≡ 0 = ap (λ b. one b) (was ∙ ne_eqb (tier_index old) (tier_index t) n) in
                        let kept : get_or less (tier_index t) 0 ≡ get_or db.counts (tier_index t) 0 = set_elsewhere db.counts old t (get_or db.counts (tier_index old) 0 - 1) n in
                        omega (arith, there, kept, h.counts t, q, no, none)
                  ]
            ];
        garbage = h.garbage ∙ ap (λ x. min x (2 ^ 64 - 1)) (sym (garbage_put words words' db.refs o (record (header_at words o) { tier = tier }) h.rising has live live' put));
        few = h.few;
        long = long_put words words' db.refs o (record (header_at words o) { tier = tier }) put h.long;
      };
      refs = refl;
      live = live_put words words' db.refs o (record (header_at words o) { tier = tier }) refl put;
    }

-- the list after a clause was added
abbrev pub after_add : ℕ → Tier → Db → Db
after_add o tier db = record db { refs = db.refs ++ o ∷ []; counts = tier_count_more tier db.counts }

-- adding a clause leaves the other clauses unchanged
added_keeps : (words words' : List ℕ) (db : Db) (o : ℕ) (header : Header) (lits : List ℕ) → DbMatchesBuffer words db → AppendsClause words words' o header lits → (p : ℕ) → Contains db.refs p → SameClauseAt words words' p
added_keeps words words' db o header lits h added p c = kept_below words words' db.refs o p header lits h.holds_clauses c added

-- appending a clause to the buffer and to the list preserves the invariant of the list of clauses
pub adds : (words : List ℕ) (db : Db) (words' : List ℕ) (o : ℕ) (header : Header) (lits : List ℕ) → DbMatchesBuffer words db → header.deleted ≡ false → 3 ≤ length lits → length (db.refs ++ o ∷ []) < 2 ^ 64 →
    AppendsClause words words' o header lits → AddsLongClause words db words' (after_add o header.tier db) o header lits
adds words db words' o header lits h new three few added =
    let tier : Tier = header.tier in
    let keeps : (p : ℕ) → Contains db.refs p → SameClauseAt words words' p = added_keeps words words' db o header lits h added in
    let live : is_live words' o ≡ true = ap (λ (x : Header). not x.deleted) added.header_there ∙ ap (λ b. not b) new in
    record {
      added = added;
      holds = record {
        holds_clauses = added.holds_clauses db.refs h.holds_clauses;
        rising = rising_push db.refs o h.rising (λ p c. omega (arith, clause_within words p (h.holds_clauses.clauses p c), added.place));
        tiers = length-set db.counts (tier_index tier) (get_or db.counts (tier_index tier) 0 + 1) ∙ h.tiers;
        counts = λ t.
            let q : count_by (is_live_in_tier words' t) (db.refs ++ o ∷ []) ≡ count_by (is_live_in_tier words' t) db.refs + one (is_live_in_tier words' t o) = sum_by_push (λ p. one (is_live_in_tier words' t p)) db.refs o in
            let same : count_by (is_live_in_tier words' t) db.refs ≡ count_by (is_live_in_tier words t) db.refs =
            sum_same (λ p. one (is_live_in_tier words t p)) (λ p. one (is_live_in_tier words' t p)) db.refs (λ p c. ap (λ b. one b) (kept_counted words words' t p (keeps p c).header)) in
            let is : is_live_in_tier words' t o ≡ (tier_index tier == tier_index t) = counted_live words' t o tier live (ap (λ (x : Header). x.tier) added.header_there) in
            elim (cases_eq (tier_index tier) (tier_index t)) [
              | inl e ↦
                  let yes : one (is_live_in_tier words' t o) ≡ 1 = ap (λ b. one b) (is ∙ eq-eqb (tier_index tier) (tier_index t) e) in
                  let there : get_or db.counts (tier_index tier) 0 ≡ get_or db.counts (tier_index t) 0 = ap (λ k. get_or db.counts k 0) e in
                  omega (arith, set_there db.counts tier t (get_or db.counts (tier_index tier) 0 + 1) h.tiers e, h.counts t, q, same, yes, there)
              | inr n ↦
                  let no : one (is_live_in_tier words' t o) ≡ 0 = ap (λ b. one b) (is ∙ ne_eqb (tier_index tier) (tier_index t) n) in
                  omega (arith, set_elsewhere db.counts tier t (get_or db.counts (tier_index tier) 0 + 1) n, h.counts t, q, same, no)
            ];
        garbage =
            let none : garbage_of words' o ≡ 0 = cond-true (is_live words' o) 0 (length (lits_at words' o) + 3) live in
            let same : sum_by (garbage_of words') db.refs ≡ sum_by (garbage_of words) db.refs = sum_same (garbage_of words) (garbage_of words') db.refs (λ p c. kept_garbage words words' p (keeps p c)) in
            let whole : sum_by (garbage_of words) db.refs ≡ sum_by (garbage_of words') (db.refs ++ o ∷ []) = omega (arith, sum_by_push (garbage_of words') db.refs o) in
            h.garbage ∙ ap (λ x. min x (2 ^ 64 - 1)) whole;
        few = few;
        long = λ p c. elim (Contains-push_cases db.refs o p c) [
          | inl old ↦ subst (λ (ls : List ℕ). 3 ≤ length ls) (sym (keeps p old).lits) (h.long p old)
          | inr e ↦ subst (λ (ls : List ℕ). 3 ≤ length ls) (sym (ap (λ z. lits_at words' z) (sym e) ∙ added.lits_there)) three
        ];
      };
      refs = refl;
      live = filter-append (is_live words') db.refs (o ∷ [])
          ∙ ap (λ (xs : List ℕ). xs ++ live_refs words' (o ∷ [])) (live_same words words' db.refs (λ p c. (keeps p c).header))
          ∙ ap (λ (xs : List ℕ). live_refs words db.refs ++ xs) (cond-true (is_live words' o) (o ∷ []) [] live);
    }

-- a live reference refers to a clause
pub live_clause : (words : List ℕ) (db : Db) (o : ℕ) → DbMatchesBuffer words db → Contains (live_refs words db.refs) o → IsClause words o
live_clause words db o h c = h.holds_clauses.clauses o (live_in words db.refs o c)

-- the count of a tier that the clause is not in can grow by one
pub room_in_tier : (words : List ℕ) (db : Db) (o : ℕ) (tier : Tier) → DbMatchesBuffer words db → Contains (live_refs words db.refs) o → tier_index (header_at words o).tier ≢ tier_index tier →
    get_or (tier_count_less (header_at words o).tier db.counts) (tier_index tier) 0 + 1 < 2 ^ 64
room_in_tier words db o tier h c differ =
    let old : Tier = (header_at words o).tier in
    let no : is_live_in_tier words tier o ≡ false = counted_live words tier o old (live_is words db.refs o c) refl ∙ ne_eqb (tier_index old) (tier_index tier) differ in
    let less : count_by (is_live_in_tier words tier) db.refs < length db.refs = count_less (is_live_in_tier words tier) db.refs o (live_in words db.refs o c) no in
    omega (arith, set_elsewhere db.counts old tier (get_or db.counts (tier_index old) 0 - 1) differ, h.counts tier, less, h.few)

-- deletion, with the length from the header
pub deleted_by : (words : List ℕ) (db : Db) (words' : List ℕ) (o : ℕ) → DbMatchesBuffer words db → Contains (live_refs words db.refs) o →
    PutsHeader words words' db.refs o (record (header_at words o) { deleted = true }) →
    DeletesClause words db words'
    (record db { counts = tier_count_less (header_at words o).tier db.counts; garbage = min (db.garbage + ((header_at words o).len + 3)) (2 ^ 64 - 1) }) o
deleted_by words db words' o h c put =
    subst (λ (n : ℕ). DeletesClause words db words' (record db { counts = tier_count_less (header_at words o).tier db.counts; garbage = min (db.garbage + (n + 3)) (2 ^ 64 - 1) }) o)
    (same_count words o (live_clause words db o h c)) (deletes words db words' o h c put)

-- addition, in the variables of the call
pub added_by : (words : List ℕ) (db db' inside : Db) (words' items : List ℕ) (tier : Tier) (o : ℕ) (header : Header) (lits : List ℕ) → inside ≡ db →
    db' ≡ record inside { refs = items; counts = tier_count_more tier inside.counts } → items ≡ inside.refs ++ o ∷ [] → tier ≡ header.tier →
    DbMatchesBuffer words db → header.deleted ≡ false → 3 ≤ length lits → length items < 2 ^ 64 → AppendsClause words words' o header lits → AddsLongClause words db words' db' o header lits
added_by words db db' inside words' items tier o header lits same is items_is tier_is h new three few added =
    let refs_is : items ≡ db.refs ++ o ∷ [] = items_is ∙ ap (λ (d : Db). d.refs ++ o ∷ []) same in
    let whole : db' ≡ after_add o header.tier db =
    is ∙ ap (λ (d : Db). record d { refs = items; counts = tier_count_more tier d.counts }) same
    ∙ ap (λ (xs : List ℕ). record db { refs = xs; counts = tier_count_more tier db.counts }) refs_is
    ∙ ap (λ (t : Tier). record db { refs = db.refs ++ o ∷ []; counts = tier_count_more t db.counts }) tier_is in
    subst (λ (d : Db). AddsLongClause words db words' d o header lits) (sym whole)
    (adds words db words' o header lits h new three (subst (λ (xs : List ℕ). length xs < 2 ^ 64) refs_is few) added)

-- shortening the clause at o, as `set_header` does it
pub shortens : (words : List ℕ) (db : Db) (words' : List ℕ) (o len : ℕ) → DbMatchesBuffer words db → Contains (live_refs words db.refs) o → 3 ≤ len → len ≤ length (lits_at words o) →
    header_at words' o ≡ record (header_at words o) { len = len } → lits_at words' o ≡ take len (lits_at words o) → ChangesClauseAt words words' o → ShortensClause words db words' o len
shortens words db words' o len h c long fits header lits change =
    let has : Contains db.refs o = live_in words db.refs o c in
    let live : is_live words o ≡ true = live_is words db.refs o c in
    let live' : is_live words' o ≡ true = ap (λ (x : Header). not x.deleted) header ∙ live in
    let others : (p : ℕ) → Contains db.refs p → p ≢ o → SameClauseAt words words' p = λ p d n. change.others p (h.holds_clauses.clauses p d) (h.holds_clauses.apart o p has d (λ e. n (sym e))) in
    let flags : (p : ℕ) → Contains db.refs p → (is_live words' p ≡ is_live words p) × ((header_at words' p).tier ≡ (header_at words p).tier) = λ p d. elim (cases_eq p o) [
      | inl e ↦ (
        ap (λ z. is_live words' z) e ∙ ap (λ (x : Header). not x.deleted) header ∙ ap (λ z. is_live words z) (sym e),
        ap (λ z. (header_at words' z).tier) e ∙ ap (λ (x : Header). x.tier) header ∙ ap (λ z. (header_at words z).tier) (sym e),
      )
      | inr n ↦ (ap (λ (x : Header). not x.deleted) (others p d n).header, ap (λ (x : Header). x.tier) (others p d n).header)
    ] in
    record {
      size = change.size;
      header_there = header;
      lits_there = lits;
      others = others;
      live = filter_same (is_live words) (is_live words') db.refs (λ x d. (flags x d).0);
      holds = record {
        holds_clauses = change.holds_clauses db.refs has h.holds_clauses;
        rising = h.rising;
        tiers = h.tiers;
        counts = λ t.
            h.counts t
            ∙ sym (sum_same (λ p. one (is_live_in_tier words t p)) (λ p. one (is_live_in_tier words' t p)) db.refs
            (λ p d. ap (λ b. one (b && (tier_index (header_at words' p).tier == tier_index t))) (flags p d).0 ∙ ap (λ x. one (is_live words p && (tier_index x == tier_index t))) (flags p d).1));
        garbage = h.garbage
            ∙ ap (λ x. min x (2 ^ 64 - 1)) (sym (sum_same (garbage_of words) (garbage_of words') db.refs (λ p d. elim (cases_eq p o) [
              | inl e ↦
                  ap (λ z. garbage_of words' z) e ∙ cond-true (is_live words' o) 0 (length (lits_at words' o) + 3) live' ∙ sym (cond-true (is_live words o) 0 (length (lits_at words o) + 3) live)
                  ∙ ap (λ z. garbage_of words z) (sym e)
              | inr n ↦ kept_garbage words words' p (others p d n)
            ])));
        few = h.few;
        long = λ p d. elim (cases_eq p o) [
          | inl e ↦
              let n : length (take len (lits_at words o)) ≡ len = length-take-le len (lits_at words o) fits in
              subst (λ (ls : List ℕ). 3 ≤ length ls) (sym (ap (λ z. lits_at words' z) e ∙ lits)) (omega arith)
          | inr n ↦ subst (λ (ls : List ℕ). 3 ≤ length ls) (sym (others p d n).lits) (h.long p d)
        ];
      };
    }
