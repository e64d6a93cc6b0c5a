-- The notes of a walk preserve the causes of its conflict.
use Rattle.std.proofs.Common.{ℕ, suc, ◌+◌, ◌<◌, ◌≤◌, ◌≡◌, Bool, true, false, not, ◌||◌, cond, eqb, List, [], ◌∷◌, ◌++◌, length, drop, get_or, map, filter, refl, sym, ◌∙◌, ap, subst, arith, Some, None, inl, inr}
use Rattle.std.proofs.lemmas.List.{append_assoc, append-nil, map-append, drop_more}
use Rattle.std.proofs.lemmas.Bool.{both_ways}
use Rattle.std.specs.List.{AllByRecursion, list_any}
use Rattle.sat_checker.specs.Looks.{total_length}
use Rattle.sat_checker.specs.Stored.{StoredClause}
use Rattle.sat_base.specs.values.Literals.{negated}
use Rattle.sat_checker.specs.LiteralSets.{is_among, is_tautology}
use Rattle.sat_checker.specs.inner.Walk.{ClauseState, falsified, becomes_unit, neither, clause_state, state_by_open, not_false, negations_assumed}
use Rattle.sat_checker.specs.announcements.Needed.{with_cause, causes_by, conflict_causes}
use Rattle.sat_checker.specs.announcements.Following.{with_causes}
use Rattle.sat_checker.specs.inner.SlotView.{Slot, slot_at, literals_at, is_filed, places_from, places_of}
use Rattle.sat_checker.specs.inner.WalkNotes.{WalkNotes}
use Rattle.sat_checker.specs.inner.Reasons.{clause_at, clauses_by_hash, clauses_by_hashes, reason_in, reasons_in, conflict_at, conflict_length, noted_length, IsConflictPlace, PreservesCauses, ReachesConflict, ExplainsConflict}
use Rattle.sat_checker.specs.declared.rup.passed.Reason as noted
use Rattle.sat_checker.proofs.lemmas.propagation.Walking.{walking}
use Rattle.sat_checker.proofs.lemmas.propagation.Denied.{denied_none, denied_some}
use Rattle.sat_checker.proofs.lemmas.announcements.Following.{passed_open, passed_over, passed_conflict}

all_push : (P : noted.Reason → Type 0) (rs : List noted.Reason) (r : noted.Reason) → AllByRecursion P rs → P r → AllByRecursion P (rs ++ r ∷ [])
all_push P [] r h p = (p, tt)
all_push P (x ∷ xs) r h p = (h.0, all_push P xs r h.1 p)

length_push : (ss : List Slot) (rs : List noted.Reason) (r : noted.Reason) → total_length (map (λ x. literals_at ss x.place) (rs ++ r ∷ [])) ≡ total_length (map (λ x. literals_at ss x.place) rs) + length (literals_at ss r.place)
length_push ss [] r = omega arith
length_push ss (x ∷ xs) r = let e : total_length (map (λ y. literals_at ss y.place) (xs ++ r ∷ [])) ≡ total_length (map (λ y. literals_at ss y.place) xs) + length (literals_at ss r.place) = length_push ss xs r in omega arith

-- the notes after one clause, by its verdict
module _ (ss : List Slot) (old new : WalkNotes) (assumed : List ℕ) (place : ℕ) (inside : place < length ss) where
  pub leads_open : (l : ℕ) → clause_state assumed (literals_at ss place) ≡ becomes_unit l → new.reasons ≡ old.reasons ++ (record { place = place; lit = l }) ∷ [] → PreservesCauses ss old assumed (clause_at ss place ∷ []) new (l ∷ assumed) []
  leads_open l v e =
      let r : noted.Reason = record { place = place; lit = l } in
      let notes : reasons_in ss new ≡ reasons_in ss old ++ reason_in ss r ∷ [] = ap (map (reason_in ss)) e ∙ map-append (reason_in ss) old.reasons (r ∷ []) in
      record {
        same = λ rest. passed_open (with_causes (reasons_in ss old) (conflict_causes assumed (clause_at ss place ∷ rest))) (reasons_in ss old) assumed (clause_at ss place) rest refl l v
            ∙ ap (λ rs. with_causes rs (conflict_causes (l ∷ assumed) rest)) (sym notes);
        there = λ h. subst (AllByRecursion (λ x. x.place < length ss)) (sym e) (all_push (λ x. x.place < length ss) old.reasons r h inside);
      }

  pub leads_over : clause_state assumed (literals_at ss place) ≡ neither → PreservesCauses ss old assumed (clause_at ss place ∷ []) old assumed []
  leads_over v = record {
    same = λ rest. passed_over (with_causes (reasons_in ss old) (conflict_causes assumed (clause_at ss place ∷ rest))) (reasons_in ss old) assumed (clause_at ss place) rest refl v;
    there = λ h. h;
  }

  pub ends_there : clause_state assumed (literals_at ss place) ≡ falsified → new.reasons ≡ old.reasons → new.conflict ≡ Some place → ReachesConflict ss old assumed (clause_at ss place ∷ []) new
  ends_there v e k = record {
    same = λ rest. passed_conflict (with_causes (reasons_in ss old) (conflict_causes assumed (clause_at ss place ∷ rest))) (reasons_in ss old) assumed (clause_at ss place) rest refl v
        ∙ ap (λ rs. with_causes (map (reason_in ss) rs) (conflict_at ss (Some place))) (sym e) ∙ ap (λ c. with_causes (reasons_in ss new) (conflict_at ss c)) (sym k);
    there = λ h. subst (AllByRecursion (λ x. x.place < length ss)) (sym e) h;
    reached = subst (IsConflictPlace ss) (sym k) inside;
  }

  pub read_open : (l : ℕ) → new.reasons ≡ old.reasons ++ (record { place = place; lit = l }) ∷ [] → new.conflict ≡ old.conflict → noted_length ss new ≤ noted_length ss old + length (literals_at ss place)
  read_open l e k =
      let r : noted.Reason = record { place = place; lit = l } in
      let n : total_length (map (λ x. literals_at ss x.place) new.reasons) ≡ total_length (map (λ x. literals_at ss x.place) old.reasons) + length (literals_at ss place) =
      ap (λ rs. total_length (map (λ (x : noted.Reason). literals_at ss x.place) rs)) e ∙ length_push ss old.reasons r in
      let c : conflict_length ss new.conflict ≡ conflict_length ss old.conflict = ap (conflict_length ss) k in
      omega arith

  pub read_conflict : new.reasons ≡ old.reasons → new.conflict ≡ Some place → noted_length ss new ≤ noted_length ss old + length (literals_at ss place)
  read_conflict e k =
      let n : total_length (map (λ x. literals_at ss x.place) new.reasons) ≡ total_length (map (λ x. literals_at ss x.place) old.reasons) =
      ap (λ rs. total_length (map (λ (x : noted.Reason). literals_at ss x.place) rs)) e in
      let c : conflict_length ss new.conflict ≡ length (literals_at ss place) = ap (conflict_length ss) k in
      omega arith

-- a walk, and then a walk over the clauses that it left
module _ (ss : List Slot) (old mid new : WalkNotes) (assumed more most : List ℕ) (cs front left : List StoredClause) (first : PreservesCauses ss old assumed cs mid more (front ++ left)) where
  pub leads_further : PreservesCauses ss mid more front new most [] → PreservesCauses ss old assumed cs new most left
  leads_further then = record {
    same = λ rest. first.same rest ∙ ap (λ xs. with_causes (reasons_in ss mid) (conflict_causes more xs)) (append_assoc front left rest) ∙ then.same (left ++ rest);
    there = λ h. then.there (first.there h);
  }

  pub ends_further : ReachesConflict ss mid more front new → ReachesConflict ss old assumed cs new
  ends_further then = record {
    same = λ rest. first.same rest ∙ ap (λ xs. with_causes (reasons_in ss mid) (conflict_causes more xs)) (append_assoc front left rest) ∙ then.same (left ++ rest);
    there = λ h. then.there (first.there h);
    reached = then.reached;
  }

pub leads_itself : (ss : List Slot) (passed : WalkNotes) (assumed : List ℕ) (cs : List StoredClause) → PreservesCauses ss passed assumed cs passed assumed cs
leads_itself ss passed assumed cs = record { same = λ rest. refl; there = λ h. h }

-- the clauses with a hash are the clauses at its places
filed_from : (ss all : List Slot) (k hash : ℕ) → ((i : ℕ) → slot_at all (k + i) ≡ slot_at ss i) → clauses_by_hash hash ss ≡ map (clause_at all) (places_from k hash ss)
filed_from [] all k hash h = refl
filed_from (s ∷ ss) all k hash h =
    let here : clause_at all k ≡ s.clause = let z : k + 0 ≡ k = omega arith in ap (clause_at all) (sym z) ∙ ap (λ (x : Slot). x.clause) (h 0) in
    go (is_filed hash s) here (filed_from ss all (k + 1) hash (λ i. let z : (k + 1) + i ≡ k + suc i = omega arith in ap (slot_at all) z ∙ h (suc i)))
  where
    go : (b : Bool) → clause_at all k ≡ s.clause → clauses_by_hash hash ss ≡ map (clause_at all) (places_from (k + 1) hash ss)
        → map (λ x. x.clause) (cond b (s ∷ filter (is_filed hash) ss) (filter (is_filed hash) ss)) ≡ map (clause_at all) (cond b (k ∷ places_from (k + 1) hash ss) (places_from (k + 1) hash ss))
    go true e ih = ap (λ c. c ∷ clauses_by_hash hash ss) (sym e) ∙ ap (λ cs. clause_at all k ∷ cs) ih
    go false e ih = ih

pub filed_at : (hash : ℕ) (ss : List Slot) (places : List ℕ) → places_of hash ss ≡ places → clauses_by_hash hash ss ≡ map (clause_at ss) places
filed_at hash ss places e = filed_from ss ss 0 hash (λ i. let z : 0 + i ≡ i = omega arith in ap (slot_at ss) z) ∙ ap (map (clause_at ss)) e

-- the first of the remaining places, or hashes, and those after it
module _ (ss : List Slot) (places : List ℕ) (i : ℕ) (inside : i < length places) where
  pub next_clause : map (clause_at ss) (drop i places) ≡ clause_at ss (get_or places i 0) ∷ map (clause_at ss) (drop (i + 1) places)
  next_clause = ap (map (clause_at ss)) (drop_more places i 0 inside)

  pub next_named : clauses_by_hashes (drop i places) ss ≡ clauses_by_hash (get_or places i 0) ss ++ clauses_by_hashes (drop (i + 1) places) ss
  next_named = ap (λ hs. clauses_by_hashes hs ss) (drop_more places i 0 inside)

module _ (ss : List Slot) (old mid new : WalkNotes) (assumed more most : List ℕ) where
  -- the first place of a hash, and the places after it
  module _ (hash place : ℕ) (places : List ℕ) (all : places_of hash ss ≡ place ∷ places) where
    pub leads_first : PreservesCauses ss old assumed (clause_at ss place ∷ []) new most [] → PreservesCauses ss old assumed (clauses_by_hash hash ss) new most (map (clause_at ss) places)
    leads_first h =
        subst (λ cs. PreservesCauses ss old assumed cs new most (map (clause_at ss) places)) (sym (filed_at hash ss (place ∷ places) all))
        (leads_further ss old old new assumed assumed most (map (clause_at ss) (place ∷ places)) (clause_at ss place ∷ []) (map (clause_at ss) places) (leads_itself ss old assumed (map (clause_at ss) (place ∷ places))) h)

    pub ends_first : ReachesConflict ss old assumed (clause_at ss place ∷ []) new → ReachesConflict ss old assumed (clauses_by_hash hash ss) new
    ends_first h =
        subst (λ cs. ReachesConflict ss old assumed cs new) (sym (filed_at hash ss (place ∷ places) all))
        (ends_further ss old old new assumed assumed most (map (clause_at ss) (place ∷ places)) (clause_at ss place ∷ []) (map (clause_at ss) places) (leads_itself ss old assumed (map (clause_at ss) (place ∷ places))) h)

  -- the place or hash at index `i` is visited next
  module _ (numbers : List ℕ) (i : ℕ) (inside : i < length numbers) (cs : List StoredClause) where
    pub leads_next : PreservesCauses ss old assumed cs mid more (map (clause_at ss) (drop i numbers)) → PreservesCauses ss mid more (clause_at ss (get_or numbers i 0) ∷ []) new most [] → PreservesCauses ss old assumed cs new most (map (clause_at ss) (drop (i + 1) numbers))
    leads_next h k =
        leads_further ss old mid new assumed more most cs (clause_at ss (get_or numbers i 0) ∷ []) (map (clause_at ss) (drop (i + 1) numbers))
        (subst (λ xs. PreservesCauses ss old assumed cs mid more xs) (next_clause ss numbers i inside) h) k

    pub ends_next : PreservesCauses ss old assumed cs mid more (map (clause_at ss) (drop i numbers)) → ReachesConflict ss mid more (clause_at ss (get_or numbers i 0) ∷ []) new → ReachesConflict ss old assumed cs new
    ends_next h k =
        ends_further ss old mid new assumed more most cs (clause_at ss (get_or numbers i 0) ∷ []) (map (clause_at ss) (drop (i + 1) numbers))
        (subst (λ xs. PreservesCauses ss old assumed cs mid more xs) (next_clause ss numbers i inside) h) k

    pub leads_hash : PreservesCauses ss old assumed cs mid more (clauses_by_hashes (drop i numbers) ss) → PreservesCauses ss mid more (clauses_by_hash (get_or numbers i 0) ss) new most [] → PreservesCauses ss old assumed cs new most (clauses_by_hashes (drop (i + 1) numbers) ss)
    leads_hash h k =
        leads_further ss old mid new assumed more most cs (clauses_by_hash (get_or numbers i 0) ss) (clauses_by_hashes (drop (i + 1) numbers) ss)
        (subst (λ xs. PreservesCauses ss old assumed cs mid more xs) (next_named ss numbers i inside) h) k

    pub ends_hash : PreservesCauses ss old assumed cs mid more (clauses_by_hashes (drop i numbers) ss) → ReachesConflict ss mid more (clauses_by_hash (get_or numbers i 0) ss) new → ReachesConflict ss old assumed cs new
    ends_hash h k =
        ends_further ss old mid new assumed more most cs (clauses_by_hash (get_or numbers i 0) ss) (clauses_by_hashes (drop (i + 1) numbers) ss)
        (subst (λ xs. PreservesCauses ss old assumed cs mid more xs) (next_named ss numbers i inside) h) k

pub read_further : (noted mid more before between after n : ℕ) → mid + before ≤ noted + between → after ≡ between + n → more ≤ mid + n → more + before ≤ noted + after
read_further noted mid more before between after n k e h = omega arith

pub ruleset noting = (walking, leads_itself, leads_first, ends_first, leads_next, ends_next)

-- What clauses rest on depends on which literals are assumed, not on their order.
abbrev SameMembers : List ℕ → List ℕ → Type 0
SameMembers us vs = (l : ℕ) → is_among us l ≡ is_among vs l

not_false_same : (us vs clause : List ℕ) → SameMembers us vs → not_false us clause ≡ not_false vs clause
not_false_same us vs [] same = refl
not_false_same us vs (l ∷ ls) same =
    ap (λ b. cond (not b) (l ∷ not_false us ls) (not_false us ls)) (same (negated l)) ∙ ap (λ xs. cond (not (is_among vs (negated l))) (l ∷ xs) xs) (not_false_same us vs ls same)

open_same : (us vs ls : List ℕ) → SameMembers us vs → state_by_open us ls ≡ state_by_open vs ls
open_same us vs [] same = refl
open_same us vs (l ∷ []) same = ap (λ b. cond b neither (becomes_unit l)) (same l)
open_same us vs (l ∷ m ∷ ls) same = refl

pub ground_same : (cs : List StoredClause) (us vs : List ℕ) → ((l : ℕ) → is_among us l ≡ is_among vs l) → conflict_causes us cs ≡ conflict_causes vs cs
ground_same [] us vs same = refl
ground_same (c ∷ cs) us vs same =
    ap (λ v. causes_by v c us (λ more. conflict_causes more cs)) (ap (state_by_open us) (not_false_same us vs c.literals same) ∙ open_same us vs (not_false vs c.literals) same)
    ∙ go (ground_same cs) (clause_state vs c.literals)
  where
    go : ((xs ys : List ℕ) → SameMembers xs ys → conflict_causes xs cs ≡ conflict_causes ys cs) → (v : ClauseState) → causes_by v c us (λ more. conflict_causes more cs) ≡ causes_by v c vs (λ more. conflict_causes more cs)
    go ih falsified = refl
    go ih (becomes_unit l) = ap (with_cause l c) (ih (l ∷ us) (l ∷ vs) (λ m. ap (λ b. eqb l m || b) (same m)))
    go ih neither = ih us vs same

both_same : (a b : Bool) → (a ≡ true → b ≡ true) → (b ≡ true → a ≡ true) → a ≡ b
both_same true b f g = sym (f refl)
both_same false true f g = g refl
both_same false false f g = refl

-- A walk that starts without notes, with the clause's literals false, explains the causes of its conflict.
pub explained : (ss : List Slot) (old new : WalkNotes) (units clause more hashes : List ℕ) → old.reasons ≡ [] → negations_assumed units clause ≡ Some more → ReachesConflict ss old more (clauses_by_hashes hashes ss) new
    → ExplainsConflict ss new (conflict_causes (map negated clause ++ units) (clauses_by_hashes hashes ss))
explained ss old new units clause more hashes e d h =
    let k = denied_some clause units more d in
    let none : reasons_in ss old ≡ [] = ap (map (reason_in ss)) e in
    record {
      same = ground_same (clauses_by_hashes hashes ss) (map negated clause ++ units) more (λ l. both_same (is_among (map negated clause ++ units) l) (is_among more l) (k.enough.each l) (k.only.each l))
          ∙ ap (conflict_causes more) (sym (append-nil (clauses_by_hashes hashes ss))) ∙ ap (λ rs. with_causes rs (conflict_causes more (clauses_by_hashes hashes ss ++ []))) (sym none) ∙ h.same [];
      there = h.there (subst (AllByRecursion (λ x. x.place < length ss)) (sym e) tt);
      reached = h.reached;
    }

-- if a clause is no tautology and no unit satisfies it, all its negated literals can be assumed
pub never_reached : (clause units : List ℕ) → negations_assumed units clause ≡ None → list_any (is_among units) clause ≡ false → is_tautology clause ≡ false → ⊥
never_reached clause units e u t = elim (denied_none clause units e) [ inl a ↦ both_ways (list_any (is_among units) clause) u a | inr b ↦ both_ways (is_tautology clause) t b ]
