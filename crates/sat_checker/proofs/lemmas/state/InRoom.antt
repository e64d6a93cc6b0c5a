-- Tests of stored clauses that use only literals that have room.
use Rattle.std.proofs.Common.{ℕ, ◌<◌, ◌≡◌, ◌∙◌, Bool, true, false, cond, ◌||◌, ◌&&◌, eqb, ltb, List, [], ◌∷◌, Option, None, Some, Result, Ok, Err, IfOk, OnErr, ◌↔◌, refl, sym, ap, subst, arith, inl, inr}
use Rattle.std.proofs.lemmas.Bool.{or_cases, eqb-true, true≢false, both_ways}
use Rattle.std.proofs.lemmas.Bool.Decides.{nat_tests}
use Rattle.std.specs.Bool.{MatchBool}
use Rattle.std.specs.List.{list_any}
use Rattle.sat_base.specs.steps.Steps.{DeleteClause, Deletion, Redundant, Satisfied, Simplified}
use Rattle.sat_checker.specs.LiteralSets.{is_among, is_subset_of, canonical, same_literals}
use Rattle.sat_checker.specs.Stored.{Stored, StoredClause}
use Rattle.sat_checker.specs.Storing.{clause_with}
use Rattle.sat_checker.specs.Accepts.{Accepts, FitsModel, IsStrictSubset}
use Rattle.sat_checker.specs.inner.FormulaView.{DiffersInNotesAndRoom, RepresentsFormula, rehashed_in}
use Rattle.sat_checker.specs.inner.ModelTests.{are_all_true}
use Rattle.sat_checker.specs.inner.AssumedRoom.{LiteralsAndRoom, RoomIsKept, AgreeWithinRoom, HasClauseRoom, HasStoredRoom}
use Rattle.sat_checker.specs.inner.StoreView.{store_count_in, rehashed}
use Rattle.sat_checker.specs.declared.formula.Formula.{Formula}
use Rattle.sat_checker.proofs.lemmas.meaning.Clauses.{same}
use Rattle.sat_checker.proofs.lemmas.sets.Canonical.{canonical_among}
use Rattle.sat_checker.proofs.lemmas.sets.Subsets.{all_true}
use Rattle.sat_checker.proofs.lemmas.sets.Parts.{member}
use Rattle.sat_checker.proofs.lemmas.state.Rooms.{stored_stays}
use Rattle.sat_checker.proofs.lemmas.state.Scanning.{same_part}
use Rattle.sat_checker.proofs.lemmas.state.Checks.{kept_beside}

any_agrees : (room xs ys c : List ℕ) → AgreeWithinRoom room xs ys → HasClauseRoom room c → list_any (is_among xs) c ≡ list_any (is_among ys) c
any_agrees room xs ys [] a h = refl
any_agrees room xs ys (l ∷ c) a h = ap (λ b. b || list_any (is_among xs) c) (a l h.0.0) ∙ ap (λ b. is_among ys l || b) (any_agrees room xs ys c a h.1)

-- the literals of a model that have no room do not matter
pub true_agrees : (room xs ys : List ℕ) (cs : List StoredClause) → AgreeWithinRoom room xs ys → HasStoredRoom room cs → are_all_true xs cs ≡ are_all_true ys cs
true_agrees room xs ys [] a h = refl
true_agrees room xs ys (c ∷ cs) a h =
    ap (λ b. (eqb c.irredundant 0 || b) && are_all_true xs cs) (any_agrees room xs ys c.literals a h.0) ∙ ap (λ b. (eqb c.irredundant 0 || list_any (is_among ys) c.literals) && b) (true_agrees room xs ys cs a h.1)

roomy : (room ls : List ℕ) (l : ℕ) → HasClauseRoom room ls → is_among ls l ≡ true → is_among room l ≡ true
roomy room [] l h k = absurd (true≢false (sym k))
roomy room (x ∷ xs) l h k = elim (or_cases (eqb x l) (is_among xs l) k) [ inl e ↦ subst (λ y. is_among room y ≡ true) (eqb-true x l e) h.0.0 | inr m ↦ roomy room xs l h.1 m ]

room_found : (room ls : List ℕ) (c : StoredClause) (cs : List StoredClause) → clause_with ls cs ≡ Some c → HasStoredRoom room cs → HasClauseRoom room ls
room_found room ls c [] e h = absurd cc
room_found room ls c (d ∷ ds) e h = go (same_literals d.literals ls) refl e (room_found room ls c ds)
  where
    go : (b : Bool) → same_literals d.literals ls ≡ b → cond b (Some d) (clause_with ls ds) ≡ Some c → (clause_with ls ds ≡ Some c → HasStoredRoom room ds → HasClauseRoom room ls) → HasClauseRoom room ls
    go true n e ih = subst (HasClauseRoom room) (same d.literals ls n) h.0
    go false n e ih = ih e h.1

-- a clause with a literal that has no room is not stored
pub no_room : (room c : List ℕ) (cs : List StoredClause) → is_subset_of c room ≡ false → HasStoredRoom room cs → (r : Bool) → 0 < store_count_in r (clause_with (canonical c) cs) → ⊥
no_room room c cs n h r k = go (clause_with (canonical c) cs) refl r k
  where
    go : (o : Option StoredClause) → clause_with (canonical c) cs ≡ o → (r : Bool) → 0 < store_count_in r o → ⊥
    go None e true k = absurd (omega arith)
    go None e false k = absurd (omega arith)
    go (Some d) e r k = both_ways (is_subset_of c room) n (all_true (is_among room) c (λ l m. roomy room (canonical c) l (room_found room (canonical c) d cs e h) (canonical_among c l ∙ m)))

pub refused : (f : Stored) (c : List ℕ) (p : Deletion) → ((r : Bool) → 0 < store_count_in r (clause_with (canonical c) f.clauses) → ⊥) → Accepts f (DeleteClause c p) → ⊥
refused f c Redundant n h = n true h
refused f c Satisfied n h = n false h.0
refused f c Simplified n h = n false h.0

-- whether a count is above 0
pub has_count : (b : Bool) (n m : ℕ) → b ≡ ltb 0 n → n ≡ m → MatchBool b (0 < m) (0 < m → ⊥)
has_count b n m e s = go b (e ∙ ap (ltb 0) s)
  where
    go : (b : Bool) → b ≡ ltb 0 m → MatchBool b (0 < m) (0 < m → ⊥)
    go true e = grind (arith, nat_tests)
    go false e = λ l. absurd (grind (arith, nat_tests))

-- strict parts of a clause depend only on its members
pub strict_same_set : (o : Option (List ℕ)) (xs ys : List ℕ) → ((l : ℕ) → is_among xs l ≡ is_among ys l) → IsStrictSubset o xs → IsStrictSubset o ys
strict_same_set None xs ys e h = h
strict_same_set (Some ms) xs ys e h = (same_part ms xs ms ys (λ l. refl) (λ l. sym (e l)) ∙ h.0, same_part xs ms ys ms (λ l. sym (e l)) (λ l. refl) ∙ h.1)

-- if all literals of a clause have room, restricting it to literals with room changes nothing
pub within_room : (room c : List ℕ) (l : ℕ) → is_subset_of c room ≡ true → (is_among room l && is_among c l) ≡ is_among c l
within_room room c l h = go (is_among c l) refl
  where
    none : (b : Bool) → (b && false) ≡ false
    none true = refl
    none false = refl

    go : (b : Bool) → is_among c l ≡ b → (is_among room l && b) ≡ b
    go true e = ap (λ b. b && true) (member c room l h e)
    go false e = none (is_among room l)

-- a check changes only notes, marks and room, so the formula still represents the same
pub refiled_beside : (F G : Formula) (f : Stored) → DiffersInNotesAndRoom F G → RepresentsFormula (rehashed_in F) f → RepresentsFormula (rehashed_in G) f
refiled_beside F G f e k = kept_beside (rehashed_in F) (rehashed_in G) f (record { store = ap rehashed e.store; status = e.status; units = e.units; room = e.room; marks = e.marks }) k

pub marks_kept : (F : Formula) (marks : LiteralsAndRoom) (f : Stored) → RoomIsKept F.marks.room marks.room → RepresentsFormula (rehashed_in F) f → RepresentsFormula (rehashed_in (record F { marks = marks })) f
marks_kept F marks f s k = record { clauses = k.clauses; units = k.units; status = k.status; numbered = k.numbered; room = k.room; marks = stored_stays F.marks.room marks.room f.clauses s k.marks }

pub stays_through : (old mid left : LiteralsAndRoom) (room : List ℕ) → mid ≡ old → left.room ≡ mid.room → RoomIsKept left.room room → RoomIsKept old.room room
stays_through old mid left room e s h l k = h l (ap (λ xs. is_among xs l) s ∙ ap (λ (t : LiteralsAndRoom). is_among t.room l) e ∙ k)

-- the check of a model, stated for another formula that represents the same
pub judged_over : {E : Type 0} (r : Result Bool E) (F G : Formula) (ls : List ℕ) → ((f : Stored) → RepresentsFormula F f → RepresentsFormula G f) → OnErr r ((f : Stored) → RepresentsFormula G f → FitsModel f ls) → OnErr r ((f : Stored) → RepresentsFormula F f → FitsModel f ls)
judged_over (Ok b) F G ls on h = tt
judged_over (Err e) F G ls on h = λ f k. h f (on f k)

pub exact_over : {E : Type 0} (r : Result Bool E) (F G : Formula) (ls : List ℕ) → ((f : Stored) → RepresentsFormula F f → RepresentsFormula G f) → IfOk r (λ b. (f : Stored) → RepresentsFormula G f → (b ≡ true) ↔ FitsModel f ls)
    → IfOk r (λ b. (f : Stored) → RepresentsFormula F f → (b ≡ true) ↔ FitsModel f ls)
exact_over (Ok b) F G ls on h = λ f k. h f (on f k)
exact_over (Err e) F G ls on h = tt
