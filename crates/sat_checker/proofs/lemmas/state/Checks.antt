-- What a propagation check needs from the formula, and what it preserves.
use Rattle.std.proofs.Common.{ℕ, ◌≡◌, ◌∙◌, ◌↔◌, Bool, true, List, map, refl, sym, ap, subst, Result, Ok, Err, IfOk}
use Rattle.std.specs.Result.{OnErr}
use Rattle.sat_checker.specs.Propagation.{PassesCheck}
use Rattle.sat_checker.specs.Stored.{Stored, StoredUnit, bucket}
use Rattle.sat_checker.specs.Accepts.{PassesByHashes}
use Rattle.sat_checker.specs.inner.FormulaView.{HasCheckData, DiffersInNotesAndRoom, RepresentsFormula, AreNumbered, status_in_code}
use Rattle.sat_checker.specs.inner.AssumedRoom.{HasStoredRoom}
use Rattle.sat_checker.specs.inner.SlotView.{slot_ids}
use Rattle.sat_checker.specs.inner.StoreView.{RepresentsClauses}
use Rattle.sat_checker.specs.inner.UnitView.{UnitsAndRoom}
use Rattle.sat_checker.specs.declared.formula.Formula.{Formula}
use Rattle.sat_checker.specs.declared.state.status.Status.{Status}
use Rattle.sat_checker.proofs.lemmas.state.Rooms.{stored_stays}

pub checks_as : (F : Formula) (f : Stored) → RepresentsFormula F f → HasCheckData F f
checks_as F f k = record { clauses = k.clauses; units = ap (map (λ (u : StoredUnit). u.literal)) k.units; room = k.room }

-- a check changes only notes, marks and room, so the formula still represents the same
pub kept_beside : (F G : Formula) (f : Stored) → DiffersInNotesAndRoom F G → RepresentsFormula F f → RepresentsFormula G f
kept_beside F G f e k = record {
  clauses = subst (λ s. RepresentsClauses s f) (sym e.store) k.clauses;
  units = e.units ∙ k.units;
  status = ap status_in_code e.status ∙ k.status;
  numbered = subst (λ s. AreNumbered (slot_ids s.clauses) f.units G.status.last f.next_id) (sym e.store) (subst (λ (s : Status). AreNumbered (slot_ids F.store.clauses) f.units s.last f.next_id) (sym e.status) k.numbered);
  room = stored_stays F.units.room G.units.room f.clauses e.room k.room;
  marks = stored_stays F.marks.room G.marks.room f.clauses e.marks k.marks;
}

pub checked_beside : (F G : Formula) (f : Stored) → DiffersInNotesAndRoom F G → HasCheckData F f → HasCheckData G f
checked_beside F G f e k = record {
  clauses = subst (λ s. RepresentsClauses s f) (sym e.store) k.clauses;
  units = ap (map (λ (u : StoredUnit). u.literal)) e.units ∙ k.units;
  room = stored_stays F.units.room G.units.room f.clauses e.room k.room;
}

-- the state with the formula's units
under : Formula → Stored → Stored
under F f = record f { units = F.units.units }

passes_under : (F : Formula) (f : Stored) (clause hashes : List ℕ) → HasCheckData F f → (b : Bool) → (b ≡ true) ↔ PassesByHashes (under F f) clause hashes → (b ≡ true) ↔ PassesByHashes f clause hashes
unfolding under
passes_under F f clause hashes a b h = subst (λ us. (b ≡ true) ↔ PassesCheck us clause (map (bucket f) hashes)) a.units h

keeps_under : (F : Formula) (f : Stored) → RepresentsClauses F.store f → RepresentsClauses F.store (under F f)
unfolding under
keeps_under F f k = k

units_under : (F : Formula) (f : Stored) → F.units.units ≡ (under F f).units
unfolding under
units_under F f = refl

room_under : (F : Formula) (f : Stored) (room : List ℕ) → HasStoredRoom room f.clauses → HasStoredRoom room (under F f).clauses
unfolding under
room_under F f room h = h

pub checked_as : {E : Type 0} (r : Result Bool E) (F : Formula) (clause hashes : List ℕ)
    → IfOk r (λ b. (f : Stored) → RepresentsClauses F.store f → F.units.units ≡ f.units → HasStoredRoom F.units.room f.clauses → (b ≡ true) ↔ PassesByHashes f clause hashes)
    → IfOk r (λ b. (f : Stored) → HasCheckData F f → (b ≡ true) ↔ PassesByHashes f clause hashes)
checked_as (Ok b) F clause hashes h = λ f a. passes_under F f clause hashes a b (h (under F f) (keeps_under F f a.clauses) (units_under F f) (room_under F f F.units.room a.room))
checked_as (Err e) F clause hashes h = tt

-- an error is impossible if the formula has room for its clauses
pub short_as : {E : Type 0} (r : Result Bool E) (F : Formula) → OnErr r ((f : Stored) → RepresentsClauses F.store f → HasStoredRoom F.units.room f.clauses → ⊥) → OnErr r ((f : Stored) → HasCheckData F f → ⊥)
short_as (Ok b) F h = tt
short_as (Err e) F h = λ f a. h f a.clauses a.room

-- only the clauses and the units matter to a check
pub checks_still : (F : Formula) (units : UnitsAndRoom) (status : Status) (f : Stored) → units ≡ F.units → HasCheckData F f → HasCheckData (record F { units = units; status = status }) f
checks_still F units status f e k = record {
  clauses = k.clauses;
  units = ap (λ (w : UnitsAndRoom). map (λ (u : StoredUnit). u.literal) w.units) e ∙ k.units;
  room = subst (λ (w : UnitsAndRoom). HasStoredRoom w.room f.clauses) (sym e) k.room;
}
