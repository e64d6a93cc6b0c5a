-- What the formula represents while its clauses are not yet filed by new hashes.
use Rattle.std.proofs.Common.{ℕ, ◌≡◌, ◌∙◌, List, sym, subst}
use Rattle.sat_checker.specs.Stored.{Stored, StoredUnit}
use Rattle.sat_checker.specs.inner.FormulaView.{AreNumbered, RepresentsFormula, rehashed_in}
use Rattle.sat_checker.specs.inner.SlotView.{slot_ids}
use Rattle.sat_checker.specs.inner.StoreView.{rehashed}
use Rattle.sat_checker.specs.declared.formula.Formula.{Formula}
use Rattle.sat_checker.specs.declared.state.status.LastClause.{LastClause}
use Rattle.sat_checker.specs.declared.store.Store.{Store}
use Rattle.sat_checker.proofs.lemmas.store.Rehashing.{refiled_ids, refiled_kept}

-- ids stay in order
pub numbered_by : (old new : Store) (units : List StoredUnit) (last : LastClause) (next_id : ℕ) → slot_ids new.clauses ≡ slot_ids old.clauses → AreNumbered (slot_ids (rehashed old).clauses) units last next_id → AreNumbered (slot_ids (rehashed new).clauses) units last next_id
numbered_by old new units last next_id e n = subst (λ ids. AreNumbered ids units last next_id) (refiled_ids old ∙ sym e ∙ sym (refiled_ids new)) n

-- a formula with filed clauses still represents the same after refiling
pub loosened : (F : Formula) (f : Stored) → RepresentsFormula F f → RepresentsFormula (rehashed_in F) f
loosened F f k = record {
  clauses = refiled_kept F.store f k.clauses;
  units = k.units;
  status = k.status;
  numbered = subst (λ ids. AreNumbered ids f.units F.status.last f.next_id) (sym (refiled_ids F.store)) k.numbered;
  room = k.room;
  marks = k.marks;
}

-- after all clauses are filed, the formula itself represents what is stored
pub filed_now : (F : Formula) (store : Store) → store ≡ rehashed F.store → (f : Stored) → RepresentsFormula (rehashed_in F) f → RepresentsFormula (record F { store = store }) f
filed_now F store e f k = subst (λ s. RepresentsFormula (record F { store = s }) f) (sym e) k
