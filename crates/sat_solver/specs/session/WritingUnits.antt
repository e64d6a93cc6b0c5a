-- What writing units requires of the parts.
use Rattle.std.specs.Prelude.{length}
use Rattle.sat_parts.specs.clause.Db.{live_refs}
use Rattle.sat_parts.specs.clause.Stored.{AreLongClauses}
use Rattle.sat_parts.specs.prop.State.{StateIsConsistent}
use Rattle.sat_parts.specs.prop.Reasons.{ReasonsAreUnit}
use Rattle.sat_parts.specs.declared.parts.SearchState.{SearchState}
use Rattle.sat_parts.specs.parts.Whole.{state}

-- `IsReadyForUnits p` holds if units of level 0 can be written: values, reasons and trail agree, long clauses are well
-- formed, and the reasons on the trail, in order, are unit in turn
pub record IsReadyForUnits (p : SearchState) : Type 0 where
  pub agrees : StateIsConsistent (state p)
  pub clauses : AreLongClauses p.clauses (live_refs p.clauses p.db.refs) (length p.assignment.current)
  pub turns : ReasonsAreUnit p.clauses (live_refs p.clauses p.db.refs) p.binary.implied (state p) 0
