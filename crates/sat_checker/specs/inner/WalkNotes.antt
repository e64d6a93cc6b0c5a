-- What a walk notes.
use Rattle.std.specs.Prelude.{ℕ, Bool, List, Option}
use Rattle.sat_checker.specs.declared.rup.passed.Reason.{Reason}

-- What a walk notes: the reasons in the order visited, the place of the falsified clause, if any, and whether the notes
-- are unusable because memory ran out.
pub record WalkNotes : Type 0 where
  pub reasons : List Reason
  pub conflict : Option ℕ
  pub lost : Bool
