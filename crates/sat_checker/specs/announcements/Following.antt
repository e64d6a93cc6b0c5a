-- How a conflict is followed backwards over the reasons that were noted.
use Rattle.std.specs.Prelude.{List, [], ◌∷◌}
use Rattle.sat_checker.specs.announcements.Needed.{ConflictCauses, with_cause}
use Rattle.sat_checker.specs.announcements.Promises.{Reason}

-- The causes `g` of a conflict, together with what they need of these reasons. The reasons are in the order visited,
-- and are followed from the last to the first.
abbrev pub with_causes : List Reason → ConflictCauses → ConflictCauses
with_causes [] g = g
with_causes (r ∷ rs) g = with_cause r.literal r.clause (with_causes rs g)
