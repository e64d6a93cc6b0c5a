-- The checker of proofs, as matching sees it.
use Rattle.sat_checker.specs.Accepts.{Accepts, ready_after}
use Rattle.sat_checker.specs.Stored.{is_known}
use Rattle.sat_checker.specs.matching.Checking.{CheckerRules}

-- The rules of this crate's checker: which steps it accepts after others, whether these record unsat, and which
-- variables are then known.
abbrev pub checker_rules : CheckerRules
checker_rules = record { Accepts = λ earlier step. Accepts (ready_after earlier) step; unsat = λ earlier. (ready_after earlier).unsat; knows = λ earlier v. is_known v (ready_after earlier) }
