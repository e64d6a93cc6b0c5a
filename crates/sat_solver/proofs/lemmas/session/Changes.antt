-- How a step changes a session: it changes the state of the proof.
use Rattle.std.specs.Prelude.{ℕ, Bool, Option, List, if◌then◌else◌}
use Rattle.sat_base.specs.steps.Steps.{Step}
use Rattle.sat_checker.specs.Contents.{ProofState, with_one_count, without_one_count, with_units_in_state, with_set_in_state, with_clause_in_state, with_known_in_state, with_literals_known_in_state, with_solver_name_in_state, state_after}
use Rattle.sat_solver.specs.session.Session.{Session, proof_state, session_with}

-- applies a change of the proof state to a session
abbrev pub onto : (ProofState → ProofState) → Session → Session
onto change s = session_with s.last (change (proof_state s))

-- chooses one of two sessions; the set that was derived last is that of the first
abbrev pub session_if : Bool → Session → Session → Session
session_if b s t = session_with s.last (if b then proof_state s else proof_state t)

abbrev pub with_live : Bool → List ℕ → Session → Session
with_live redundant set = onto (with_one_count redundant set)

abbrev pub without_live : Bool → List ℕ → Session → Session
without_live redundant set = onto (without_one_count redundant set)

abbrev pub with_facts : List ℕ → Session → Session
with_facts ls = onto (with_units_in_state ls)

abbrev pub with_sorted : Bool → List ℕ → Session → Session
with_sorted redundant set = onto (with_set_in_state redundant set)

abbrev pub with_live_clause : Bool → List ℕ → Session → Session
with_live_clause redundant clause = onto (with_clause_in_state redundant clause)

abbrev pub knowing : List ℕ → Session → Session
knowing vs = onto (with_known_in_state vs)

abbrev pub knowing_literals : List ℕ → Session → Session
knowing_literals ls = onto (with_literals_known_in_state ls)

abbrev pub session_with_name : ℕ → Option ℕ → Session → Session
session_with_name v name = onto (with_solver_name_in_state v name)

abbrev pub changed : Step → Session → Session
changed step = onto (state_after step)
