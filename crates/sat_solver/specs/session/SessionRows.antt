-- Worked examples of what a session may write. Names and variables are indices. Lists of steps have the newest first.
use Rattle.std.specs.Prelude.{false, Some, None, List, [], ◌∷◌}
use Rattle.sat_base.specs.steps.Steps.{Step, SolverVarName, UserVarName, DeleteVar, AddClause, AtClause, UnitClauses, ChangeHashBits, Model, Assumptions, End}
use Rattle.sat_solver.specs.session.Session.{AreAllowedSteps}

-- steps, newest first: the names and indices 0 and 1 for the variables 0 and 1, and the input clauses [1, 2], [1, -2],
-- [-1, 2] and [-1, -2]
abbrev pub four_clauses : List Step
four_clauses =
    AddClause (1 ∷ 3 ∷ []) ∷ AddClause (1 ∷ 2 ∷ []) ∷ AddClause (0 ∷ 3 ∷ []) ∷ AddClause (0 ∷ 2 ∷ [])
    ∷ SolverVarName 1 (Some 1) ∷ UserVarName 1 (Some 1) ∷ SolverVarName 0 (Some 0) ∷ UserVarName 0 (Some 0) ∷ []

-- steps, newest first: after `four_clauses` and an ask, at width 8, where the hashes of the four clauses collide in
-- pairs (0x44 and 0xe6), [1], [2] and the empty clause are derived; then a further ask, and the end
abbrev pub colliding_steps : List Step
colliding_steps =
    End ∷ Assumptions [] ∷ AtClause false [] (0x44 ∷ []) ∷ UnitClauses ((2, 0xe6) ∷ [])
    ∷ AtClause false (0 ∷ []) (0x44 ∷ 0xe6 ∷ []) ∷ ChangeHashBits 8 ∷ Assumptions [] ∷ four_clauses

-- `CollidingIsAllowed` holds if all of `colliding_steps` may be written: [1], [2] and the empty clause may be derived
-- from the four clauses over two variables, although every hash is that of two of them
abbrev pub CollidingIsAllowed : Type 0
CollidingIsAllowed = AreAllowedSteps colliding_steps

-- steps, newest first: the unit [1]; its name moves from variable 0, now hidden, to variable 1, and the unit [-1] is
-- added over that. On an ask, variable 0 is deleted, so its unit is forgotten, and the model is variable 1 false.
abbrev pub hiding_steps : List Step
hiding_steps =
    End ∷ Assumptions [] ∷ Model (3 ∷ []) ∷ SolverVarName 1 None ∷ DeleteVar 0 ∷ SolverVarName 0 None ∷ Assumptions []
    ∷ AddClause (3 ∷ []) ∷ SolverVarName 1 (Some 1) ∷ UserVarName 1 (Some 0) ∷ UserVarName 0 None
    ∷ AddClause (0 ∷ []) ∷ SolverVarName 0 (Some 0) ∷ UserVarName 0 (Some 0) ∷ []

-- `HiddenIsAllowed` holds if all of `hiding_steps` may be written: the units [1] and [-1] over the same name at
-- different times don't contradict each other, since it refers to two variables
abbrev pub HiddenIsAllowed : Type 0
HiddenIsAllowed = AreAllowedSteps hiding_steps
