-- Literals over names, and the literals of the search and of the proof that represent them.
use Rattle.std.specs.Prelude.{ℕ, ◌+◌, ◌<◌, ◌≡◌, Some, List, map, length, get_or}
use Rattle.std.specs.List.{AllByRecursion}
use Rattle.sat_base.specs.values.Literals.{variable, is_positive, mk_lit}
use Rattle.sat_base.specs.script.Script.{Literal, Among}
use Rattle.sat_base.specs.script.ScriptState.{introduce_all}
use Rattle.sat_base.specs.steps.Steps.{Step}
use Rattle.sat_checker.specs.LiteralSets.{canonical}
use Rattle.sat_solver.specs.session.Session.{session_after}
use Rattle.sat_solver.specs.session.LiveClauses.{with_var}
use Rattle.sat_store.specs.declared.data.SamplingMode.TheVariants as kept
use Rattle.sat_solver.specs.variables.Variables.{data_at, global_of, solver_of}
use Rattle.sat_solver.specs.variables.Naming.{ExtendsNames}
use Rattle.sat_solver.specs.variables.Refusing.{names_in}
use Rattle.sat_checker.specs.matching.Expected.{steps_introducing}
use Rattle.sat_solver.specs.variables.Search.{KeepsSearch, GivesIndices}
use Rattle.sat_solver.specs.variables.Calls.{ChangesScriptState}
use Rattle.sat_solver.specs.session.AllowedSteps.{OnlyAllowedSteps}
use Rattle.sat_solver.specs.variables.NamingSteps.{IsLiteralsStep}
use Rattle.sat_solver.specs.declared.variables.Variables.{Variables}
use Rattle.sat_solver.specs.declared.load.literals.MappedLits.{MappedLits}

-- the literal over names for a code 2v + sign: names are counted from 1, so its name is v + 1
abbrev pub user_literal : ℕ → Literal
user_literal l = record { name = variable l + 1; positive = is_positive l }

-- `IsProofLiteralOf n l code` holds if the proof literal `code` represents the literal `l` over names; its variable
-- is of mode sample and has an index
pub record IsProofLiteralOf (n : Variables) (l code : ℕ) : Type 0 where
  pub variable_is : ℕ
  pub index_is : ℕ
  pub named : global_of n (variable l) ≡ Some variable_is
  pub indexed : solver_of n variable_is ≡ Some index_is
  pub sampled : (data_at n variable_is).sampling_mode ≡ kept.Sample
  pub is : code ≡ mk_lit variable_is (is_positive l)

-- `SameLiterals n user clause` holds if `clause`, literal codes over proof variables, represents exactly the literals
-- `user` over names, in any order and with any repetitions; all names are in use, of mode sample, and have indices
pub record SameLiterals (n : Variables) (user clause : List ℕ) : Type 0 where
  pub there : AllByRecursion (λ l. (code : ℕ) × IsProofLiteralOf n l code × Among code clause) user
  pub only : AllByRecursion (λ code. (l : ℕ) × IsProofLiteralOf n l code × Among l user) clause

-- `IsImage n l code` holds if the search literal `code` represents the literal `l` over names: same sign, and the index
-- of the proof variable that the name of `l` refers to
pub record IsImage (n : Variables) (l code : ℕ) : Type 0 where
  pub variable_is : ℕ
  pub index_is : ℕ
  pub named : global_of n (variable l) ≡ Some variable_is
  pub indexed : solver_of n variable_is ≡ Some index_is
  pub is : code ≡ mk_lit index_is (is_positive l)

-- `AreImages n user lits` holds if `lits` has the search literal for each literal over names in `user`, at the same
-- position
pub record AreImages (n : Variables) (user lits : List ℕ) : Type 0 where
  pub count : length lits ≡ length user
  pub each : (k : ℕ) → k < length user → IsImage n (get_or user k 0) (get_or lits k 0)

-- `AreGlobalImages n user codes` holds if `codes` has the proof literal for each literal over names in `user`, at the
-- same position
pub record AreGlobalImages (n : Variables) (user codes : List ℕ) : Type 0 where
  pub count : length codes ≡ length user
  pub each : (k : ℕ) → k < length user → (v : ℕ) × (global_of n (variable (get_or user k 0)) ≡ Some v) × (get_or codes k 0 ≡ mk_lit v (is_positive (get_or user k 0)))

-- `IsSampled n user` holds if the variable that the name `user` refers to is of mode sample, or the name is not in use
abbrev pub IsSampled : Variables → ℕ → Type 0
IsSampled n user = (v : ℕ) → global_of n user ≡ Some v → (data_at n v).sampling_mode ≡ kept.Sample

-- `HaveNoWitness n ls` holds if the names of the literals `ls` are of mode sample or not in use
abbrev pub HaveNoWitness : Variables → List ℕ → Type 0
HaveNoWitness n = AllByRecursion (λ l. IsSampled n (variable l))

-- the proof variable that has index `x`, or had it last; 0 if there was none
abbrev pub global_with_index : Variables → ℕ → ℕ
global_with_index n x = get_or n.globals.items x 0

-- `IntroducesLiterals old new from to user t` holds if the names of the literals `user` were introduced and their
-- variables have indices: `t.order` has the search literals, in order, `t.given` the indices given. Clauses, units,
-- assumptions and width of the session are unchanged.
pub record IntroducesLiterals (old new : Variables) (from to : List Step) (user : List ℕ) (t : MappedLits) : Type 0 where
  pub does : ChangesScriptState old new from to (introduce_all (names_in user)) (steps_introducing (names_in user))
  pub extends : ExtendsNames old new
  pub images : AreImages new user t.order.items
  pub gives : GivesIndices old new (session_after from) t.given.items
  pub search : KeepsSearch (session_after from) (session_after to)
  pub comes : OnlyAllowedSteps (IsLiteralsStep (names_in user)) from to

-- `MapsClause new t` holds if `t.lits` has the search literals of `t.order`, sorted by code and without repetitions,
-- and `t.globals` has the proof literals for them, in the same order
pub record MapsClause (new : Variables) (t : MappedLits) : Type 0 where
  pub lits : t.lits.items ≡ canonical t.order.items
  pub globals : t.globals.items ≡ map (with_var (global_with_index new)) t.lits.items
