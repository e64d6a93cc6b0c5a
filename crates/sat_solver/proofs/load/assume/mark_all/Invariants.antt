use Rattle.std.proofs.Common.{◌≡◌, length, get_or}
use Rattle.sat_store.specs.variables.VarData.{unused_variable}
use Rattle.sat_solver.proofs.lemmas.variables.Assumed.{Marking}
use Rattle.sat_solver.proofs.load.assume.mark_all.Given as goal

abbrev pub invariant-loop-lit : goal.invariant-loop-lit
invariant-loop-lit l = (length l.list.items ≡ length l.fn.list.items) × Marking (λ v. get_or l.fn.list.items v unused_variable) (λ v. get_or l.list.items v unused_variable) l.lits l.lit-index l.assumed
