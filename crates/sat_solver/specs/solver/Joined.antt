-- Names, and a search in progress.
use Rattle.std.specs.Prelude.{ℕ, ◌≡◌, Option, None, Some, List}
use Rattle.sat_base.specs.values.Literals.{variable, is_positive, mk_lit}
use Rattle.sat_checker.specs.declared.processing.ProofProcessor.{Ghosts}
use Rattle.sat_solver.specs.proof.ProofView.{steps_of, session_of}
use Rattle.sat_solver.specs.schedule.Solving.{ContextInvariant}
use Rattle.sat_solver.specs.variables.Shared.{SharesIndices}
use Rattle.sat_solver.specs.load.Literals.{AreImages, AreGlobalImages}
use Rattle.sat_solver.specs.variables.Calls.{NamesInvariant}
use Rattle.sat_solver.specs.variables.Variables.{global_at, user_of}
use Rattle.sat_solver.specs.declared.variables.Variables.{Variables}
use Rattle.sat_solver.specs.declared.load.literals.MappedLits.{MappedLits}
use Rattle.sat_solver.specs.declared.context.Context.{Context}

-- `NamesSearchInvariant n c` holds if the invariants of names and of proof and search hold, and the names and the
-- search assign the same indices to proof variables
pub record NamesSearchInvariant {W L : Type 0} {G : Ghosts L} (n : Variables) (c : Context W L G) : Type 0 where
  pub sound : ContextInvariant c
  pub valid : NamesInvariant n (steps_of c.proof)
  pub shares : SharesIndices n c.search

-- `KeepsNamesSearchInvariant b c` holds if any names that satisfy the joint invariant with proof and search `b` also
-- satisfy it with `c`
abbrev pub KeepsNamesSearchInvariant : {W L : Type 0} {G : Ghosts L} → Context W L G → Context W L G → Type 0
KeepsNamesSearchInvariant b c = (n : Variables) → NamesSearchInvariant n b → NamesSearchInvariant n c

-- `AreNamedAssumptions n c user t` holds if the literals `user` over names are the assumptions of the search, where
-- `t.order` has their search literals, and of the proof, where `t.globals` has their proof literals, in order
pub record AreNamedAssumptions {W L : Type 0} {G : Ghosts L} (n : Variables) (c : Context W L G) (user : List ℕ) (t : MappedLits) : Type 0 where
  pub images : AreImages n user t.order.items
  pub lits : c.search.assumptions.lits.items ≡ t.order.items
  pub spelt : AreGlobalImages n user t.globals.items
  pub globals : t.globals.items ≡ (session_of c.proof).assumed

-- the literal over the name with the sign of the literal `l`, or `l` itself if the name is `None`
abbrev pub named_by : Option ℕ → ℕ → ℕ
named_by None l = l
named_by (Some u) l = mk_lit u (is_positive l)

-- the name of a proof variable, or `None` if it has none or no variable is given
abbrev pub user_by : Variables → Option ℕ → Option ℕ
user_by n None = None
user_by n (Some v) = user_of n v

-- the literal code over names for a literal of the search; the search literal itself if the variable of its index has
-- no name
abbrev pub lit_over_names : Variables → ℕ → ℕ
lit_over_names n l = named_by (user_by n (global_at n (variable l))) l
