-- Literals that are first in the clause of their reason.
use Rattle.std.specs.Prelude.{ℕ, ◌≡◌, List}
use Rattle.std.specs.List.{Contains}
use Rattle.sat_base.specs.values.Literals.{variable}
use Rattle.sat_parts.specs.declared.prop.graph.ImplNode.{ImplNode}
use Rattle.sat_parts.specs.declared.prop.graph.Reason.TheVariants.{Long}
use Rattle.sat_parts.specs.clause.Stored.{lit_of}
use Rattle.sat_parts.specs.prop.Graphs.{node_of}

-- the clause of a literal's long reason is live and has the literal first
abbrev pub HasFirst : (words live : List ℕ) (nodes : List ImplNode) (l : ℕ) → Type 0
HasFirst words live nodes l = (o : ℕ) → (node_of nodes (variable l)).reason ≡ Long o → Contains live o × (lit_of words o 0 ≡ l)
