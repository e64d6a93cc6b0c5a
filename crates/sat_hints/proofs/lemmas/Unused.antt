-- Lines that make a variable new, and other lines.
use Rattle.std.proofs.Common.{ℕ, ◌≡◌, List, [], Option, None, Some, refl, sym, ◌∙◌}
use Rattle.sat_hints.specs.Lines.{Line, Fresh}
use Rattle.sat_hints.specs.Hints.{clauses_under, IsInOrder, named_ids, assumed_by, RenewsUsedVariable}

-- a line that makes a variable new has no id, names no clause and assumes nothing
pub uses_in_order : (earlier : List Line) (line : Line) → RenewsUsedVariable earlier line → IsInOrder earlier line
uses_in_order earlier (Fresh v) u = tt
uses_in_order earlier e u = absurd u

-- a line that uses a variable names no clause
pub uses_none : (earlier : List Line) (line : Line) → RenewsUsedVariable earlier line → clauses_under (named_ids line) earlier ≡ Some []
uses_none earlier (Fresh v) u = refl
uses_none earlier e u = absurd u

-- a line that uses a variable assumes nothing
pub uses_nothing : (earlier : List Line) (line : Line) → RenewsUsedVariable earlier line → assumed_by line ≡ None
uses_nothing earlier (Fresh v) u = refl
uses_nothing earlier e u = absurd u

-- a line that assumes literals makes no variable new
pub unused_assuming : (earlier : List Line) (line : Line) (assumed : List ℕ) → assumed_by line ≡ Some assumed → RenewsUsedVariable earlier line → ⊥
unused_assuming earlier line assumed e u = let f : ◌≡◌ {A = Option (List ℕ)} None (Some assumed) = sym (uses_nothing earlier line u) ∙ e in cc
