use Rattle.std.proofs.lemmas.Grind.{common_steps}
use Rattle.std.proofs.Common.{arith}
use Rattle.std.proofs.Common.{ℕ, List, ◌∙◌, ap, sym, refl, inl, length}
use Rattle.sat_parts.specs.prop.Graphs.{node_of}
use Rattle.sat_parts.specs.prop.State.{PropagationState, IsRemovedUnit}
use Rattle.sat_parts.proofs.lemmas.parts.ClearLemmas.{removed_by, agrees_dropped, sound_again, again_values, again_left}
use Rattle.sat_parts.specs.parts.Whole.{state}
use Rattle.sat_parts.proofs.lemmas.parts.LoadFrames.{carries_again}
use Rattle.sat_parts.proofs.parts.units.resurrect_unit.Goals as goal
use Rattle.sat_parts.proofs.parts.units.resurrect_unit.Goals.{Then-is_removed_unit}

module _ (c : Then-is_removed_unit) where
  abbrev before : PropagationState
  before = state c.args.parts.now

  gone : IsRemovedUnit before c.args.lit
  gone =
      removed_by before c.args.lit c.requires.holds.below.propagation.agrees c.requires.true_lit
      (ap (λ v. (node_of c.args.parts.now.graph v).depth) (sym c.var.ensures) ∙ (rw c.if-is_removed_unit.true at c.is_removed_unit.ensures).0 refl)

pub enqueue_assignment-requires-clause-room : goal.enqueue_assignment-requires-clause-room
enqueue_assignment-requires-clause-room c =
    let x = (goal.at.enqueue_assignment-requires-clause-room c).Then-is_removed_unit in
    inl (rw (c.unassign_var.ensures, c.var-then-is_removed_unit.ensures) (agrees_dropped (before x) c.args.lit c.requires.holds.below.propagation.agrees (gone x)))

pub returns-then-is_removed_unit-clause-holds : goal.returns-then-is_removed_unit-clause-holds
returns-then-is_removed_unit-clause-holds c =
    let x = (goal.at.returns-then-is_removed_unit-clause-holds c).Then-is_removed_unit in
    rw (c.enqueue_assignment.ensures.value, c.enqueue_assignment.ensures.node, c.enqueue_assignment.ensures.trail, c.unassign_var.ensures, c.var-then-is_removed_unit.ensures)
    (sound_again c.args.parts.now.clauses c.args.parts.now.db c.args.parts.now.watchlists c.args.parts.now.binary c.args.parts.now.assignment c.args.parts.now.graph c.args.parts.now.trail c.args.parts.now.vsids c.args.lit c.requires.holds c.requires.bottom (gone x))

pub returns-then-is_removed_unit-clause-values : goal.returns-then-is_removed_unit-clause-values
returns-then-is_removed_unit-clause-values c = grind (arith, common_steps, again_values)

pub returns-then-is_removed_unit-clause-left : goal.returns-then-is_removed_unit-clause-left
returns-then-is_removed_unit-clause-left c =
    let x = (goal.at.returns-then-is_removed_unit-clause-left c).Then-is_removed_unit in
    rw (c.enqueue_assignment.ensures.value, c.enqueue_assignment.ensures.node, c.enqueue_assignment.ensures.trail, c.unassign_var.ensures, c.var-then-is_removed_unit.ensures)
    (λ l left. (again_left (before x) c.args.lit l c.requires.holds.below.propagation.agrees (gone x) left).0)

pub returns-then-is_removed_unit-clause-carries : goal.returns-then-is_removed_unit-clause-carries
returns-then-is_removed_unit-clause-carries c =
    let x = (goal.at.returns-then-is_removed_unit-clause-carries c).Then-is_removed_unit in
    rw (c.enqueue_assignment.ensures.value, c.enqueue_assignment.ensures.node, c.enqueue_assignment.ensures.trail, c.unassign_var.ensures, c.var-then-is_removed_unit.ensures)
    (carries_again (before x) c.args.lit c.requires.holds.below.propagation.agrees (gone x) (ap (λ (xs : List ℕ). length xs) c.requires.bottom))
