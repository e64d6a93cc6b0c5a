use Rattle.std.proofs.Common.{ℕ, ◌≡◌, List, length, get_or, refl, ap, ◌∙◌, arith}
use Rattle.std.proofs.lemmas.List.{get_or_read}
use Rattle.sat_parts.specs.prop.Ready.{state_of}
use Rattle.sat_parts.specs.prop.State.{PropagationState, current_level, lit_at}
use Rattle.sat_solver.proofs.lemmas.analyze_conflict.Codes.{some_flagged, last_place, place_variable}
use Rattle.sat_solver.proofs.lemmas.analyze_conflict.Collecting.{collected}
use Rattle.sat_solver.proofs.lemmas.analyze_conflict.Resolution.{IsLastFlagged}
use Rattle.sat_solver.proofs.lemmas.analyze_conflict.Ends.{finished}
use Rattle.sat_solver.proofs.analyze_conflict.resolve.finish_conflict.Goals as goal
use Rattle.sat_solver.proofs.analyze_conflict.resolve.finish_conflict.Goals.{After-index-lits-place}

-- the last literal of the resolvent
module _ (c : After-index-lits-place) where
  abbrev s : PropagationState
  s = state_of c.args.assignment.now c.args.graph.now c.args.trail.now

  last : IsLastFlagged s c.args.analysis.now.flags c.last_flagged-place.result c.args.before
  last = last_place s c.args.analysis.now.flags c.last_flagged-place.result c.args.before c.trail-lits.result.now c.trail-lits.ensures.lits c.last_flagged-place.ensures.within c.last_flagged-place.ensures.flagged c.last_flagged-place.ensures.others

  lit_is : c.index-lits-place.result ≡ lit_at s c.last_flagged-place.result
  lit_is =
      get_or_read c.trail-lits.result.now c.last_flagged-place.result c.index-lits-place.result (omega (arith, c.requires.resolving.marks.within, last.before, ap (λ (xs : List ℕ). length xs) c.trail-lits.ensures.lits)) c.index-lits-place.is 0
      ∙ ap (λ (xs : List ℕ). get_or xs c.last_flagged-place.result 0) c.trail-lits.ensures.lits

pub last_flagged-place-requires-clause-some : goal.last_flagged-place-requires-clause-some
last_flagged-place-requires-clause-some c =
    let s : PropagationState = state_of c.args.assignment.now c.args.graph.now c.args.trail.now in
    some_flagged s (current_level s) c.args.analysis.now c.args.before c.trail-lits.result.now c.trail-lits.ensures.lits c.requires.resolving.marks c.requires.resolving.some

pub returns-clause-resolved : goal.returns-clause-resolved
returns-clause-resolved c =
    let x = (goal.at.returns-clause-resolved c).After-index-lits-place in
    let here = place_variable (s x) (current_level (s x)) c.args.analysis.now c.args.before c.last_flagged-place.result c.requires.can.agrees c.requires.resolving.marks (last x).before in
    rw (c.in_ok-add_first.ensures, c.not.ensures, c.unflag_pending.ensures, lit_is x)
    (finished _ _ _ c.args.analysis.now c.last_flagged-place.result c.args.before c.requires.can c.requires.resolving c.requires.one (last x) here)

pub returns-clause-collected : goal.returns-clause-collected
returns-clause-collected c =
    rw (c.in_ok-add_first.ensures, c.not.ensures, c.unflag_pending.ensures) (collected _ _ _ c.args.analysis.now _ c.args.before c.requires.collecting refl refl refl)
