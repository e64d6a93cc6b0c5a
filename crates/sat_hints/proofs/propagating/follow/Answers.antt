use Rattle.std.proofs.lemmas.Grind.{common_steps}
use Rattle.std.proofs.Common.{◌<◌, ◌+◌, ◌≡◌, Some, drop, length, sym, ap, ◌∙◌, arith, inl, inr}
use Rattle.sat_base.proofs.lemmas.device.Known.{rest_is}
use Rattle.sat_hints.specs.inner.LineChecking.{refutation_failure_of}
use Rattle.sat_hints.specs.inner.ActiveClauses.{active_clauses}
use Rattle.sat_hints.proofs.lemmas.Finding.{opens_in_room, lost, missed, no_turn}
use Rattle.sat_hints.proofs.lemmas.Signs.{same_default}
use Rattle.sat_hints.proofs.propagating.follow.Goals as goal

pub assume_in_room-requires-clause-room : goal.assume_in_room-requires-clause-room
assume_in_room-requires-clause-room c = grind (arith, common_steps, opens_in_room)

pub returns-in-Falsified : goal.returns-in-Falsified
returns-in-Falsified c =
    let s = c.args.active.now in
    let i = c.loop-turn.turn in
    let ids = c.args.ids.now in
    let assumed = c.loop-turn.assumed.literals in
    let clause = c.in-Some.clause.now in
    let inside : i < length ids = omega (arith, c.loop-turn-test.true, c.if-is_empty.false) in
    let more : i + 1 < length ids = omega (arith, c.loop-turn-test.true, c.if-is_empty.false) in
    let left = rest_is ids (i + 1) in
    let turn = no_turn c.look_at.result assumed clause c.look_at.ensures c.in-Falsified.is in
    let why : refutation_failure_of assumed (active_clauses s (drop i ids)) ≡ Some c.not_unit.result = elim c.not_unit.ensures [
      | inl h ↦ lost s ids i _ inside (same_default ids i 0 _ inside) assumed clause c.in-Some.ensures (sym (ap (active_clauses s) left) ∙ h.0) ∙ ap Some (sym h.1)
      | inr h ↦ missed s ids i _ inside (same_default ids i 0 _ inside) assumed clause c.in-Some.ensures more turn (λ e. h.0 (ap (active_clauses s) left ∙ e)) ∙ ap Some (sym h.1)
    ] in
    record { follows = sym (c.loop-turn.invariant.course ∙ why); room = c.loop-turn.invariant.room }
