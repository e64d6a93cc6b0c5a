use Rattle.std.proofs.Common.{◌+◌, ◌/◌, ◌<◌, ◌∙◌, ℕ, List, length, arith}
use Rattle.std.proofs.lemmas.List.{length-map}
use Rattle.sat_parts.specs.prop.Binaries.{unassigned_among}
use Rattle.sat_parts.specs.prop.Places.{lists_of, lits_at_place}
use Rattle.sat_parts.proofs.lemmas.prop.OpenLemmas.{ReplacedSoFar, replaced_more}
use Rattle.sat_parts.proofs.binary.BinaryClauses.remove_assigned.Goals as goal

pub loop-code-preserved : goal.loop-code-preserved
loop-code-preserved c =
    let before = c.loop-code.invariant in
    let places = c.loop-code.self-inside.by_lit.items in
    let lits = c.loop-code.self-inside.lits.items in
    let now = lists_of c.keep_open-left.new.places.items c.keep_open-left.new.lits.items in
    let opened : ℕ → List ℕ → List ℕ = λ k ls. unassigned_among c.args.assignment.now.current (k / 2) ls in
    let within : c.loop-code.code < length (lists_of places lits) = omega (arith, length-map places (lits_at_place lits)) in
    let x : ReplacedSoFar opened c.args.self.now.implied now (c.loop-code.code + 1) c.saturating_add-implications.result =
    replaced_more opened c.args.self.now.implied (lists_of places lits) now c.loop-code.code c.loop-code.implications c.keep_open-left.result c.saturating_add-implications.result
    within before.done before.rest before.counted c.keep_open-left.ensures.kept c.keep_open-left.ensures.left c.saturating_add-implications.ensures in
    record {
      places = c.keep_open-left.ensures.places;
      size = c.keep_open-left.ensures.size ∙ before.size;
      end = before.end;
      done = x.done;
      rest = x.rest;
      counted = x.counted;
    }
