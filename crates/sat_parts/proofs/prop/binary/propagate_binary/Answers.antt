use Rattle.std.proofs.Common.{rules, ◌≡◌, ◌<◌, ℕ, List, length, get_or, ap, ◌∙◌, subst, arith, length-set}
use Rattle.std.proofs.lemmas.List.{get_or_read}
use Rattle.sat_base.specs.values.Literals.{variable}
use Rattle.sat_parts.specs.prop.Values.{IsUnassignedLit, IsTrueLit}
use Rattle.sat_parts.specs.prop.Binaries.{implied_by}
use Rattle.sat_parts.specs.prop.Ready.{state_of}
use Rattle.sat_parts.proofs.lemmas.prop.BinaryLemmas.{binary_open, binary_true, binary_enqueued, binary_stopped, binary_conflict, open_from_not, implied_below}
use Rattle.sat_parts.proofs.prop.binary.propagate_binary.Goals as goal
use Rattle.sat_parts.proofs.prop.binary.propagate_binary.Goals.{then-not-lit_is_true, else-not-lit_is_true}

pub loop-implied-init : goal.loop-implied-init
loop-implied-init c = record {
  walk = binary_open c.args.binary.now.implied c.args.lit (state_of c.args.assignment.now c.args.graph.now c.args.trail.now) c.requires.agrees c.requires.queue c.requires.left c.requires.top;
  size = search rules;
  last = search rules;
}

pub returns-then-lit_is_false-clause-walked : goal.returns-then-lit_is_false-clause-walked
returns-then-lit_is_false-clause-walked c =
    let lt : c.loop-implied.implied-index < length c.implied-implied-items.result.now = omega arith in
    let lt' : c.loop-implied.implied-index < length (implied_by c.args.binary.now.implied c.args.lit) = subst (λ (xs : List ℕ). c.loop-implied.implied-index < length xs) c.implied-implied-items.ensures lt in
    let x_is : c.implied-item.result ≡ get_or (implied_by c.args.binary.now.implied c.args.lit) c.loop-implied.implied-index 0 =
    get_or_read c.implied-implied-items.result.now c.loop-implied.implied-index c.implied-item.result lt c.implied-item.is 0 ∙ ap (λ (xs : List ℕ). get_or xs c.loop-implied.implied-index 0) c.implied-implied-items.ensures in (
      binary_stopped c.args.binary.now.implied c.args.lit (state_of c.args.assignment.now c.args.graph.now c.args.trail.now) (state_of c.loop-implied.assignment c.loop-implied.graph c.loop-implied.trail) c.loop-implied.implied-index c.loop-implied.invariant.walk,
      binary_conflict c.args.binary.now.implied c.args.lit (state_of c.args.assignment.now c.args.graph.now c.args.trail.now) (state_of c.loop-implied.assignment c.loop-implied.graph c.loop-implied.trail) c.loop-implied.implied-index c.implied-item.result c.not-false_lit.result
          c.loop-implied.invariant.walk lt' x_is c.not-false_lit.ensures (c.lit_is_false.ensures.0 c.if-lit_is_false.true),
    )

pub loop-implied-preserved : goal.loop-implied-preserved
loop-implied-preserved c =
    let lt : c.loop-implied.implied-index < length c.implied-implied-items.result.now = omega arith in
    let lt' : c.loop-implied.implied-index < length (implied_by c.args.binary.now.implied c.args.lit) = subst (λ (xs : List ℕ). c.loop-implied.implied-index < length xs) c.implied-implied-items.ensures lt in
    let x_is : c.implied-item.result ≡ get_or (implied_by c.args.binary.now.implied c.args.lit) c.loop-implied.implied-index 0 =
    get_or_read c.implied-implied-items.result.now c.loop-implied.implied-index c.implied-item.result lt c.implied-item.is 0 ∙ ap (λ (xs : List ℕ). get_or xs c.loop-implied.implied-index 0) c.implied-implied-items.ensures in
    let below : variable c.implied-item.result < length c.args.assignment.now.current =
    implied_below c.args.binary.now.implied c.args.lit c.loop-implied.implied-index c.implied-item.result (length c.args.assignment.now.current) c.requires.lists lt' x_is in
    elim c.if-not-lit_is_true.branch [
      | then-not-lit_is_true w ↦
          let n : IsUnassignedLit c.loop-implied.assignment.current c.implied-item.result = open_from_not c.loop-implied.assignment.current c.implied-item.result (search rules) (search rules) in
          record {
            walk = rw (w.assignment-is, w.graph-is, w.trail-is, w.enqueue_assignment.ensures.value, w.enqueue_assignment.ensures.node, w.enqueue_assignment.ensures.trail)
                (binary_enqueued c.args.binary.now.implied c.args.lit (state_of c.args.assignment.now c.args.graph.now c.args.trail.now) (state_of c.loop-implied.assignment c.loop-implied.graph c.loop-implied.trail) c.loop-implied.implied-index c.implied-item.result c.not-false_lit.result
                c.loop-implied.invariant.walk lt' x_is c.not-false_lit.ensures n (omega (arith, below, c.loop-implied.invariant.size)));
            size = rw (w.assignment-is, w.enqueue_assignment.ensures.value) (length-set _ _ _ ∙ c.loop-implied.invariant.size);
            last = rw (w.assignment-is, w.enqueue_assignment.ensures.value) c.loop-implied.invariant.last;
          }
      | else-not-lit_is_true w ↦ record {
        walk = rw (w.assignment-is, w.graph-is, w.trail-is)
            (binary_true c.args.binary.now.implied c.args.lit (state_of c.args.assignment.now c.args.graph.now c.args.trail.now) (state_of c.loop-implied.assignment c.loop-implied.graph c.loop-implied.trail) c.loop-implied.implied-index
            c.loop-implied.invariant.walk (subst (λ (z : ℕ). IsTrueLit c.loop-implied.assignment.current z) x_is (c.lit_is_true.ensures.0 (search rules))));
        size = rw w.assignment-is c.loop-implied.invariant.size;
        last = rw w.assignment-is c.loop-implied.invariant.last;
      }
    ]
