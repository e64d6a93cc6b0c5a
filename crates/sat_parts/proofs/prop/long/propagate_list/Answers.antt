use Rattle.std.proofs.Common.{◌≡◌, ℕ, ◌<◌, length, sym, ◌∙◌, subst, arith, rules, length-set}
use Rattle.sat_base.specs.values.Literals.{variable}
use Rattle.sat_parts.specs.prop.Values.{IsUnassignedLit}
use Rattle.sat_parts.specs.prop.WatchLists.{watch_on}
use Rattle.sat_parts.specs.prop.Ready.{state_of}
use Rattle.sat_parts.proofs.lemmas.prop.ReasonLemmas.{moves_refl}
use Rattle.sat_parts.proofs.lemmas.prop.HalfLemmas.{place_live}
use Rattle.sat_parts.proofs.lemmas.prop.Walking.{step_blocked, step_stale, step_moved, step_kept, step_propagates, walk_falsified, walk_done, walk_small, blocking_below, visited_below}
use Rattle.sat_parts.proofs.prop.long.propagate_list.Goals as goal
use Rattle.sat_parts.proofs.prop.long.propagate_list.Goals.{then-lit_is_true, else-lit_is_true+in_ok-visit_clause+in-Stale, else-lit_is_true+in_ok-visit_clause+in-Moved, else-lit_is_true+in_ok-visit_clause+in-Keep, else-lit_is_true+in_ok-visit_clause+in-Propagates}

pub loop-at-init : goal.loop-at-init
loop-at-init g c = record {
  walking = record {
    half = c.requires;
    moves = λ implied. moves_refl g.live implied c.args.clauses.now (state_of c.args.assignment.now c.args.graph.now c.args.trail.now);
    head = search rules;
  };
  end = c.len-end.ensures;
  last = search rules;
  enabled = search rules;
}

pub lit_is_true-requires : goal.lit_is_true-requires
lit_is_true-requires g c = blocking_below _ _ _ _ _ _ _ _ _ c.loop-at.invariant.walking.half (omega arith) c.blocking-blocking.ensures

pub visit_clause-requires-clause-clause : goal.visit_clause-requires-clause-clause
visit_clause-requires-clause-clause g c =
    c.loop-at.invariant.walking.half.clauses.holds_clauses.clauses c.cref-cref.result (place_live _ _ _ _ _ _ _ _ _ c.loop-at.invariant.walking.half (omega arith) c.cref-cref.ensures)

pub visit_clause-requires-clause-long : goal.visit_clause-requires-clause-long
visit_clause-requires-clause-long g c =
    omega (arith, c.loop-at.invariant.walking.half.clauses.long c.cref-cref.result (place_live _ _ _ _ _ _ _ _ _ c.loop-at.invariant.walking.half (omega arith) c.cref-cref.ensures))

pub visit_clause-requires-clause-below : goal.visit_clause-requires-clause-below
visit_clause-requires-clause-below g c = λ k b.
    c.loop-at.invariant.walking.half.clauses.below c.cref-cref.result k (place_live _ _ _ _ _ _ _ _ _ c.loop-at.invariant.walking.half (omega arith) c.cref-cref.ensures) b

pub enqueue_assignment-requires-clause-value : goal.enqueue_assignment-requires-clause-value
enqueue_assignment-requires-clause-value g c =
    visited_below _ c.visit_clause.new.clauses _ _ _ _ _ _ _ c.cref-cref.result c.in-Propagates.first
    c.loop-at.invariant.walking.half (omega arith) c.cref-cref.ensures c.in_ok-visit_clause.ensures.shuffles (rw c.in-Propagates.is at c.in_ok-visit_clause.ensures.visited).1

pub enqueue_assignment-requires-clause-node : goal.enqueue_assignment-requires-clause-node
enqueue_assignment-requires-clause-node g c =
    let b : variable c.in-Propagates.first < length c.loop-at.assignment.current = enqueue_assignment-requires-clause-value g c in
    omega (arith, c.loop-at.invariant.walking.half.agrees.nodes)

pub returns-in-Falsified-clause-walked : goal.returns-in-Falsified-clause-walked
returns-in-Falsified-clause-walked g c =
    let v = rw c.in-Falsified.is at c.in_ok-visit_clause.ensures.visited in
    rw (c.cut.ensures, c.set-in-Falsified.ensures, v.2)
    (walk_falsified _ _ _ _ c.visit_clause.new.clauses _ _ _ _ _ _ c.cref-cref.result c.in-Falsified.first c.loop-at.invariant.walking (omega arith) c.cref-cref.ensures
    c.in_ok-visit_clause.ensures.shuffles (rw c.not-false_lit.ensures at v.0) v.1 v.3
    (walk_small _ _ _ _ _ _ _ _ c.loop-at.invariant.walking.half))

pub loop-at-preserved : goal.loop-at-preserved
loop-at-preserved g c =
    let lt : c.loop-at.at < length c.loop-at.list = omega arith in
    elim c.if-lit_is_true.branch [
      | then-lit_is_true w ↦ record {
        walking = rw (w.clauses-is, w.assignment-is, w.graph-is, w.trail-is, w.watchlists-is, w.list-is, w.kept-is, w.set.ensures)
            (step_blocked _ _ _ _ _ _ _ _ _ _ c.cref-cref.result c.blocking-blocking.result c.loop-at.invariant.walking lt c.cref-cref.ensures c.blocking-blocking.ensures
            (c.lit_is_true.ensures.0 w.if-lit_is_true.true));
        end = rw (w.list-is, w.set.ensures) (c.loop-at.invariant.end ∙ sym (length-set c.loop-at.list c.loop-at.kept (watch_on c.cref-cref.result c.blocking-blocking.result)));
        last = rw w.assignment-is c.loop-at.invariant.last;
        enabled = rw w.watchlists-is c.loop-at.invariant.enabled;
      }
      | else-lit_is_true+in_ok-visit_clause+in-Stale w ↦
          let v = rw w.in-Stale.is at w.in_ok-visit_clause.ensures.visited in
          record {
            walking = rw (w.clauses-is, w.assignment-is, w.graph-is, w.trail-is, w.watchlists-is, w.list-is, w.kept-is, v.2, v.3)
                (step_stale _ _ _ _ _ _ _ _ _ _ c.cref-cref.result c.loop-at.invariant.walking lt c.cref-cref.ensures
                (rw (← c.not-false_lit.ensures) v.0) (rw (← c.not-false_lit.ensures) v.1));
            end = rw w.list-is c.loop-at.invariant.end;
            last = rw w.assignment-is c.loop-at.invariant.last;
            enabled = rw w.watchlists-is (w.in_ok-visit_clause.ensures.enabled ∙ c.loop-at.invariant.enabled);
          }
      | else-lit_is_true+in_ok-visit_clause+in-Moved w ↦
          let v = rw w.in-Moved.is at w.in_ok-visit_clause.ensures.visited in
          record {
            walking = rw (w.clauses-is, w.assignment-is, w.graph-is, w.trail-is, w.watchlists-is, w.list-is, w.kept-is, v.2)
                (step_moved _ _ _ _ w.visit_clause.new.clauses _ _ _ _ _ _ c.cref-cref.result c.loop-at.invariant.walking lt c.cref-cref.ensures
                w.in_ok-visit_clause.ensures.shuffles (rw c.not-false_lit.ensures at v.0) v.1);
            end = rw w.list-is c.loop-at.invariant.end;
            last = rw w.assignment-is c.loop-at.invariant.last;
            enabled = rw w.watchlists-is (w.in_ok-visit_clause.ensures.enabled ∙ c.loop-at.invariant.enabled);
          }
      | else-lit_is_true+in_ok-visit_clause+in-Keep w ↦
          let v = rw w.in-Keep.is at w.in_ok-visit_clause.ensures.visited in
          record {
            walking = rw (w.clauses-is, w.assignment-is, w.graph-is, w.trail-is, w.watchlists-is, w.list-is, w.kept-is, w.set-in-Keep.ensures, v.2)
                (step_kept _ _ _ _ w.visit_clause.new.clauses _ _ _ _ _ _ c.cref-cref.result w.in-Keep.first c.loop-at.invariant.walking lt c.cref-cref.ensures
                w.in_ok-visit_clause.ensures.shuffles (rw c.not-false_lit.ensures at v.0) v.1 v.3);
            end = rw (w.list-is, w.set-in-Keep.ensures) (c.loop-at.invariant.end ∙ sym (length-set c.loop-at.list c.loop-at.kept (watch_on c.cref-cref.result w.in-Keep.first)));
            last = rw w.assignment-is c.loop-at.invariant.last;
            enabled = rw w.watchlists-is (w.in_ok-visit_clause.ensures.enabled ∙ c.loop-at.invariant.enabled);
          }
      | else-lit_is_true+in_ok-visit_clause+in-Propagates w ↦
          let v = rw w.in-Propagates.is at w.in_ok-visit_clause.ensures.visited in
          record {
            walking = rw (w.clauses-is, w.assignment-is, w.graph-is, w.trail-is, w.watchlists-is, w.list-is, w.kept-is, w.set-in-Propagates.ensures, w.enqueue_assignment.ensures.value, w.enqueue_assignment.ensures.node, w.enqueue_assignment.ensures.trail, v.2)
                (step_propagates _ _ _ _ w.visit_clause.new.clauses _ _ _ _ _ _ c.cref-cref.result w.in-Propagates.first c.loop-at.invariant.walking lt c.cref-cref.ensures
                w.in_ok-visit_clause.ensures.shuffles (rw c.not-false_lit.ensures at v.0) v.1 v.3 (subst (λ (z : ℕ). IsUnassignedLit c.loop-at.assignment.current z) (sym v.1) v.4));
            end = rw (w.list-is, w.set-in-Propagates.ensures) (c.loop-at.invariant.end ∙ sym (length-set c.loop-at.list c.loop-at.kept (watch_on c.cref-cref.result w.in-Propagates.first)));
            last = rw (w.assignment-is, w.enqueue_assignment.ensures.value) c.loop-at.invariant.last;
            enabled = rw w.watchlists-is (w.in_ok-visit_clause.ensures.enabled ∙ c.loop-at.invariant.enabled);
          }
    ]

pub returns-clause-walked : goal.returns-clause-walked
returns-clause-walked g c =
    let e : c.loop-at.at ≡ length c.loop-at.list = omega arith in
    rw c.keep.ensures
    (walk_done _ _ _ _ _ _ _ _ _ _ c.loop-at.invariant.walking e
    (walk_small _ _ _ _ _ _ _ _ c.loop-at.invariant.walking.half))
