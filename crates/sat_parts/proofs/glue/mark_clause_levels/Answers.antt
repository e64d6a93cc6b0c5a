use Rattle.std.proofs.Common.{◌≡◌, ◌<◌, length, get_or, ap, sym, ◌∙◌, arith, true, length-set}
use Rattle.std.proofs.lemmas.Grind.{common_steps}
use Rattle.std.proofs.lemmas.List.{length-map}
use Rattle.sat_base.specs.values.Literals.{variable}
use Rattle.sat_store.specs.clause.Buffer.{lits_at}
use Rattle.sat_parts.specs.prop.Graphs.{node_of}
use Rattle.sat_parts.specs.clause.Glue.{levels_of}
use Rattle.sat_parts.proofs.lemmas.clause.GlueLemmas.{marked_none, marked_seen, marked_new, marked_all, marked_least, level_at}
use Rattle.sat_parts.proofs.glue.mark_clause_levels.Goals as goal
use Rattle.sat_parts.proofs.glue.mark_clause_levels.Goals.{then-not-index, else-not-index}

pub loop-at-init : goal.loop-at-init
loop-at-init c = grind (arith, common_steps, marked_none)

pub loop-at-preserved : goal.loop-at-preserved
loop-at-preserved c =
    let lt : c.loop-at.at < length (lits_at c.args.clauses.now c.args.cref) = omega (arith, c.len-end.ensures.lits) in
    let lt' : c.loop-at.at < length (levels_of c.args.graph.now (lits_at c.args.clauses.now c.args.cref)) = omega (arith, c.len-end.ensures.lits, length-map (lits_at c.args.clauses.now c.args.cref) (λ l. (node_of c.args.graph.now (variable l)).level)) in
    let l_is : c.lit.result ≡ get_or (lits_at c.args.clauses.now c.args.cref) c.loop-at.at 0 = c.lit.ensures.value in
    let x_is : c.level-level.result ≡ get_or (levels_of c.args.graph.now (lits_at c.args.clauses.now c.args.cref)) c.loop-at.at 0 =
    level_at c.args.graph.now (lits_at c.args.clauses.now c.args.cref) c.loop-at.at c.lit.result c.var.result c.level-level.result lt l_is c.var.ensures c.level-level.ensures in
    let b : c.level-level.result < length c.loop-at.flags.flags.items =
    omega (arith, c.requires.levels c.loop-at.at lt, c.loop-at.invariant.size, ap (λ l. (node_of c.args.graph.now (variable l)).level) l_is, ap (λ v. (node_of c.args.graph.now v).level) c.var.ensures, c.level-level.ensures) in
    elim c.if-not-index.branch [
      | then-not-index w ↦
          record {
            size = rw w.flags-is (length-set c.loop-at.flags.flags.items c.level-level.result true ∙ c.loop-at.invariant.size);
            marked = rw (w.flags-is, w.glue-is)
                (marked_new c.loop-at.flags.flags.items (levels_of c.args.graph.now (lits_at c.args.clauses.now c.args.cref)) c.loop-at.at c.loop-at.glue c.level-level.result c.loop-at.invariant.marked lt' x_is b (grind (arith, common_steps)));
            few = rw w.glue-is (omega (arith, c.loop-at.invariant.few));
            below = rw w.glue-is (omega arith);
          }
      | else-not-index w ↦
          record {
            size = rw w.flags-is c.loop-at.invariant.size;
            marked = rw (w.flags-is, w.glue-is)
                (marked_seen c.loop-at.flags.flags.items (levels_of c.args.graph.now (lits_at c.args.clauses.now c.args.cref)) c.loop-at.at c.loop-at.glue c.level-level.result c.loop-at.invariant.marked lt' x_is b (grind (arith, common_steps)));
            few = rw w.glue-is (omega (arith, c.loop-at.invariant.few));
            below = rw w.glue-is c.loop-at.invariant.below;
          }
    ]

pub returns-clause-glue : goal.returns-clause-glue
returns-clause-glue c =
    let e : c.loop-at.at ≡ length (levels_of c.args.graph.now (lits_at c.args.clauses.now c.args.cref)) = omega (arith, c.len-end.ensures.lits, length-map (lits_at c.args.clauses.now c.args.cref) (λ l. (node_of c.args.graph.now (variable l)).level)) in
    let all = (marked_all c.loop-at.flags.flags.items (levels_of c.args.graph.now (lits_at c.args.clauses.now c.args.cref)) c.loop-at.at c.loop-at.glue c.loop-at.invariant.marked e).0 in
    omega (arith, all, c.loop-at.invariant.below)

pub returns-then-glue-limit-clause-glue : goal.returns-then-glue-limit-clause-glue
returns-then-glue-limit-clause-glue c =
    let n : length (levels_of c.args.graph.now (lits_at c.args.clauses.now c.args.cref)) ≡ c.len-end.result = length-map (lits_at c.args.clauses.now c.args.cref) (λ l. (node_of c.args.graph.now (variable l)).level) ∙ sym c.len-end.ensures.lits in
    let least = marked_least c.loop-at.flags.flags.items (levels_of c.args.graph.now (lits_at c.args.clauses.now c.args.cref)) c.loop-at.at c.loop-at.glue c.loop-at.invariant.marked (omega (arith, n)) in
    omega (arith, least, c.loop-at.invariant.below, c.if-glue-limit.true)
