use Rattle.std.proofs.Common.{◌≡◌, ◌<◌, length, get_or, ap, ◌∙◌, arith, true, length-set}
use Rattle.std.proofs.lemmas.Grind.{common_steps}
use Rattle.std.proofs.lemmas.List.{get_or_read, length-map}
use Rattle.sat_base.specs.values.Literals.{variable}
use Rattle.sat_parts.specs.prop.Graphs.{node_of}
use Rattle.sat_parts.specs.clause.Glue.{levels_of}
use Rattle.sat_parts.proofs.lemmas.clause.GlueLemmas.{marked_none, marked_seen, marked_new, marked_all, level_at}
use Rattle.sat_parts.proofs.glue.mark_levels.Goals as goal
use Rattle.sat_parts.proofs.glue.mark_levels.Goals.{then-not-index, else-not-index}

pub loop-lit-init : goal.loop-lit-init
loop-lit-init c = grind (arith, common_steps, marked_none)

pub loop-lit-preserved : goal.loop-lit-preserved
loop-lit-preserved c =
    let lt : c.loop-lit.lit-index < length c.args.lits.now = omega arith in
    let lt' : c.loop-lit.lit-index < length (levels_of c.args.graph.now c.args.lits.now) = omega (arith, length-map c.args.lits.now (λ l. (node_of c.args.graph.now (variable l)).level)) in
    let l_is : c.lit-item.result ≡ get_or c.args.lits.now c.loop-lit.lit-index 0 = get_or_read c.args.lits.now c.loop-lit.lit-index c.lit-item.result lt c.lit-item.is 0 in
    let x_is : c.level-level.result ≡ get_or (levels_of c.args.graph.now c.args.lits.now) c.loop-lit.lit-index 0 =
    level_at c.args.graph.now c.args.lits.now c.loop-lit.lit-index c.lit-item.result c.var.result c.level-level.result lt l_is c.var.ensures c.level-level.ensures in
    let b : c.level-level.result < length c.loop-lit.flags.flags.items =
    omega (arith, c.requires.levels c.loop-lit.lit-index lt, c.loop-lit.invariant.size, ap (λ l. (node_of c.args.graph.now (variable l)).level) l_is, ap (λ v. (node_of c.args.graph.now v).level) c.var.ensures, c.level-level.ensures) in
    elim c.if-not-index.branch [
      | then-not-index w ↦
          record {
            size = rw w.flags-is (length-set c.loop-lit.flags.flags.items c.level-level.result true ∙ c.loop-lit.invariant.size);
            marked = rw (w.flags-is, w.glue-is)
                (marked_new c.loop-lit.flags.flags.items (levels_of c.args.graph.now c.args.lits.now) c.loop-lit.lit-index c.loop-lit.glue c.level-level.result c.loop-lit.invariant.marked lt' x_is b (grind (arith, common_steps)));
            few = rw w.glue-is (omega (arith, c.loop-lit.invariant.few));
          }
      | else-not-index w ↦
          record {
            size = rw w.flags-is c.loop-lit.invariant.size;
            marked = rw (w.flags-is, w.glue-is)
                (marked_seen c.loop-lit.flags.flags.items (levels_of c.args.graph.now c.args.lits.now) c.loop-lit.lit-index c.loop-lit.glue c.level-level.result c.loop-lit.invariant.marked lt' x_is b (grind (arith, common_steps)));
            few = rw w.glue-is (omega (arith, c.loop-lit.invariant.few));
          }
    ]

pub returns-clause-glue : goal.returns-clause-glue
returns-clause-glue c =
    let e : c.loop-lit.lit-index ≡ length (levels_of c.args.graph.now c.args.lits.now) = omega (arith, length-map c.args.lits.now (λ l. (node_of c.args.graph.now (variable l)).level)) in
    (marked_all c.loop-lit.flags.flags.items (levels_of c.args.graph.now c.args.lits.now) c.loop-lit.lit-index c.loop-lit.glue c.loop-lit.invariant.marked e).0
