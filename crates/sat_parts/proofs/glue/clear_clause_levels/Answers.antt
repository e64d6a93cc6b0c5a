use Rattle.std.proofs.Common.{◌≡◌, ◌<◌, List, ℕ, length, get_or, take, sym, ap, ◌∙◌, arith, false, length-set}
use Rattle.std.proofs.lemmas.List.{length-map, length-take-le, get_or-take}
use Rattle.sat_base.specs.values.Literals.{variable}
use Rattle.sat_store.specs.clause.Buffer.{lits_at}
use Rattle.sat_parts.specs.prop.Graphs.{node_of}
use Rattle.sat_parts.specs.clause.Glue.{levels_of}
use Rattle.sat_parts.proofs.lemmas.clause.GlueLemmas.{left_more, level_at}
use Rattle.sat_parts.proofs.glue.clear_clause_levels.Goals as goal

pub loop-at-preserved : goal.loop-at-preserved
loop-at-preserved c =
    let levels : List ℕ = levels_of c.args.graph.now (lits_at c.args.clauses.now c.args.cref) in
    let n : length (levels_of c.args.graph.now (lits_at c.args.clauses.now c.args.cref)) ≡ length (lits_at c.args.clauses.now c.args.cref) = length-map (lits_at c.args.clauses.now c.args.cref) (λ l. (node_of c.args.graph.now (variable l)).level) in
    let seen : length (take c.args.seen (levels_of c.args.graph.now (lits_at c.args.clauses.now c.args.cref))) ≡ c.args.seen = length-take-le c.args.seen levels (omega (arith, n, c.requires.within)) in
    let lt : c.loop-at.at < length (lits_at c.args.clauses.now c.args.cref) = omega (arith, c.requires.within) in
    let lt' : c.loop-at.at < length (take c.args.seen (levels_of c.args.graph.now (lits_at c.args.clauses.now c.args.cref))) = omega (arith, seen) in
    let l_is : c.lit.result ≡ get_or (lits_at c.args.clauses.now c.args.cref) c.loop-at.at 0 = c.lit.ensures.value in
    let x_is : c.level-level.result ≡ get_or (take c.args.seen (levels_of c.args.graph.now (lits_at c.args.clauses.now c.args.cref))) c.loop-at.at 0 =
    level_at c.args.graph.now (lits_at c.args.clauses.now c.args.cref) c.loop-at.at c.lit.result c.var.result c.level-level.result lt l_is c.var.ensures c.level-level.ensures
    ∙ sym (get_or-take c.args.seen levels c.loop-at.at 0 (omega arith)) in
    let b : c.level-level.result < length c.loop-at.flags.flags.items =
    omega (arith, c.requires.levels c.loop-at.at lt, c.loop-at.invariant.size, ap (λ l. (node_of c.args.graph.now (variable l)).level) l_is, ap (λ v. (node_of c.args.graph.now v).level) c.var.ensures, c.level-level.ensures) in
    record {
      size = length-set c.loop-at.flags.flags.items c.level-level.result false ∙ c.loop-at.invariant.size;
      left = left_more c.loop-at.flags.flags.items (take c.args.seen levels) c.loop-at.at c.level-level.result c.loop-at.invariant.left lt' x_is b;
    }
