use Rattle.std.proofs.Common.{◌≡◌, ◌<◌, ◌∙◌, sym, subst, arith}
use Rattle.std.proofs.lemmas.Bool.{true≢false}
use Rattle.sat_parts.specs.clause.Stored.{lit_of, size_of}
use Rattle.sat_parts.specs.prop.Values.{IsTrueLit, IsFalseLit}
use Rattle.sat_solver.proofs.lemmas.unit_simplify.GatherLemmas.{gathers_none, gathers_skip, gathers_swap, open_from}
use Rattle.sat_solver.proofs.unit_simplify.strengthen.gather_open.Goals as goal

pub loop-at-init : goal.loop-at-init
loop-at-init c = record {
  gathers = gathers_none c.args.parts.now c.args.cref c.requires.holds c.requires.front;
  some = omega arith;
  within = omega arith;
}

pub loop-at-preserved-then-lit_is_false : goal.loop-at-preserved-then-lit_is_false
loop-at-preserved-then-lit_is_false c =
    let q = c.loop-at.parts in
    let i = c.loop-at.invariant in
    let f : IsFalseLit c.loop-at.parts.assignment.current (lit_of c.loop-at.parts.clauses c.args.cref c.loop-at.at) = subst (λ l. IsFalseLit q.assignment.current l) c.lit.ensures.value (c.lit_is_false.ensures.0 c.if-lit_is_false.true) in
    record {
      gathers = gathers_skip c.args.parts.now q c.args.cref c.loop-at.kept c.loop-at.at i.gathers i.within f;
      some = i.some;
      within = omega (arith, i.within);
    }

pub loop-at-preserved : goal.loop-at-preserved
loop-at-preserved c =
    let p = c.args.parts.now in
    let q = c.loop-at.parts in
    let i = c.loop-at.invariant in
    let lt : c.loop-at.at < size_of c.args.parts.now.clauses c.args.cref = omega (arith, c.loop-at-test.true, c.len-at-end.ensures) in
    let there : lit_of c.loop-at.parts.clauses c.args.cref c.loop-at.at ≡ lit_of c.args.parts.now.clauses c.args.cref c.loop-at.at = i.gathers.rest c.loop-at.at (omega arith) in
    let untrue : IsTrueLit c.args.parts.now.assignment.current (lit_of c.loop-at.parts.clauses c.args.cref c.loop-at.at) → ⊥ =
    λ t. c.requires.none (c.loop-at.at, (lt, subst (λ l. IsTrueLit p.assignment.current l) there t)) in
    let unfalse : IsFalseLit c.args.parts.now.assignment.current (lit_of c.loop-at.parts.clauses c.args.cref c.loop-at.at) → ⊥ =
    λ f. true≢false (sym (c.lit_is_false.ensures.1 (subst (λ l. IsFalseLit q.assignment.current l) (sym c.lit.ensures.value) (subst (λ v. IsFalseLit v.current (lit_of q.clauses c.args.cref c.loop-at.at)) (sym i.gathers.same.0.0) f))) ∙ c.if-lit_is_false.false) in
    record {
      gathers = gathers_swap p q c.args.cref c.loop-at.kept c.loop-at.at i.gathers i.within c.swap_unwatched.new.parts c.requires.live lt
          (open_from p.assignment.current (lit_of q.clauses c.args.cref c.loop-at.at) untrue unfalse) c.swap_unwatched.ensures.swapped c.swap_unwatched.ensures.holds c.swap_unwatched.ensures.db c.swap_unwatched.ensures.word;
      some = omega (arith, i.some);
      within = omega (arith, i.within);
    }
