use Rattle.std.proofs.Common.{refl, subst}
use Rattle.std.specs.List.{Contains}
use Rattle.sat_parts.specs.parts.Assumed.{AreConsideredUpTo}
use Rattle.sat_parts.specs.parts.Whole.{state}
use Rattle.sat_parts.proofs.lemmas.clause.ListLemmas.{place_in}
use Rattle.sat_parts.proofs.lemmas.parts.AssumeLemmas.{placed_passed, decided_assumed, levels_assumed}
use Rattle.sat_parts.proofs.parts.assumptions.enqueue_assumption.Goals as goal
use Rattle.sat_parts.proofs.parts.assumptions.enqueue_assumption.Goals.{After-next_untrue-next}

-- the place after the true assumptions that were skipped is right, too
module _ (c : After-next_untrue-next) where
  placed : AreConsideredUpTo c.args.assumptions.now.lits.items c.args.assumptions.now.below.items c.next_untrue-next.new.assumptions.place (state c.args.parts.now)
  placed =
      let a = c.args.assumptions.now in
      let e = c.next_untrue-next.ensures in
      placed_passed a.lits.items a.below.items a.place c.next_untrue-next.new.assumptions.place (state c.args.parts.now) c.requires.holds.below.propagation.agrees c.requires.placed e.further (rw e.lits at e.within) e.passed

pub returns-then-lit_is_false-clause-placed : goal.returns-then-lit_is_false-clause-placed
returns-then-lit_is_false-clause-placed c = rw (c.next_untrue-next.ensures.lits, c.next_untrue-next.ensures.below) (placed (goal.at.returns-then-lit_is_false-clause-placed c).After-next_untrue-next)

pub begin_level-requires-clause-placed : goal.begin_level-requires-clause-placed
begin_level-requires-clause-placed c = rw (c.next_untrue-next.ensures.lits, c.next_untrue-next.ensures.below) (placed (goal.at.begin_level-requires-clause-placed c).After-next_untrue-next)

pub returns-in-None-clause-placed : goal.returns-in-None-clause-placed
returns-in-None-clause-placed c = rw (c.next_untrue-next.ensures.lits, c.next_untrue-next.ensures.below) (placed (goal.at.returns-in-None-clause-placed c).After-next_untrue-next)

pub returns-then-lit_is_false-clause-says : goal.returns-then-lit_is_false-clause-says
returns-then-lit_is_false-clause-says c =
    let a = c.args.assumptions.now in
    let s = state c.args.parts.now in
    let h = c.requires.holds.below in
    let n = c.next_untrue-next.new.assumptions in
    let e = c.next_untrue-next.ensures in
    let x = c.in-Some.ensures.next in
    let here = placed (goal.at.returns-then-lit_is_false-clause-says c).After-next_untrue-next in (
      refl,
      rw e.lits (subst (λ z. Contains a.lits.items z) x.1 (place_in a.lits.items n.place x.0)),
      c.lit_is_false.ensures.0 c.if-lit_is_false.true,
      rw e.below (levels_assumed a.lits.items a.below.items n.place s here x.0),
      rw e.lits (decided_assumed a.lits.items a.below.items n.place s h.propagation.agrees h.levelled here x.0),
    )

pub returns-in_ok-begin_level-in-Some-clause-word : goal.returns-in_ok-begin_level-in-Some-clause-word
returns-in_ok-begin_level-in-Some-clause-word c = rw c.next_untrue-next.ensures.lits at c.in_ok-begin_level-in-Some.ensures.word
