use Rattle.std.proofs.lemmas.Grind.{common_steps}
use Rattle.std.proofs.Common.{◌≡◌, ◌∙◌, length, arith}
use Rattle.sat_parts.specs.parts.Loadable.{false_last, without_false}
use Rattle.sat_parts.specs.parts.Whole.{state}
use Rattle.sat_parts.proofs.lemmas.parts.LoadFrames.{says_after}
use Rattle.sat_parts.proofs.lemmas.parts.SortLemmas.{shuffled_last, gone_last, sorted_last, found_last}
use Rattle.sat_parts.proofs.parts.load.load.Goals as goal

pub put_all_back-requires-clause-back : goal.put_all_back-requires-clause-back
put_all_back-requires-clause-back c = grind (arith, common_steps, gone_last)

pub returns-then-found-clause-says : goal.returns-then-found-clause-says
returns-then-found-clause-says c = grind (arith, common_steps, found_last)

pub load_sorted-requires-clause-fits : goal.load_sorted-requires-clause-fits
load_sorted-requires-clause-fits c =
    let values = c.args.parts.now.assignment.current in
    let given = c.args.given.now in
    let all : c.deref-2.result.now ≡ false_last c.args.parts.now.assignment.current c.args.given.now =
    rw (c.in_ok-found.ensures.lits, c.in_ok-found.ensures.false_lits) at (c.deref-2.ensures.value ∙ c.in_ok-kept.ensures.lits) in
    rw all (let e : length (false_last c.args.parts.now.assignment.current c.args.given.now) ≡ length c.args.given.now = (shuffled_last values given).size in omega (arith, c.requires.fits))

pub load_sorted-requires-clause-sorted : goal.load_sorted-requires-clause-sorted
load_sorted-requires-clause-sorted c =
    let p = c.args.parts.now in
    let m = c.put_all_back.new.parts in
    let e = c.put_all_back.ensures in
    let values = c.args.parts.now.assignment.current in
    let given = c.args.given.now in
    let one : c.deref.result.now ≡ false_last c.args.parts.now.assignment.current c.args.given.now =
    rw (c.in_ok-found.ensures.lits, c.in_ok-found.ensures.false_lits) at (c.deref.ensures.value ∙ c.in_ok-kept.ensures.lits) in
    let two : c.deref-2.result.now ≡ false_last c.args.parts.now.assignment.current c.args.given.now =
    rw (c.in_ok-found.ensures.lits, c.in_ok-found.ensures.false_lits) at (c.deref-2.ensures.value ∙ c.in_ok-kept.ensures.lits) in
    let kept : c.in_ok-kept.kept ≡ length (without_false c.args.parts.now.assignment.current c.args.given.now) = rw c.in_ok-found.ensures.lits at c.in_ok-kept.ensures.kept in
    rw (two, kept)
    (sorted_last (state p) (state m) p.vsids m.vsids given e.size e.values e.queue c.requires.distinct c.requires.below c.requires.ready (rw c.if-found.false at c.in_ok-found.ensures.found) (rw (one, kept) at e.fresh))

pub returns-clause-says : goal.returns-clause-says
returns-clause-says c = grind (arith, common_steps, says_after)
