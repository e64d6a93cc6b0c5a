use Rattle.std.proofs.Common.{◌≡◌, ◌≤◌, arith, refl, length}
use Rattle.std.proofs.lemmas.Grind.{common_steps}
use Rattle.std.proofs.lemmas.List.{nil_from_length}
use Rattle.sat_solver.proofs.lemmas.load.GivenLemmas.{none_indexed, indexed, vacant_grown, below_all, front_kept}
use Rattle.sat_solver.proofs.variables.initialize.new_indices.Goals as goal

pub returns-then-is_empty : goal.returns-then-is_empty
returns-then-is_empty c = grind (arith, common_steps, common_steps, nil_from_length, none_indexed)

pub copy_globals-requires-clause-below : goal.copy_globals-requires-clause-below
copy_globals-requires-clause-below c = below_all c.args.search.now.parts (length c.args.globals.now) c.args.given.now c.requires.vacant.each

pub add_indices-requires-clause-vacant : goal.add_indices-requires-clause-vacant
add_indices-requires-clause-vacant c = vacant_grown c.args.search.now.parts c.set_var_count.new.parts _ _ c.args.given.now c.in_ok-set_var_count.ensures.grown c.count_above-count.ensures.past c.requires.vacant

pub returns : goal.returns
returns c =
    let o = c.args.search.now in
    let len : c.len.result ≡ length c.args.search.now.globals.items = omega (arith, c.len.ensures, c.args.search.now.globals.ok.0) in
    let more : length c.args.search.now.globals.items ≤ c.count_above-count.result = omega (arith, len, c.count_above-count.ensures.more) in
    indexed o _ c.args.globals.now c.args.given.now c.count_above-count.result c.requires.holds c.requires.bottom c.requires.same more (λ le. c.count_above-count.ensures.least (length c.args.globals.now) (omega (arith, len, le)) (below_all o.parts (length c.args.globals.now) c.args.given.now c.requires.vacant.each)) c.count_above-count.ensures.past
    c.set_var_count.new.parts c.in_ok-set_var_count.ensures.grown c.add_indices.ensures
    c.resize.new.self.items (front_kept o.globals.items _ c.count_above-count.result _ _ more c.in_ok-resize.ensures.items) (omega (arith, c.in_ok-resize.ensures.len, c.resize.new.self.ok.0)) c.copy_globals.ensures
    refl c.in_ok-set_var_count-2.ensures.size c.in_ok-set_var_count-2.ensures.clear c.in_ok-set_var_count-3.ensures.grows
