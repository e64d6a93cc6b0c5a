use Rattle.std.proofs.Common.{ℕ, ◌≡◌, ◌+◌, ◌/◌, ◌≤◌, List, length, ap, arith}
use Rattle.std.proofs.lemmas.List.{get_or_read}
use Rattle.sat_parts.specs.declared.binary.Place.{Place}
use Rattle.sat_parts.specs.prop.Binaries.{unassigned_among}
use Rattle.sat_parts.specs.prop.Places.{no_place, place_at}
use Rattle.sat_parts.proofs.lemmas.prop.PlaceLemmas.{left_by, left_len, list_within}
use Rattle.sat_parts.proofs.binary.keep_open.Goals as goal

pub returns-clause-kept : goal.returns-clause-kept
returns-clause-kept c =
    let e : c.index-place.result.now ≡ place_at c.args.places.now.items c.args.code = get_or_read c.args.places.now.items c.args.code c.index-place.result.now c.requires.below c.index-place.ensures no_place in
    left_by c.args.places.now.items c.args.lits.now.items c.open_part-left.new.lits.items c.args.code c.open_part-left.result (λ (ls : List ℕ). unassigned_among c.args.assignment.now.current (c.args.code / 2) ls)
    c.index-place.result.now e c.requires.places c.open_part-left.ensures.size c.requires.below c.open_part-left.ensures.kept c.open_part-left.ensures.rest

pub returns-clause-left : goal.returns-clause-left
returns-clause-left c =
    let e : c.index-place.result.now ≡ place_at c.args.places.now.items c.args.code = get_or_read c.args.places.now.items c.args.code c.index-place.result.now c.requires.below c.index-place.ensures no_place in
    let within : c.index-place.result.now.start + c.open_part-left.result ≤ length c.open_part-left.new.lits.items =
    omega (arith, c.open_part-left.ensures.few, c.open_part-left.ensures.size, list_within c.args.places.now.items (length c.args.lits.now.items) c.args.code c.requires.places, ap (λ (p : Place). p.start + p.len) e) in
    left_len c.args.places.now.items c.open_part-left.new.lits.items c.args.code c.open_part-left.result c.index-place.result.now.start c.index-place.result.now.room c.requires.below within
