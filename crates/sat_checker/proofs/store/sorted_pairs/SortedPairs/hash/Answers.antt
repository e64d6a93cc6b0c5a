use Rattle.std.proofs.Common.{◌≡◌, ◌<◌, ◌∙◌, length, ap, arith}
use Rattle.std.proofs.lemmas.List.{get_or_read}
use Rattle.sat_checker.specs.LiteralSets.{is_among}
use Rattle.sat_checker.specs.inner.PairView.{Indexed, places_in}
use Rattle.sat_checker.specs.inner.LinkView.{listed_pairs, link_at}
use Rattle.sat_checker.specs.declared.store.links.Link.{Link}
use Rattle.sat_checker.proofs.lemmas.pairs.Places.{all_there}
use Rattle.sat_checker.proofs.lemmas.pairs.Walks.{hash_of_pair}
use Rattle.sat_checker.proofs.store.sorted_pairs.SortedPairs.hash.Goals as goal

pub returns : goal.returns
returns c = λ h m.
    let links = c.self.inside.links.items in
    let count = ap (λ (x : Indexed). x.places) c.self.view_is in
    let inside : c.args.place < length c.self.inside.links.items = omega (arith, count, c.requires) in
    let read : c.index.result.now ≡ link_at c.self.inside.links.items c.args.place = get_or_read c.self.inside.links.items c.args.place c.index.result.now inside c.index.ensures (record { hash = 0; next = 0 }) in
    ap (λ (l : Link). l.hash) read ∙ hash_of_pair links (listed_pairs links) c.args.place h (all_there links) (ap (λ (x : Indexed). is_among (places_in h x.pairs) c.args.place) c.self.view_is ∙ m)
