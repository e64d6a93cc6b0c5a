use Rattle.std.proofs.Common.{◌≡◌, sym, ap, subst, ◌∙◌, arith}
use Rattle.std.proofs.lemmas.List.{get_or_read}
use Rattle.sat_checker.specs.LiteralSets.{is_among}
use Rattle.sat_checker.specs.inner.PairView.{Indexed, places_in, first_of, places_after}
use Rattle.sat_checker.specs.inner.LinkView.{linked_from, link_at, LinksEnd}
use Rattle.sat_checker.specs.declared.store.links.Link.{Link}
use Rattle.sat_checker.proofs.lemmas.pairs.Links.{next_kept}
use Rattle.sat_checker.proofs.store.sorted_pairs.SortedPairs.next.Goals as goal

pub index-requires : goal.index-requires
index-requires c =
    let n = next_kept c.self.inside.heads.items c.self.inside.links.items c.self.inside.shift c.self.invariant c.args.hash c.args.place (ap (λ (x : Indexed). is_among (places_in c.args.hash x.pairs) c.args.place) c.self.view_is ∙ c.requires) in
    omega (arith, n.0, c.self.inside.links.ok.0)

pub first_from-requires : goal.first_from-requires
first_from-requires c =
    let n = next_kept c.self.inside.heads.items c.self.inside.links.items c.self.inside.shift c.self.invariant c.args.hash c.args.place (ap (λ (x : Indexed). is_among (places_in c.args.hash x.pairs) c.args.place) c.self.view_is ∙ c.requires) in
    let read : c.index.result.now ≡ link_at c.self.inside.links.items c.args.place = get_or_read c.self.inside.links.items c.args.place c.index.result.now n.0 c.index.ensures (record { hash = 0; next = 0 }) in
    subst (λ ls. LinksEnd ls c.index.result.now.next) (sym c.deref.ensures.value) (subst (λ (l : Link). LinksEnd c.self.inside.links.items l.next) (sym read) n.1)

pub returns : goal.returns
returns c =
    let n = next_kept c.self.inside.heads.items c.self.inside.links.items c.self.inside.shift c.self.invariant c.args.hash c.args.place (ap (λ (x : Indexed). is_among (places_in c.args.hash x.pairs) c.args.place) c.self.view_is ∙ c.requires) in
    let read : c.index.result.now ≡ link_at c.self.inside.links.items c.args.place = get_or_read c.self.inside.links.items c.args.place c.index.result.now n.0 c.index.ensures (record { hash = 0; next = 0 }) in
    c.first_from.ensures ∙ ap (λ ls. first_of (places_in c.args.hash (linked_from ls c.index.result.now.next))) c.deref.ensures.value ∙ ap (λ (l : Link). first_of (places_in c.args.hash (linked_from c.self.inside.links.items l.next))) read
    ∙ ap first_of (sym n.2) ∙ ap (λ (x : Indexed). first_of (places_after c.args.place (places_in c.args.hash x.pairs))) c.self.view_is
