use Rattle.std.proofs.Common.{◌≡◌, ◌<◌, length, sym, ap, subst, ◌∙◌, arith}
use Rattle.std.proofs.lemmas.List.{get_or_read}
use Rattle.sat_checker.specs.inner.PairView.{Indexed, places_in, first_of}
use Rattle.sat_checker.specs.inner.LinkView.{linked_from, head_at, top_of, LinksEnd}
use Rattle.sat_checker.proofs.lemmas.pairs.Links.{places_part, part_walk}
use Rattle.sat_checker.proofs.store.sorted_pairs.SortedPairs.first.Goals as goal

pub first_from-requires : goal.first_from-requires
first_from-requires c =
    let heads = c.self.inside.heads.items in
    let links = c.self.inside.links.items in
    let inside : c.top-top.result < length c.self.inside.heads.items = omega (arith, c.top-top.ensures.within, c.len.ensures, c.self.inside.heads.ok.0) in
    let head : c.index.result.now ≡ head_at c.self.inside.heads.items c.top-top.result = get_or_read heads c.top-top.result c.index.result.now inside c.index.ensures 0 in
    subst (λ ls. LinksEnd ls c.index.result.now) (sym c.deref.ensures.value) (subst (LinksEnd c.self.inside.links.items) (sym head) (part_walk heads links c.self.inside.shift c.self.invariant.linked c.top-top.result inside))

pub returns : goal.returns
returns c =
    let heads = c.self.inside.heads.items in
    let links = c.self.inside.links.items in
    let count : c.len.result ≡ length c.self.inside.heads.items = omega (arith, c.len.ensures, c.self.inside.heads.ok.0) in
    let top : c.top-top.result ≡ top_of c.self.inside.shift (length c.self.inside.heads.items) c.args.hash = c.top-top.ensures.is ∙ ap (λ n. top_of c.self.inside.shift n c.args.hash) count in
    let inside : c.top-top.result < length c.self.inside.heads.items = omega (arith, c.top-top.ensures.within, count) in
    let head : c.index.result.now ≡ head_at c.self.inside.heads.items c.top-top.result = get_or_read heads c.top-top.result c.index.result.now inside c.index.ensures 0 in
    c.first_from.ensures ∙ ap (λ ls. first_of (places_in c.args.hash (linked_from ls c.index.result.now))) c.deref.ensures.value ∙ ap (λ h. first_of (places_in c.args.hash (linked_from c.self.inside.links.items h))) head
    ∙ ap first_of (sym (places_part heads links c.self.inside.shift c.self.invariant.linked c.args.hash c.top-top.result inside (sym top))) ∙ ap (λ (x : Indexed). first_of (places_in c.args.hash x.pairs)) c.self.view_is
