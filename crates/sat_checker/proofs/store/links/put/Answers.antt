use Rattle.std.proofs.Common.{◌≡◌, ◌∷◌, [], sym, ap, subst, ◌∙◌, arith, length, slice_set, length-append}
use Rattle.std.proofs.lemmas.List.{get_or_read, get_or_append_left}
use Rattle.sat_checker.specs.inner.LinkView.{link_at, head_at, no_place, LinksEnd}
use Rattle.sat_checker.specs.declared.store.links.Link.{Link}
use Rattle.sat_checker.proofs.lemmas.pairs.Links.{part_walk}
use Rattle.sat_checker.proofs.lemmas.pairs.Changing.{put_first, put_last, last_linked}
use Rattle.sat_checker.proofs.store.links.put.Goals as goal

pub last_from-last-requires : goal.last_from-last-requires
last_from-last-requires c = subst (λ ls. LinksEnd ls (head_at c.args.heads.now c.top-top.result)) (sym c.deref.ensures.value) (part_walk c.args.heads.now c.args.links.now.items c.args.shift c.requires.linked c.top-top.result c.top-top.ensures.within)

pub returns-in_default-clause-ok : goal.returns-in_default-clause-ok
returns-in_default-clause-ok c =
    let place : c.len-place.result ≡ length c.args.links.now.items = omega (arith, c.args.links.now.ok.0, c.len-place.ensures) in
    put_first c.args.heads.now c.args.links.now.items c.args.shift c.requires.linked c.top-top.result c.top-top.ensures.within c.args.hash (sym c.top-top.ensures.is) c.requires.few _ c.push.new.self.items
    (rw c.deref.ensures.value at c.in_default.ensures) c.in_ok-push.ensures.items (ap (slice_set c.args.heads.now c.top-top.result) place)

pub index-requires : goal.index-requires
index-requires c =
    let b = last_linked c.args.heads.now c.args.links.now.items c.args.shift c.requires.linked c.top-top.result c.top-top.ensures.within c.in-Some.last (rw c.deref.ensures.value at c.in-Some.ensures) in
    omega (arith, b.exists, c.args.links.now.ok.0, c.push.new.self.ok.0, ap length c.in_ok-push.ensures.items, length-append c.args.links.now.items (record { hash = c.args.hash; next = no_place } ∷ []))

pub index_mut-requires : goal.index_mut-requires
index_mut-requires c =
    let b = last_linked c.args.heads.now c.args.links.now.items c.args.shift c.requires.linked c.top-top.result c.top-top.ensures.within c.in-Some.last (rw c.deref.ensures.value at c.in-Some.ensures) in
    omega (arith, b.exists, c.args.links.now.ok.0, c.push.new.self.ok.0, ap length c.in_ok-push.ensures.items, length-append c.args.links.now.items (record { hash = c.args.hash; next = no_place } ∷ []))

pub returns-clause-ok : goal.returns-clause-ok
returns-clause-ok c =
    let links = c.args.links.now.items in
    let place : c.len-place.result ≡ length c.args.links.now.items = omega (arith, c.args.links.now.ok.0, c.len-place.ensures) in
    let last = rw c.deref.ensures.value at c.in-Some.ensures in
    let b = last_linked c.args.heads.now links c.args.shift c.requires.linked c.top-top.result c.top-top.ensures.within c.in-Some.last last in
    let read : c.index.result.now ≡ link_at c.args.links.now.items c.in-Some.last =
    get_or_read c.push.new.self.items c.in-Some.last c.index.result.now (omega (arith, b.exists, ap length c.in_ok-push.ensures.items, length-append c.args.links.now.items (record { hash = c.args.hash; next = no_place } ∷ []))) c.index.ensures (record { hash = 0; next = 0 })
    ∙ ap (λ xs. link_at xs c.in-Some.last) c.in_ok-push.ensures.items ∙ get_or_append_left links (record { hash = c.args.hash; next = no_place } ∷ []) (record { hash = 0; next = 0 }) c.in-Some.last b.exists in
    put_last c.args.heads.now links c.args.shift c.requires.linked c.top-top.result c.top-top.ensures.within c.args.hash (sym c.top-top.ensures.is) c.requires.few _ c.in-Some.last last
    (ap (λ n. slice_set c.push.new.self.items c.in-Some.last (record { hash = c.index.result.now.hash; next = n })) place
    ∙ ap (λ (l : Link). slice_set c.push.new.self.items c.in-Some.last (record { hash = l.hash; next = length c.args.links.now.items })) read
    ∙ ap (λ xs. slice_set xs c.in-Some.last (record { hash = (link_at c.args.links.now.items c.in-Some.last).hash; next = length c.args.links.now.items })) c.in_ok-push.ensures.items)
