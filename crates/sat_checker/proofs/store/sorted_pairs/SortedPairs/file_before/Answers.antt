use Rattle.std.proofs.Common.{◌+◌, ◌<◌, ◌≡◌, ◌∷◌, ◌++◌, List, take, drop, length, sym, subst, ap, ◌∙◌, arith}
use Rattle.std.proofs.lemmas.List.{length-set}
use Rattle.std.specs.List.{AllByRecursion}
use Rattle.sat_checker.specs.inner.PairView.{Indexed}
use Rattle.sat_checker.specs.inner.LinkView.{listed_pairs, AreLinkedFrom, PairListsInvariant, SetsLink}
use Rattle.sat_checker.specs.declared.store.links.Link.{Link}
use Rattle.sat_checker.proofs.lemmas.pairs.Places.{only_after}
use Rattle.sat_checker.proofs.lemmas.pairs.Changing.{linked_same, filed_before, kept_before, written}
use Rattle.sat_checker.proofs.store.sorted_pairs.SortedPairs.file_before.Goals as goal

pub link_before-requires-clause-linked : goal.link_before-requires-clause-linked
link_before-requires-clause-linked c =
    let above = subst (λ (x : Indexed). AllByRecursion (λ q. c.args.place < q.place) x.pairs) (sym c.self.view_is) c.requires.above in
    subst (λ hs. AreLinkedFrom (c.args.place + 1) hs c.deref_mut-2.result.now c.self.inside.shift) (sym c.deref_mut.ensures.value)
    (subst (λ ls. AreLinkedFrom (c.args.place + 1) c.self.inside.heads.items ls c.self.inside.shift) (sym c.deref_mut-2.ensures.value)
    (linked_same c.self.inside.heads.items c.self.inside.links.items c.self.inside.shift 0 (c.args.place + 1) c.self.invariant.linked (sym (only_after c.self.inside.links.items c.args.place above))))

pub invariant_of-self : goal.invariant_of-self
invariant_of-self c =
    let heads = c.link_before.new.heads in
    let links = c.link_before.new.links in
    let old = c.self.inside.links.items in
    let above = subst (λ (x : Indexed). AllByRecursion (λ q. c.args.place < q.place) x.pairs) (sym c.self.view_is) c.requires.above in
    let inside : c.args.place < length c.self.inside.links.items = omega (arith, ap (λ (x : Indexed). x.places) c.self.view_is, c.requires.inside) in
    let set = subst (λ ls. SetsLink c.args.place c.args.hash ls c.link_before.new.links) c.deref_mut-2.ensures.value c.link_before.ensures.set in
    let count : length c.link_before.new.heads ≡ length c.self.inside.heads.items = c.link_before.ensures.heads ∙ ap length c.deref_mut.ensures.value in
    let places : length c.link_before.new.links ≡ length c.self.inside.links.items = ap length set.is ∙ length-set old c.args.place (record { hash = c.args.hash; next = set.next }) in
    subst (λ hs. PairListsInvariant hs (take c.self.inside.links.len (links ++ drop (length links) old)) c.self.inside.shift) (sym (written c.self.inside.heads.len heads (drop (length heads) c.self.inside.heads.items) (omega (arith, count, c.self.inside.heads.ok.0))))
    (subst (λ ls. PairListsInvariant c.link_before.new.heads ls c.self.inside.shift) (sym (written c.self.inside.links.len links (drop (length links) c.self.inside.links.items) (omega (arith, places, c.self.inside.links.ok.0))))
    (kept_before c.self.inside.heads.items heads old links c.self.inside.shift c.args.place c.args.hash c.self.invariant c.link_before.ensures.linked set count inside above))

pub returns : goal.returns
returns c =
    let heads = c.link_before.new.heads in
    let links = c.link_before.new.links in
    let old = c.self.inside.links.items in
    let above = subst (λ (x : Indexed). AllByRecursion (λ q. c.args.place < q.place) x.pairs) (sym c.self.view_is) c.requires.above in
    let inside : c.args.place < length c.self.inside.links.items = omega (arith, ap (λ (x : Indexed). x.places) c.self.view_is, c.requires.inside) in
    let set = subst (λ ls. SetsLink c.args.place c.args.hash ls c.link_before.new.links) c.deref_mut-2.ensures.value c.link_before.ensures.set in
    let places : length c.link_before.new.links ≡ length c.self.inside.links.items = ap length set.is ∙ length-set old c.args.place (record { hash = c.args.hash; next = set.next }) in
    ap (λ (ls : List Link). record { pairs = listed_pairs ls; places = length ls }) (written c.self.inside.links.len links (drop (length links) c.self.inside.links.items) (omega (arith, places, c.self.inside.links.ok.0)))
    ∙ ap (λ ps. record { pairs = ps; places = length c.link_before.new.links }) (filed_before heads old links c.self.inside.shift c.args.place c.args.hash c.link_before.ensures.linked set inside above).is
    ∙ ap (λ n. record { pairs = (record { hash = c.args.hash; place = c.args.place }) ∷ listed_pairs c.self.inside.links.items; places = n }) places
    ∙ ap (λ (x : Indexed). record { pairs = (record { hash = c.args.hash; place = c.args.place }) ∷ x.pairs; places = x.places }) c.self.view_is
