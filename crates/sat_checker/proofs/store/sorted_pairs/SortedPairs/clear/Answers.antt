use Rattle.std.proofs.Common.{◌<◌, ◌≡◌, List, [], ◌++◌, take, drop, length, sym, subst, ap, ◌∙◌, arith}
use Rattle.sat_checker.specs.inner.PairView.{Indexed}
use Rattle.sat_checker.specs.inner.LinkView.{listed_pairs, PairListsInvariant}
use Rattle.sat_checker.specs.declared.store.links.Link.{Link}
use Rattle.sat_checker.proofs.lemmas.pairs.Changing.{kept_none, lists_none, written}
use Rattle.sat_checker.proofs.store.sorted_pairs.SortedPairs.clear.Goals as goal

pub invariant_of-self : goal.invariant_of-self
invariant_of-self c =
    let heads = c.clear_heads.new.heads in
    let links = c.clear_links.new.links in
    let count : length c.clear_heads.new.heads ≡ length c.self.inside.heads.items = omega (arith, c.clear_heads.ensures.count, ap length c.deref_mut.ensures.value) in
    let places : length c.clear_links.new.links ≡ length c.self.inside.links.items = omega (arith, c.clear_links.ensures.count, ap length c.deref_mut-2.ensures.value) in
    subst (λ hs. PairListsInvariant hs (take c.self.inside.links.len (links ++ drop (length links) c.self.inside.links.items)) c.self.inside.shift) (sym (written c.self.inside.heads.len heads (drop (length heads) c.self.inside.heads.items) (omega (arith, count, c.self.inside.heads.ok.0))))
    (subst (λ ls. PairListsInvariant c.clear_heads.new.heads ls c.self.inside.shift) (sym (written c.self.inside.links.len links (drop (length links) c.self.inside.links.items) (omega (arith, places, c.self.inside.links.ok.0))))
    (kept_none heads links c.self.inside.shift (omega (arith, places, c.self.invariant.linked.few)) c.clear_heads.ensures.none c.clear_links.ensures.none
    (λ l. let some : 0 < length c.self.inside.heads.items = c.self.invariant.some (omega (arith, places, l)) in omega (arith, count, some)) c.self.invariant.few c.self.invariant.below))

pub returns : goal.returns
returns c =
    let heads = c.clear_heads.new.heads in
    let links = c.clear_links.new.links in
    let places : length c.clear_links.new.links ≡ length c.self.inside.links.items = omega (arith, c.clear_links.ensures.count, ap length c.deref_mut-2.ensures.value) in
    ap (λ (ls : List Link). record { pairs = listed_pairs ls; places = length ls }) (written c.self.inside.links.len links (drop (length links) c.self.inside.links.items) (omega (arith, places, c.self.inside.links.ok.0)))
    ∙ ap (λ ps. record { pairs = ps; places = length c.clear_links.new.links }) (lists_none heads links c.self.inside.shift (omega (arith, places, c.self.invariant.linked.few)) c.clear_heads.ensures.none c.clear_links.ensures.none).is
    ∙ ap (λ n. record { pairs = []; places = n }) (places ∙ ap (λ (x : Indexed). x.places) c.self.view_is)
