use Rattle.std.proofs.Common.{rules, ◌≡◌, ◌<◌, ◌∙◌, sym, ap, get_or, map, length, false, subst, arith}
use Rattle.std.specs.Option.{IfSome}
use Rattle.std.specs.Result.{result_ok}
use Rattle.std.proofs.lemmas.List.Sorted.{answers_always}
use Rattle.std.proofs.lemmas.List.{length-map}
use Rattle.std.proofs.lemmas.Option.{IfSome_then}
use Rattle.sat_checker.specs.LiteralSets.{is_among}
use Rattle.sat_checker.specs.inner.Marks.{IsIncreasing}
use Rattle.sat_checker.specs.inner.SlotView.{slot_at}
use Rattle.sat_checker.proofs.lemmas.sets.Searching.{found_by_key, absent_by_key}
use Rattle.sat_checker.proofs.lemmas.store.Entries.{entry_ids, id_at}
use Rattle.sat_checker.proofs.store.slots.Slots.place_of.Goals as goal

pub returns-clause-found : goal.returns-clause-found
returns-clause-found c =
    let position = c.binary_search_by_key.ensures.position (λ e. e.id) (answers_always _ _ _ (λ f a r g called. search rules)) in
    let found = found_by_key (λ e. e.id) c.args.id c.deref.result.now c.binary_search_by_key.result c.binary_search_by_key.ensures.bound position in
    let ids = ap (map (λ e. e.id)) c.deref.ensures.value ∙ entry_ids c.self.inside.buffer.items c.self.inside.entries.items c.args.self.now c.self.view_is in
    let count = ap length ids in
    subst (λ o. IfSome o (λ place. (place < length c.args.self.now) × ((slot_at c.args.self.now place).clause.id ≡ c.args.id))) (sym c.ok.ensures.value)
    (IfSome_then (result_ok c.binary_search_by_key.result) found (λ i p.
    let inside : i < length c.args.self.now = omega (arith, p.0, count, length-map c.deref.result.now (λ e. e.id), length-map c.args.self.now (λ s. s.clause.id)) in
    (inside, id_at c.args.self.now i c.args.id inside (ap (λ is. get_or is i 0) (sym ids) ∙ p.1))))

pub returns-clause-absent : goal.returns-clause-absent
returns-clause-absent c = λ none rising.
    let position = c.binary_search_by_key.ensures.position (λ e. e.id) (answers_always _ _ _ (λ f a r g called. search rules)) in
    let ids = ap (map (λ e. e.id)) c.deref.ensures.value ∙ entry_ids c.self.inside.buffer.items c.self.inside.entries.items c.args.self.now c.self.view_is in
    subst (λ is. is_among is c.args.id ≡ false) ids (absent_by_key (λ e. e.id) c.args.id c.deref.result.now c.binary_search_by_key.result position (sym c.ok.ensures.value ∙ none) (subst IsIncreasing (sym ids) rising))
