use Rattle.std.proofs.Common.{ℕ, List, [], get_or, ap, sym, refl, ◌∙◌}
use Rattle.std.proofs.lemmas.List.{get_or_read}
use Rattle.sat_parts.specs.declared.prop.watch.Watch.{Watch}
use Rattle.sat_parts.specs.prop.WatchLists.{WatchState, watches_of, with_lists_up_to}
use Rattle.sat_parts.proofs.lemmas.prop.WidenLemmas.{wide_step, wide_at}
use Rattle.sat_parts.proofs.prop.watch.Watchlists.watched_by_mut.Goals as goal

pub returns : goal.returns
returns c =
    let made : List (List Watch) → WatchState = λ ls. record { lists = ls; enabled = c.self.inside.enabled } in
    let x : List Watch = c.index_mut.result.now in (
      (
        refl,
        λ w.
            rw (← c.self.view_is)
            (ap made (wide_step c.self.inside.count c.self.inside.watches.items c.make_list.new.watches.items c.args.lit c.code-code.result (λ (ws : List Watch). w) c.index_mut.result.now w
            c.make_list.ensures.room.few c.make_list.ensures.made c.make_list.ensures.same c.code-code.ensures.value c.index_mut.ensures.value refl)),
      ),
      record {
        value =
            get_or_read c.make_list.new.watches.items c.code-code.result x c.make_list.ensures.made c.index_mut.ensures.value []
            ∙ sym (wide_at c.self.inside.count c.make_list.new.watches.items c.code-code.result)
            ∙ ap (λ (ls : List (List Watch)). get_or ls c.code-code.result []) c.make_list.ensures.same
            ∙ ap (λ (k : ℕ). get_or (with_lists_up_to c.self.inside.count c.self.inside.watches.items) k []) c.code-code.ensures.value
            ∙ ap (λ (s : WatchState). watches_of s.lists c.args.lit) c.self.view_is;
        writes_back = tt;
      },
    )
