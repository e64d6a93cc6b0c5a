use Rattle.std.proofs.lemmas.Grind.{common_steps}
use Rattle.std.proofs.Common.{List, ap, refl, arith}
use Rattle.sat_parts.specs.declared.prop.watch.Watch.{Watch}
use Rattle.sat_parts.specs.prop.WatchLists.{WatchState}
use Rattle.sat_parts.proofs.lemmas.prop.WidenLemmas.{wide_step, wide_past, nil_of}
use Rattle.sat_parts.proofs.prop.watch.Watchlists.put_list.Goals as goal

pub returns-then-len-eq0 : goal.returns-then-len-eq0
returns-then-len-eq0 c = grind (arith, common_steps, wide_past, nil_of)

pub returns : goal.returns
returns c =
    let made : List (List Watch) → WatchState = λ ls. record { lists = ls; enabled = c.self.inside.enabled } in
    rw (← c.self.view_is)
    (ap made (wide_step c.self.inside.count c.self.inside.watches.items c.make_list.new.watches.items c.args.lit c.code-code.result (λ (ws : List Watch). c.args.list) c.index_mut.result.now c.args.list
    c.make_list.ensures.room.few c.make_list.ensures.made c.make_list.ensures.same c.code-code.ensures.value c.index_mut.ensures.value refl))
