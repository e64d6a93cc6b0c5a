use Rattle.std.proofs.lemmas.Grind.{common_steps}
use Rattle.std.proofs.Common.{List, [], ap, refl, ◌∙◌, arith}
use Rattle.sat_parts.specs.declared.prop.watch.Watch.{Watch}
use Rattle.sat_parts.specs.prop.WatchLists.{WatchState}
use Rattle.sat_parts.proofs.lemmas.prop.WidenLemmas.{wide_step, wide_past}
use Rattle.sat_parts.proofs.prop.watch.Watchlists.take_list.Goals as goal

pub returns-then-code-len-clause-rest : goal.returns-then-code-len-clause-rest
returns-then-code-len-clause-rest c = grind (arith, common_steps, wide_past)

pub returns-clause-rest : goal.returns-clause-rest
returns-clause-rest c =
    let made : List (List Watch) → WatchState = λ ls. record { lists = ls; enabled = c.self.inside.enabled } in
    rw (← c.self.view_is)
    (ap made (wide_step c.self.inside.count c.self.inside.watches.items c.self.inside.watches.items c.args.lit c.code-code.result (λ (ws : List Watch). []) c.index_mut-list.result.now c.replace.new.dest
    c.self.invariant.few (omega arith) refl c.code-code.ensures.value c.index_mut-list.ensures.value (c.replace.ensures.after ∙ c.new-2.ensures)))
