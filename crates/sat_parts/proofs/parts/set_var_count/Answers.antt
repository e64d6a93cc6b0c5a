use Rattle.std.proofs.Common.{◌≡◌}
use Rattle.std.proofs.lemmas.Result.{on_ok_weaker}
use Rattle.sat_store.specs.heap.Vsids.{with_variables}
use Rattle.sat_parts.specs.parts.Round.{RoundInvariant}
use Rattle.sat_parts.specs.parts.Frame.{AddsVars}
use Rattle.sat_parts.proofs.lemmas.parts.GrowLemmas.{sound_grown, grown_frame}
use Rattle.sat_parts.proofs.parts.set_var_count.Goals as goal

pub returns : goal.returns
returns c =
    let p = c.args.parts.now in
    let n = c.args.count in
    let keep : c.set_var_count-6.new.self ≡ with_variables c.args.count c.args.parts.now.vsids →
    RoundInvariant c.args.parts.now.clauses c.args.parts.now.db c.set_var_count.new.self c.set_var_count-2.new.self c.set_var_count-3.new.self c.set_var_count-4.new.self c.set_var_count-5.new.self c.set_var_count-6.new.self =
    λ e.
    rw (e, c.in_ok-set_var_count.ensures.done, c.in_ok-set_var_count-2.ensures.done, c.in_ok-set_var_count-3.ensures.done, c.in_ok-set_var_count-4.ensures.done, c.in_ok-set_var_count-5.ensures.done)
    (sound_grown p.clauses p.db p.watchlists p.binary p.assignment p.graph p.trail p.vsids n c.requires.holds c.requires.more c.requires.few) in
    let frame : c.set_var_count-6.new.self ≡ with_variables c.args.count c.args.parts.now.vsids →
    AddsVars c.args.parts.now
    (record c.args.parts.now { watchlists = c.set_var_count.new.self; binary = c.set_var_count-2.new.self; assignment = c.set_var_count-3.new.self; graph = c.set_var_count-4.new.self; trail = c.set_var_count-5.new.self; vsids = c.set_var_count-6.new.self })
    c.args.count =
    λ e.
    rw (e, c.in_ok-set_var_count-2.ensures.done, c.in_ok-set_var_count-3.ensures.done, c.in_ok-set_var_count-4.ensures.done, c.in_ok-set_var_count-5.ensures.done)
    (grown_frame p n c.set_var_count.new.self c.requires.holds c.requires.more) in
    record { holds = on_ok_weaker c.set_var_count-6.result keep c.set_var_count-6.ensures.counted; grown = on_ok_weaker c.set_var_count-6.result frame c.set_var_count-6.ensures.counted }
