use Rattle.std.proofs.lemmas.Grind.{common_steps}
use Rattle.std.proofs.Common.{sym, ◌∙◌, arith}
use Rattle.sat_store.proofs.lemmas.schedule.LubyLemmas.{luby_by_bound, step_last, step_rest, step_less}
use Rattle.sat_store.proofs.luby.luby_term.Goals as goal

pub loop-bits-init : goal.loop-bits-init
loop-bits-init c = (omega arith, omega arith, omega arith, luby_by_bound 64 c.args.number (omega arith))

pub returns-then-rest-half : goal.returns-then-rest-half
returns-then-rest-half c = sym (step_last c.loop-bits.bits c.loop-bits.rest c.power_of_two-half.result c.loop-bits-test.true c.power_of_two-half.ensures.value c.if-rest-half.true) ∙ c.loop-bits.invariant.3

pub loop-bits-preserved-then-rest-half-2 : goal.loop-bits-preserved-then-rest-half-2
loop-bits-preserved-then-rest-half-2 c = grind (arith, common_steps, step_rest)

pub loop-bits-preserved : goal.loop-bits-preserved
loop-bits-preserved c = grind (arith, common_steps, step_less)
