use Rattle.std.proofs.Common.{◌∙◌, sym, arith}
use Rattle.sat_solver.proofs.lemmas.session.CountingLemmas.{widen_on, widen_stop, widen_end}
use Rattle.sat_solver.proofs.proof.hash_bits.widen.Goals as goal

pub returns-then-not-is_short-clause-value : goal.returns-then-not-is_short-clause-value
returns-then-not-is_short-clause-value c = widen_stop c.loop.counter c.args.clauses c.loop.bits (omega (arith, c.loop-test.true)) (sym c.if-not-is_short.true ∙ c.is_short.ensures) ∙ c.loop.invariant.0

pub loop-preserved : goal.loop-preserved
loop-preserved c = (widen_on c.loop.counter c.args.clauses c.loop.bits c.min-bits.result (omega (arith, c.loop-test.true)) (sym c.if-not-is_short.false ∙ c.is_short.ensures) c.min-bits.ensures ∙ c.loop.invariant.0, omega (arith, c.loop.invariant.1, c.min-bits.ensures))

pub returns-clause-value : goal.returns-clause-value
returns-clause-value c = widen_end c.loop.counter c.args.clauses c.loop.bits (omega (arith, c.loop-test.false)) ∙ c.loop.invariant.0
