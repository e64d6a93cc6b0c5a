use Rattle.std.proofs.Common.{◌∙◌, sym, arith}
use Rattle.sat_solver.proofs.lemmas.session.CountingLemmas.{shorten_on, shorten_stop, shorten_end}
use Rattle.sat_solver.proofs.proof.hash_bits.shorten.Goals as goal

pub returns-then-not-is_long-clause-value : goal.returns-then-not-is_long-clause-value
returns-then-not-is_long-clause-value c = shorten_stop c.loop.counter c.args.clauses c.loop.bits (omega (arith, c.loop-test.true)) (sym c.if-not-is_long.true ∙ c.is_long.ensures) ∙ c.loop.invariant.0

pub loop-preserved : goal.loop-preserved
loop-preserved c = (shorten_on c.loop.counter c.args.clauses c.loop.bits c.saturating_sub-bits.result (omega (arith, c.loop-test.true)) (sym c.if-not-is_long.false ∙ c.is_long.ensures) c.saturating_sub-bits.ensures ∙ c.loop.invariant.0, omega (arith, c.loop.invariant.1, c.saturating_sub-bits.ensures))

pub returns-clause-value : goal.returns-clause-value
returns-clause-value c = shorten_end c.loop.counter c.args.clauses c.loop.bits (omega (arith, c.loop-test.false)) ∙ c.loop.invariant.0
