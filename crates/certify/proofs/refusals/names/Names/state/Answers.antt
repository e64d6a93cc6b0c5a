use Rattle.std.proofs.Common.{ℕ, ◌+◌, sym, ap, arith}
use Rattle.certify.proofs.lemmas.judge.States.{got_at, past_used}
use Rattle.certify.proofs.refusals.names.Names.state.Goals as goal

pub returns-then-index-self : goal.returns-then-index-self
returns-then-index-self c = sym (got_at c.args.self.now c.index-index.result (c.args.var + 1) c.get.result (omega arith) (ap (λ (n : ℕ). n + 1) c.index-index.ensures.value) c.get.ensures)

pub returns : goal.returns
returns c = sym (past_used c.args.self.now (c.args.var + 1) (omega (arith, c.index-index.ensures.value)))
