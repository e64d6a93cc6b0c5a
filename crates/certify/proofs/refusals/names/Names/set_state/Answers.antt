use Rattle.std.proofs.Common.{◌+◌, ℕ, refl, ap, arith}
use Rattle.sat_base.specs.values.Tables.{SetsValue}
use Rattle.certify.specs.declared.refusals.NameState.TheVariants as state
use Rattle.certify.proofs.lemmas.confirm.Following.{on_ok}
use Rattle.certify.proofs.lemmas.judge.States.{past_used, state_set}
use Rattle.certify.proofs.refusals.names.Names.set_state.Goals as goal

pub returns : goal.returns
returns c =
    let old = c.args.self.now in
    on_ok c.set.result (SetsValue state.Sampled old.states c.set.new.self c.index-index.result c.args.state) _
    (λ h used. state_set old _ c.args.state c.index-index.result (c.args.var + 1) (omega arith) (ap (λ (n : ℕ). n + 1) c.index-index.ensures.value) refl h used) c.set.ensures.ok

pub returns-then-index-self : goal.returns-then-index-self
returns-then-index-self c = λ used. absurd (used (past_used c.args.self.now (c.args.var + 1) (omega (arith, c.index-index.ensures.value))))
