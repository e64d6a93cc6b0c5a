use Rattle.std.proofs.Common.{◌≡◌, ◌+◌, ◌∙◌, ℕ, refl, sym, ap, arith}
use Rattle.certify.specs.declared.refusals.NameState.TheVariants as state
use Rattle.certify.proofs.lemmas.judge.States.{again_at, again_used, got_at, in_use_at, stays}
use Rattle.certify.proofs.refusals.names.Names.introduce.Goals as goal

pub returns-in-Hidden-clause-changes : goal.returns-in-Hidden-clause-changes
returns-in-Hidden-clause-changes c j h =
    let old = c.args.self.now in
    let i = c.index-index.result in
    let name : i + 1 ≡ c.args.var + 1 = ap (λ (n : ℕ). n + 1) c.index-index.ensures.value in
    again_at old _ j i (c.args.var + 1) h (omega arith) name c.index-index.ensures.bound refl c.reset.ensures.set (got_at old i (c.args.var + 1) state.Hidden (omega arith) name (sym c.in-Hidden.is ∙ c.get.ensures))

pub returns-in-Hidden-clause-in_use : goal.returns-in-Hidden-clause-in_use
returns-in-Hidden-clause-in_use c j h =
    again_used c.args.self.now (record { used = c.args.self.now.used; states = c.reset.new.self }) c.index-index.result (c.args.var + 1) (omega arith) (ap (λ (n : ℕ). n + 1) c.index-index.ensures.value) refl c.reset.ensures.set

pub returns-in_default : goal.returns-in_default
returns-in_default c =
    let old = c.args.self.now in
    let used = in_use_at old c.index-index.result (c.args.var + 1) c.get.result (omega arith) (ap (λ (n : ℕ). n + 1) c.index-index.ensures.value) c.get.ensures c.in_default.not-Hidden in
    record {
      changes = stays old (c.args.var + 1) used;
      in_use = λ j h. used;
    }
