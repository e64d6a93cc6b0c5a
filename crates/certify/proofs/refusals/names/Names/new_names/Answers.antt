use Rattle.std.proofs.Common.{ℕ, ◌+◌, ◌≡◌, ◌∷◌, [], sym, ap, ◌∙◌, arith}
use Rattle.certify.specs.declared.refusals.NameState.TheVariants as state
use Rattle.certify.proofs.lemmas.judge.States.{got_at, in_use_at, new_hidden, new_used, sampled_used, witnessed_used}
use Rattle.certify.proofs.refusals.names.Names.new_names.Goals as goal

pub returns-in-Hidden-clause-names : goal.returns-in-Hidden-clause-names
returns-in-Hidden-clause-names c j h =
    let names = c.args.self.now in
    let i = c.index-index.result in
    let name : i + 1 ≡ c.args.var + 1 = ap (λ (n : ℕ). n + 1) c.index-index.ensures.value in
    let f = h.first in
    new_hidden names j (c.args.var + 1) h (omega arith) (got_at names i (c.args.var + 1) state.Hidden (omega arith) name (sym c.in-Hidden.is ∙ c.get.ensures)) ∙ ap (λ (n : ℕ). n ∷ []) (sym name)

pub returns-in-Sampled-clause-names : goal.returns-in-Sampled-clause-names
returns-in-Sampled-clause-names c j h =
    let names = c.args.self.now in
    let i = c.index-index.result in
    let name : i + 1 ≡ c.args.var + 1 = ap (λ (n : ℕ). n + 1) c.index-index.ensures.value in
    new_used names j (c.args.var + 1) h (in_use_at names i (c.args.var + 1) c.get.result (omega arith) name c.get.ensures (sampled_used c.get.result c.in-Sampled.is))

pub returns-in-Witnessed-clause-names : goal.returns-in-Witnessed-clause-names
returns-in-Witnessed-clause-names c j h =
    let names = c.args.self.now in
    let i = c.index-index.result in
    let name : i + 1 ≡ c.args.var + 1 = ap (λ (n : ℕ). n + 1) c.index-index.ensures.value in
    new_used names j (c.args.var + 1) h (in_use_at names i (c.args.var + 1) c.get.result (omega arith) name c.get.ensures (witnessed_used c.get.result c.in-Witnessed.is))
