use Rattle.std.proofs.Common.{ℕ, ◌+◌, ◌%◌, ◌^◌, ◌<◌, ◌≡◌, Bool, true, false, not, cond, get_or, ap, ◌∙◌, arith}
use Rattle.std.proofs.lemmas.List.{get_or_read}
use Rattle.sat_base.specs.values.Literals.{negated}
use Rattle.sat_checker.specs.LiteralSets.{is_among}
use Rattle.sat_checker.proofs.lemmas.propagation.Looking.{CountsOpen-first, CountsOpen-next}
use Rattle.sat_checker.proofs.units.assigned.look_at.Goals as goal

as_one : (b : Bool) (n : ℕ) → n ≡ cond b 1 0 → n < 2
as_one true n e = omega (arith, e)
as_one false n e = omega (arith, e)

pub overflow_add-count : goal.overflow_add-count
overflow_add-count c = let one = as_one (not c.is_assumed-is_open.result) c.number_if-one.result c.number_if-one.ensures in omega (arith, c.loop-lit.invariant.few)

pub loop-lit-init : goal.loop-lit-init
loop-lit-init c = CountsOpen-first c.args.assigned.now.literals c.args.clause.now

pub loop-lit-preserved : goal.loop-lit-preserved
loop-lit-preserved c =
    let clause = c.args.clause.now in
    let i : ℕ = c.loop-lit.lit-index in
    let assumed = c.args.assigned.now.literals in
    let b : Bool = not c.is_assumed-is_open.result in
    let item = get_or_read clause i c.lit-item.result c.loop-lit-test.true c.lit-item.is 0 in
    let code : c.code-code.result ≡ get_or clause i 0 = c.code-code.ensures.value ∙ item in
    let other : c.code-other.result ≡ negated (get_or clause i 0) = c.code-other.ensures.value ∙ c.not.ensures ∙ ap negated item in
    let is_open = ap not (c.is_assumed-is_open.ensures ∙ c.near-near.ensures c.code-other.result c.if-other-near.false ∙ ap (is_among assumed) other) in
    let sum = ap (λ n. (c.loop-lit.codes + n) % 2 ^ 64) (c.number_if-added.ensures ∙ ap (λ n. cond b n 0) code) in
    CountsOpen-next assumed clause i c.loop-lit-test.true c.loop-lit.count c.loop-lit.codes (c.loop-lit.count + c.number_if-one.result) _ b (omega (arith, code, c.code-code.ensures.bound)) (omega arith) is_open (ap (λ n. c.loop-lit.count + n) c.number_if-one.ensures) sum c.loop-lit.invariant
