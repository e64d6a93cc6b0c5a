use Rattle.std.proofs.Common.{ℕ, ◌≡◌, ◌+◌, ◌-◌, ◌<◌, true, not, List, length, get_or, take, drop, sym, ap, ◌∙◌, arith}
use Rattle.std.proofs.lemmas.Grind.{get_or_default_zero}
use Rattle.sat_parts.specs.clause.Db.{is_live, live_refs}
use Rattle.sat_parts.proofs.lemmas.clause.IterLemmas.{live_rest}
use Rattle.sat_parts.proofs.clause.iter.ClausesIterIterator.next.Goals as goal

pub returns-clause-steps : goal.returns-clause-steps
returns-clause-steps c =
    let words : List ℕ = c.self.inside.clauses.now in
    let refs : List ℕ = c.self.inside.refs.now in
    let lt : c.first_live-at.result < length c.self.inside.refs.now = omega (arith, c.first_live-at.ensures.within, c.if-at-self.false) in
    let live : is_live c.self.inside.clauses.now (get_or c.self.inside.refs.now c.first_live-at.result 0) ≡ true = ap (λ b. not b) (c.first_live-at.ensures.live lt) in
    sym c.self.view_is
    ∙ live_rest c.self.inside.clauses.now c.self.inside.refs.now c.first_live-at.result (get_or c.self.inside.refs.now c.first_live-at.result c.index-self-at.result)
    c.first_live-at.ensures.none lt live (get_or_default_zero c.self.inside.refs.now c.first_live-at.result c.index-self-at.result lt)

pub returns-clause-goes : goal.returns-clause-goes
returns-clause-goes c =
    let fewer : length (live_refs c.self.inside.clauses.now (take (length c.self.inside.refs.now - (c.first_live-at.result + 1)) (drop (c.first_live-at.result + 1) c.self.inside.refs.now))) + 1 ≡ length c.args.self.now =
    omega (arith, ap (λ (xs : List ℕ). length xs) (returns-clause-steps c)) in
    record { on = λ fin. (tt, fin, omega arith); keeps = tt; rests = λ fin. tt }
