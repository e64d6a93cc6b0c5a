use Rattle.std.proofs.lemmas.Grind.{common_steps}
use Rattle.std.proofs.Common.{◌≡◌, ap, sym, ◌∙◌, arith}
use Rattle.std.proofs.lemmas.Result.{err_from_is_err_and}
use Rattle.std.proofs.lemmas.Bool.{both_ways}
use Rattle.sat_checker.specs.inner.WalkResults.{clause_state_of}
use Rattle.sat_checker.specs.inner.SlotView.{literals_at}
use Rattle.sat_checker.specs.inner.Walk.{clause_state}
use Rattle.sat_checker.proofs.lemmas.propagation.Walking.{opens_roomy, opens_same}
use Rattle.sat_checker.proofs.lemmas.announcements.Noting.{leads_open, read_open}
use Rattle.sat_checker.proofs.rup.visit.Goals as goal
use Rattle.sat_checker.proofs.rup.visit.Goals.{After-look_at}

-- what the look found of the clause
looked : (c : After-look_at) → clause_state c.args.assigned.now.literals (literals_at c.args.clauses.now c.args.place) ≡ clause_state_of c.look_at.result
looked c = ap (clause_state c.args.assigned.now.literals) (sym c.literals.ensures.lent) ∙ sym c.look_at.ensures

pub returns-in_err-assume-in-Opens-clause-short : goal.returns-in_err-assume-in-Opens-clause-short
returns-in_err-assume-in-Opens-clause-short c =
    let failed = (err_from_is_err_and c.from_residual.result c.from_residual.ensures.1).1 in
    let v = looked (goal.at.returns-in_err-assume-in-Opens-clause-short c).After-look_at ∙ ap clause_state_of c.in-Opens.is in
    rw failed (λ h. both_ways _ c.in_err-assume-in-Opens.ensures.short (opens_roomy c.args.assigned.now.room c.args.assigned.now.literals (literals_at c.args.clauses.now c.args.place) c.in-Opens.lit v h))

pub returns-in_ok-assume-in-Opens-clause-noted : goal.returns-in_ok-assume-in-Opens-clause-noted
returns-in_ok-assume-in-Opens-clause-noted c = grind (arith, common_steps, leads_open, looked)

pub returns-in_ok-assume-in-Opens-clause-read : goal.returns-in_ok-assume-in-Opens-clause-read
returns-in_ok-assume-in-Opens-clause-read c =
    read_open c.args.clauses.now c.args.passed.now c.note.new.self c.args.assigned.now.literals c.args.place c.requires c.in-Opens.lit c.note.ensures.reasons c.note.ensures.conflict

pub returns-in_ok-assume-in-Opens-clause-same : goal.returns-in_ok-assume-in-Opens-clause-same
returns-in_ok-assume-in-Opens-clause-same c = grind (arith, common_steps, opens_same, looked)
