use Rattle.std.proofs.Common.{◌≡◌, ◌↔◌, true, map, refl, ap, subst}
use Rattle.std.proofs.lemmas.Result.{IfOk-weaker, on_err_weaker}
use Rattle.sat_checker.specs.Propagation.{PassesCheck}
use Rattle.sat_checker.specs.inner.WalkNotes.{WalkNotes}
use Rattle.sat_checker.specs.inner.AssumedRoom.{signed}
use Rattle.sat_checker.specs.inner.SlotView.{bucket_of, live_clauses}
use Rattle.sat_checker.proofs.lemmas.propagation.Denied.{exact_when_reached, exact_when_walked}
use Rattle.sat_checker.proofs.lemmas.propagation.Walking.{Extends-undone}
use Rattle.sat_checker.proofs.lemmas.store.Buckets.{buckets_once, stored_further}
use Rattle.sat_checker.proofs.lemmas.announcements.Noting.{explained, never_reached}
use Rattle.sat_checker.proofs.rup.check_clause_with_hashes.Goals as goal

pub returns-in-Ok-true-clause-exact : goal.returns-in-Ok-true-clause-exact
returns-in-Ok-true-clause-exact c =
    λ _. exact_when_reached c.args.assigned.now.literals (signed c.args.negate c.args.literals.now) (map (bucket_of c.args.clauses.now) c.args.hashes.now) true (rw c.in-Ok-true.field-0-test at c.in-Ok-true.ensures.denied) refl

-- a literal was true
pub returns-in-Ok-true-clause-explained : goal.returns-in-Ok-true-clause-explained
returns-in-Ok-true-clause-explained c = λ _ _ u t. absurd (never_reached (signed c.args.negate c.args.literals.now) c.args.assigned.now.literals (rw c.in-Ok-true.field-0-test at c.in-Ok-true.ensures.denied) u t)

pub returns-in-Ok-false-clause-exact : goal.returns-in-Ok-false-clause-exact
returns-in-Ok-false-clause-exact c =
    IfOk-weaker c.walk_hashes.result _ _
    (λ answer found. λ _. exact_when_walked c.args.assigned.now.literals (signed c.args.negate c.args.literals.now) c.deny.new.assigned.literals (map (bucket_of c.args.clauses.now) c.args.hashes.now) answer
    (buckets_once c.args.clauses.now c.args.hashes.now c.len-count.ensures.increasing) (rw c.in-Ok-false.field-0-test at c.in-Ok-false.ensures.denied) found)
    c.walk_hashes.ensures.found

pub returns-in-Ok-false-clause-short : goal.returns-in-Ok-false-clause-short
returns-in-Ok-false-clause-short c =
    on_err_weaker c.walk_hashes.result (λ short. λ roomy. short (stored_further c.args.assigned.now.room c.deny.new.assigned.room (live_clauses c.args.clauses.now) c.deny.ensures.extends.room roomy)) c.walk_hashes.ensures.short

pub returns-in-Ok-false-clause-explained : goal.returns-in-Ok-false-clause-explained
returns-in-Ok-false-clause-explained c =
    IfOk-weaker c.walk_hashes.result _ _
    (λ answer ends. λ yes' _ _ _. explained c.args.clauses.now c.clear.new.self c.walk_hashes.new.passed c.args.assigned.now.literals (signed c.args.negate c.args.literals.now) c.deny.new.assigned.literals c.args.hashes.now
    (ap (λ (n : WalkNotes). n.reasons) c.clear.ensures) (rw c.in-Ok-false.field-0-test at c.in-Ok-false.ensures.denied) (ends yes'))
    c.walk_hashes.ensures.noted

pub returns-in-Err-clause-exact : goal.returns-in-Err-clause-exact
returns-in-Err-clause-exact c =
    let undone = Extends-undone c.args.assigned.now c.deny.new.assigned c.undo_to.new.self c.len-before.result c.deny.ensures.extends c.len-before.ensures c.undo_to.ensures in
    let clause = signed c.args.negate c.args.literals.now in
    let buckets = map (bucket_of c.args.clauses.now) c.args.hashes.now in
    IfOk-weaker c.check_in_room.result _ _
    (λ answer exact. λ roomy. subst (λ us. (answer ≡ true) ↔ PassesCheck us clause buckets) undone.0 (exact (stored_further c.args.assigned.now.room c.undo_to.new.self.room (live_clauses c.args.clauses.now) undone.1 roomy)))
    c.check_in_room.ensures.exact

pub returns-in-Err-clause-short : goal.returns-in-Err-clause-short
returns-in-Err-clause-short c =
    let undone = Extends-undone c.args.assigned.now c.deny.new.assigned c.undo_to.new.self c.len-before.result c.deny.ensures.extends c.len-before.ensures c.undo_to.ensures in
    on_err_weaker c.check_in_room.result (λ short. λ roomy. short (stored_further c.args.assigned.now.room c.undo_to.new.self.room (live_clauses c.args.clauses.now) undone.1 roomy)) c.check_in_room.ensures.short
