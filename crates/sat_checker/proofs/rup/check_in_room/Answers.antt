use Rattle.std.proofs.Common.{◌∙◌, map}
use Rattle.std.proofs.lemmas.Result.{IfOk-weaker, on_err_weaker}
use Rattle.sat_checker.specs.inner.AssumedRoom.{signed}
use Rattle.sat_checker.specs.inner.SlotView.{bucket_of, live_clauses}
use Rattle.sat_checker.proofs.lemmas.propagation.InRoom.{exact_in_room}
use Rattle.sat_checker.proofs.lemmas.store.Buckets.{buckets_once, buckets_roomy, stored_further}
use Rattle.sat_checker.proofs.rup.check_in_room.Goals as goal

pub returns-clause-exact : goal.returns-clause-exact
returns-clause-exact c =
    IfOk-weaker c.walk_hashes-found.result _ _
    (λ answer found. λ roomy. exact_in_room c.args.assigned.now c.deny_in_room.new.assigned (signed c.args.negate c.args.literals.now) (map (bucket_of c.args.clauses.now) c.args.hashes.now) answer
    (buckets_once c.args.clauses.now c.args.hashes.now c.len-count.ensures.increasing) (buckets_roomy c.args.assigned.now.room c.args.hashes.now c.args.clauses.now roomy) c.if-deny_in_room.ensures.reached found)
    c.walk_hashes-found.ensures.found

pub returns-clause-short : goal.returns-clause-short
returns-clause-short c =
    on_err_weaker c.walk_hashes-found.result (λ short. λ roomy. short (stored_further c.args.assigned.now.room c.deny_in_room.new.assigned.room (live_clauses c.args.clauses.now) c.deny_in_room.ensures.extends.room roomy)) c.walk_hashes-found.ensures.short

pub returns-clause-same : goal.returns-clause-same
returns-clause-same c = λ roomy. c.walk_hashes-found.ensures.same (stored_further c.args.assigned.now.room c.deny_in_room.new.assigned.room (live_clauses c.args.clauses.now) c.deny_in_room.ensures.extends.room roomy) ∙ c.deny_in_room.ensures.same
