use Rattle.std.proofs.Common.{ℕ, ◌≡◌, ◌*◌, length, get_or, ◌∙◌, arith}
use Rattle.std.proofs.lemmas.Result.{err_from_is_err_and}
use Rattle.sat_checker.specs.inner.SlotView.{bucket_in, bucket_of, live_clauses, live_literal_count}
use Rattle.sat_checker.specs.inner.AssumedRoom.{HasClausesRoom, HasStoredRoom}
use Rattle.sat_checker.specs.inner.WalkResults.{AssumesMore}
use Rattle.sat_checker.specs.inner.LookCounts.{LooksUpTo}
use Rattle.sat_checker.specs.inner.Reasons.{clauses_by_hashes}
use Rattle.sat_checker.proofs.lemmas.propagation.Walking.{Extends-further, buckets-open}
use Rattle.sat_checker.proofs.lemmas.store.Buckets.{bucket_roomy, stored_further, walked_more, walked_within}
use Rattle.sat_checker.proofs.lemmas.announcements.Noting.{leads_hash}
use Rattle.sat_checker.proofs.rup.walk_hashes.Goals as goal
use Rattle.sat_checker.proofs.rup.walk_hashes.Goals.{After-walk_bucket}

-- the bucket of this iteration
module _ (c : After-walk_bucket) where
  abbrev hash : ℕ
  hash = get_or c.args.hashes.now c.loop-hash.hash-index 0

  looked : LooksUpTo (length c.args.hashes.now * live_literal_count c.args.clauses.now) c.args.looks.now c.walk_bucket.new.looks
  looked = record {
    rise = omega (arith, c.loop-hash.invariant.rise, c.walk_bucket.ensures.looks.rise);
    most = walked_within c.args.looks.now c.loop-hash.looks c.walk_bucket.new.looks c.loop-hash.hash-index (length c.args.hashes.now) hash c.args.clauses.now c.loop-hash.invariant.looks c.walk_bucket.ensures.looks.most c.loop-hash-test.true;
  }

  roomy : HasStoredRoom c.args.assigned.now.room (live_clauses c.args.clauses.now) → HasClausesRoom c.loop-hash.assigned.room (bucket_in hash c.args.clauses.now)
  roomy h = bucket_roomy c.loop-hash.assigned.room hash c.args.clauses.now (stored_further c.args.assigned.now.room c.loop-hash.assigned.room (live_clauses c.args.clauses.now) c.loop-hash.invariant.extends.room h)

  same : HasStoredRoom c.args.assigned.now.room (live_clauses c.args.clauses.now) → c.walk_bucket.new.assigned.room ≡ c.args.assigned.now.room
  same h = c.walk_bucket.ensures.same (roomy h) ∙ c.loop-hash.invariant.same h

  extends : AssumesMore c.args.assigned.now c.walk_bucket.new.assigned
  extends = Extends-further c.args.assigned.now c.loop-hash.assigned c.walk_bucket.new.assigned c.loop-hash.invariant.extends c.walk_bucket.ensures.extends

pub returns-in_err-walk_bucket-clause-looks : goal.returns-in_err-walk_bucket-clause-looks
returns-in_err-walk_bucket-clause-looks c = looked (goal.at.returns-in_err-walk_bucket-clause-looks c).After-walk_bucket

pub returns-in_err-walk_bucket-clause-short : goal.returns-in_err-walk_bucket-clause-short
returns-in_err-walk_bucket-clause-short c = rw ((err_from_is_err_and c.from_residual.result c.from_residual.ensures.1).1) (λ h. c.in_err-walk_bucket.ensures.short (roomy (goal.at.returns-in_err-walk_bucket-clause-short c).After-walk_bucket h))

pub returns-in-Conflict-clause-looks : goal.returns-in-Conflict-clause-looks
returns-in-Conflict-clause-looks c = looked (goal.at.returns-in-Conflict-clause-looks c).After-walk_bucket

pub loop-hash-preserved : goal.loop-hash-preserved
loop-hash-preserved c =
    let x = (goal.at.loop-hash-preserved c).After-walk_bucket in
    let says = rw c.in-Open.is at c.in_ok-walk_bucket.ensures.says in
    record {
      walked = c.loop-hash.invariant.walked ∙ buckets-open (bucket_of c.args.clauses.now) c.args.hashes.now c.loop-hash.hash-index c.loop-hash-test.true c.loop-hash.assigned.literals c.walk_bucket.new.assigned.literals says.0 says.1;
      extends = extends x;
      same = same x;
      looks = walked_more c.args.looks.now c.loop-hash.looks c.walk_bucket.new.looks c.loop-hash.hash-index (get_or c.args.hashes.now c.loop-hash.hash-index 0) c.args.clauses.now
          c.loop-hash.invariant.looks c.walk_bucket.ensures.looks.most;
      leads = leads_hash c.args.clauses.now c.args.passed.now c.loop-hash.passed c.walk_bucket.new.passed c.args.assigned.now.literals c.loop-hash.assigned.literals c.walk_bucket.new.assigned.literals c.args.hashes.now c.loop-hash.hash-index c.loop-hash-test.true
          (clauses_by_hashes c.args.hashes.now c.args.clauses.now) c.loop-hash.invariant.leads (rw c.in-Open.is at c.in_ok-walk_bucket.ensures.noted);
      read = omega (arith, c.loop-hash.invariant.read, c.in_ok-walk_bucket.ensures.read);
      rise = omega (arith, c.loop-hash.invariant.rise, c.walk_bucket.ensures.looks.rise);
    }

pub returns-in_err-walk_bucket-clause-same : goal.returns-in_err-walk_bucket-clause-same
returns-in_err-walk_bucket-clause-same c = same (goal.at.returns-in_err-walk_bucket-clause-same c).After-walk_bucket

pub returns-in-Conflict-clause-same : goal.returns-in-Conflict-clause-same
returns-in-Conflict-clause-same c = same (goal.at.returns-in-Conflict-clause-same c).After-walk_bucket
