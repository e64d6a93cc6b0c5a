use Rattle.std.proofs.Common.{ℕ, List, Option, ◌≡◌, ◌+◌, ◌<◌, ◌≤◌, ◌∷◌, suc, length, map, true, Some, ◌∙◌, refl, ap, sym, subst, arith}
use Rattle.std.proofs.lemmas.Result.{err_from_is_err_and}
use Rattle.std.specs.Option.{IfSome}
use Rattle.sat_checker.specs.LiteralSets.{is_among}
use Rattle.sat_checker.specs.Looks.{total_length}
use Rattle.sat_checker.specs.inner.PairView.{first_of, places_after, places_at_or_after}
use Rattle.sat_checker.specs.inner.Reasons.{clause_at, clauses_by_hash, PreservesCauses}
use Rattle.sat_checker.specs.inner.AssumedRoom.{HasClauseRoom, HasClausesRoom}
use Rattle.sat_checker.specs.inner.SlotView.{Slot, bucket_in, literals_at, places_of}
use Rattle.sat_checker.specs.inner.WalkResults.{AssumesMore}
use Rattle.sat_checker.specs.inner.LookCounts.{LooksUpTo}
use Rattle.sat_checker.specs.inner.Walk.{walk}
use Rattle.sat_checker.proofs.lemmas.propagation.Walking.{Extends-itself, Extends-further, roomy_at, walk_more, walk_ends, looks_more, looks_ended}
use Rattle.sat_checker.proofs.lemmas.store.Filing.{first_ok, from_first, increasing_places, left_step, next_among}
use Rattle.sat_checker.proofs.lemmas.store.Finding.{bucket_literals, place_inside, is_full, is_empty}
use Rattle.sat_checker.proofs.lemmas.announcements.Noting.{leads_itself, filed_at, leads_next, ends_next, read_further}
use Rattle.std.proofs.lemmas.Grind.{common_steps}
use Rattle.sat_checker.proofs.rup.walk_bucket.Goals as goal
use Rattle.sat_checker.proofs.rup.walk_bucket.Goals.{After-visit}

as_much : (a : ℕ) → a ≤ a
as_much a = omega arith

-- the clause of this iteration
module _ (c : After-visit) where
  abbrev ss : List Slot
  ss = c.args.clauses.now

  abbrev ps : List ℕ
  ps = places_of c.args.hash ss

  abbrev place : ℕ
  place = c.in-Some-next.place

  roomy : HasClausesRoom c.args.assigned.now.room (bucket_in c.args.hash ss) → HasClauseRoom c.loop-next.assigned.room (literals_at ss place)
  roomy h =
      roomy_at c.args.assigned.now.room c.loop-next.assigned.room (literals_at ss) ps place c.loop-next.invariant.extends.room (subst (λ o. IfSome o (λ p. is_among ps p ≡ true)) c.in-Some-next.is c.loop-next.invariant.among)
      (subst (HasClausesRoom c.args.assigned.now.room) (sym (bucket_literals c.args.hash ss)) h)

  same : HasClausesRoom c.args.assigned.now.room (bucket_in c.args.hash ss) → c.visit.new.assigned.room ≡ c.args.assigned.now.room
  same h = c.visit.ensures.same (roomy h) ∙ c.loop-next.invariant.same h

  extends : AssumesMore c.args.assigned.now c.visit.new.assigned
  extends = Extends-further c.args.assigned.now c.loop-next.assigned c.visit.new.assigned c.loop-next.invariant.extends c.visit.ensures.extends

-- the clauses from this one on
module _ (c : After-visit) (next : Option ℕ) (is : next ≡ first_of (places_after (place c) (ps c))) where
  abbrev left : List ℕ
  left = place c ∷ places_at_or_after next (ps c)

  left_is : places_at_or_after c.loop-next.next (ps c) ≡ left
  left_is = left_step c.args.hash (ss c) c.loop-next.next (place c) c.in-Some-next.is c.loop-next.invariant.among next is

  walked : walk c.args.assigned.now.literals (bucket_in c.args.hash (ss c)) ≡ walk c.loop-next.assigned.literals (map (literals_at (ss c)) left)
  walked = c.loop-next.invariant.walked ∙ ap (λ qs. walk c.loop-next.assigned.literals (map (literals_at (ss c)) qs)) left_is

  looks : c.loop-next.looks + total_length (map (literals_at (ss c)) left) ≡ c.args.looks.now + total_length (bucket_in c.args.hash (ss c))
  looks = ap (λ qs. c.loop-next.looks + total_length (map (literals_at (ss c)) qs)) (sym left_is) ∙ c.loop-next.invariant.looks

  leads : PreservesCauses (ss c) c.args.passed.now c.args.assigned.now.literals (clauses_by_hash c.args.hash (ss c)) c.loop-next.passed c.loop-next.assigned.literals (map (clause_at (ss c)) left)
  leads = subst (λ qs. PreservesCauses (ss c) c.args.passed.now c.args.assigned.now.literals (clauses_by_hash c.args.hash (ss c)) c.loop-next.passed c.loop-next.assigned.literals (map (clause_at (ss c)) qs)) left_is c.loop-next.invariant.leads

-- if the walk ends at this clause
module _ (c : After-visit) where
  abbrev rest : List ℕ
  rest = left c (first_of (places_after (place c) (ps c))) refl

  looked : LooksUpTo (total_length (bucket_in c.args.hash (ss c))) c.args.looks.now c.visit.new.looks
  looked = record {
    rise = omega (arith, c.loop-next.invariant.rise, c.visit.ensures.looks);
    most = looks_ended (literals_at (ss c)) rest 0 (omega arith) _ c.loop-next.looks c.visit.new.looks (looks c _ refl) c.visit.ensures.looks;
  }

pub returns-in_default-clause-says : goal.returns-in_default-clause-says
returns-in_default-clause-says c = (is_empty c.args.hash c.args.clauses.now c.in_default.ensures, refl)

pub loop-next-init : goal.loop-next-init
loop-next-init c =
    let ss = c.args.clauses.now in
    let ps = places_of c.args.hash c.args.clauses.now in
    let all = from_first ps (increasing_places 0 c.args.hash c.args.clauses.now) (Some c.in-Some.first) c.in-Some.ensures in
    record {
      among = first_ok ps (Some c.in-Some.first) c.in-Some.ensures;
      walked = ap (walk c.args.assigned.now.literals) (sym (bucket_literals c.args.hash c.args.clauses.now) ∙ ap (map (literals_at c.args.clauses.now)) (sym all));
      extends = Extends-itself c.args.assigned.now;
      same = λ roomy. refl;
      looks = ap (λ qs. c.args.looks.now + total_length (map (literals_at c.args.clauses.now) qs)) all ∙ ap (λ ls. c.args.looks.now + total_length ls) (bucket_literals c.args.hash c.args.clauses.now);
      leads = subst (PreservesCauses c.args.clauses.now c.args.passed.now c.args.assigned.now.literals (clauses_by_hash c.args.hash c.args.clauses.now) c.args.passed.now c.args.assigned.now.literals)
          (filed_at c.args.hash c.args.clauses.now ps refl ∙ ap (map (clause_at c.args.clauses.now)) (sym all)) (leads_itself c.args.clauses.now c.args.passed.now c.args.assigned.now.literals (clauses_by_hash c.args.hash c.args.clauses.now));
      read = as_much _;
      rise = as_much _;
    }

pub visit-requires : goal.visit-requires
visit-requires c =
    place_inside c.args.hash c.args.clauses.now c.in-Some-next.place (subst (λ o. IfSome o (λ p. is_among (places_of c.args.hash c.args.clauses.now) p ≡ true)) c.in-Some-next.is c.loop-next.invariant.among)

pub returns-in_err-visit-clause-short : goal.returns-in_err-visit-clause-short
returns-in_err-visit-clause-short c = rw ((err_from_is_err_and c.from_residual.result c.from_residual.ensures.1).1) (λ h. c.in_err-visit.ensures.short (roomy (goal.at.returns-in_err-visit-clause-short c).After-visit h))

pub returns-in_err-visit-clause-looks : goal.returns-in_err-visit-clause-looks
returns-in_err-visit-clause-looks c = looked (goal.at.returns-in_err-visit-clause-looks c).After-visit

pub returns-then-branch-clause-looks : goal.returns-then-branch-clause-looks
returns-then-branch-clause-looks c = looked (goal.at.returns-then-branch-clause-looks c).After-visit

pub returns-then-branch-clause-says : goal.returns-then-branch-clause-says
returns-then-branch-clause-says c =
    let x = (goal.at.returns-then-branch-clause-says c).After-visit in (
      is_full c.args.hash c.args.clauses.now c.in-Some.first c.in-Some.ensures,
      walk_ends (literals_at (ss x)) (rest x) 0 (omega arith) _ c.loop-next.assigned.literals (walked x _ refl) (rw c.if-branch.true at c.in_ok-visit.ensures.reached),
    )

pub returns-then-branch-clause-noted : goal.returns-then-branch-clause-noted
returns-then-branch-clause-noted c =
    let x = (goal.at.returns-then-branch-clause-noted c).After-visit in
    ends_next (ss x) c.args.passed.now c.loop-next.passed c.visit.new.passed c.args.assigned.now.literals c.loop-next.assigned.literals c.visit.new.assigned.literals (rest x) 0 (omega arith) _
    (leads x _ refl) (rw c.if-branch.true at c.in_ok-visit.ensures.noted)

pub loop-next-smaller : goal.loop-next-smaller
loop-next-smaller c =
    let x = (goal.at.loop-next-smaller c).After-visit in
    let e : length (places_at_or_after c.loop-next.next (ps x)) ≡ suc (length (places_at_or_after c.next-next.result (ps x))) = ap length (left_is x c.next-next.result c.next-next.ensures) in
    let l : length (places_at_or_after c.next-next.result (ps x)) < length (places_at_or_after c.loop-next.next (ps x)) = omega arith in l

pub loop-next-preserved : goal.loop-next-preserved
loop-next-preserved c =
    let x = (goal.at.loop-next-preserved c).After-visit in
    let next = c.next-next.result in
    let is = c.next-next.ensures in
    let qs = left x next is in
    record {
      among = next_among (place x) (ps x) next is;
      walked = walk_more (literals_at (ss x)) qs 0 (omega arith) _ c.loop-next.assigned.literals c.visit.new.assigned.literals (walked x next is) (rw c.if-branch.false at c.in_ok-visit.ensures.reached);
      extends = extends x;
      same = same x;
      looks = looks_more (literals_at (ss x)) qs 0 (omega arith) _ c.loop-next.looks c.visit.new.looks (looks x next is) c.visit.ensures.looks;
      leads = leads_next (ss x) c.args.passed.now c.loop-next.passed c.visit.new.passed c.args.assigned.now.literals c.loop-next.assigned.literals c.visit.new.assigned.literals qs 0 (omega arith) _
          (leads x next is) (rw c.if-branch.false at c.in_ok-visit.ensures.noted);
      read = read_further _ _ _ c.args.looks.now c.loop-next.looks c.visit.new.looks _ c.loop-next.invariant.read c.visit.ensures.looks c.in_ok-visit.ensures.read;
      rise = omega (arith, c.loop-next.invariant.rise, c.visit.ensures.looks);
    }

pub returns-clause-says : goal.returns-clause-says
returns-clause-says c = grind (arith, common_steps, is_full)

pub returns-in_err-visit-clause-same : goal.returns-in_err-visit-clause-same
returns-in_err-visit-clause-same c = same (goal.at.returns-in_err-visit-clause-same c).After-visit

pub returns-then-branch-clause-same : goal.returns-then-branch-clause-same
returns-then-branch-clause-same c = same (goal.at.returns-then-branch-clause-same c).After-visit
