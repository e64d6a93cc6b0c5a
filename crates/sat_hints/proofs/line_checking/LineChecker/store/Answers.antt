use Rattle.std.proofs.Common.{◌≡◌, refl, sym, ap, ◌∙◌, subst}
use Rattle.sat_checker.specs.LiteralSets.{canonical}
use Rattle.sat_checker.specs.SortedSets.{IsIncreasing}
use Rattle.sat_checker.specs.inner.AssumedRoom.{LiteralsAndRoom, HasClauseRoom, RoomIsKept}
use Rattle.sat_checker.proofs.lemmas.sets.Canonical.{canonical_increasing}
use Rattle.sat_hints.specs.inner.ActiveClauses.{AddsActiveClause}
use Rattle.sat_hints.proofs.lemmas.Taken.{room_stored}
use Rattle.sat_hints.proofs.line_checking.LineChecker.store.Goals as goal

pub push-requires-clause-increasing : goal.push-requires-clause-increasing
push-requires-clause-increasing c = subst IsIncreasing (sym c.in_ok-set.ensures) (canonical_increasing c.args.clause.now)

pub returns : goal.returns
returns c =
    let old = c.args.self.now in
    let room = c.make_room_for.new.assigned.room in
    let set : c.in_ok-set.set.now ≡ canonical c.args.clause.now = c.in_ok-set.ensures in
    let adds = subst (AddsActiveClause old.active c.push.new.self c.args.id) set c.in_ok-push.ensures in
    record {
      adds = adds;
      nothing = c.make_room_for.ensures.literals ∙ ap (λ (t : LiteralsAndRoom). t.literals) c.allow.ensures ∙ c.requires.ready.nothing;
      room =
          room_stored old.active c.push.new.self c.args.id (canonical c.args.clause.now) old.assumed.room room adds c.requires.ready.room (subst (λ (t : LiteralsAndRoom). RoomIsKept t.room room) c.allow.ensures c.make_room_for.ensures.stays)
          (subst (HasClauseRoom room) set c.in_ok-make_room_for.ensures.room);
      least = refl;
      empty = refl;
      cores = refl;
      lines = refl;
    }
