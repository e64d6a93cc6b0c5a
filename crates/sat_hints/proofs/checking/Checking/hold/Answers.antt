use Rattle.std.proofs.Common.{rules, ◌≡◌, ◌++◌, ◌∙◌, Some, sym, subst}
use Rattle.sat_checker.proofs.lemmas.store.Entries.{on_err}
use Rattle.sat_hints.specs.inner.Prefixes.{LeadsToPlace, ReachesPlace}
use Rattle.sat_hints.proofs.lemmas.Holding.{held_faulty, held_more}
use Rattle.sat_hints.proofs.lemmas.Stopping.{held_stops}
use Rattle.sat_hints.proofs.checking.Checking.hold.Goals as goal

pub returns-in_default-clause-reads : goal.returns-in_default-clause-reads
returns-in_default-clause-reads c = held_faulty c.args.self.now c.args.bytes.now c.requires.inside (rw c.in_default.is at c.following.ensures.leads)

pub returns-in_err-extend_from_slice-clause-stops : goal.returns-in_err-extend_from_slice-clause-stops
returns-in_err-extend_from_slice-clause-stops c = on_err c.from_residual.result _ (held_stops c.args.self.now c.args.bytes.now c.in-Some.place c.in-Some.ensures.reaches)

pub returns-in_err-make_room-clause-stops : goal.returns-in_err-make_room-clause-stops
returns-in_err-make_room-clause-stops c = on_err c.from_residual-in_err-make_room.result _ (held_stops c.args.self.now c.args.bytes.now c.in-Some.place c.in-Some.ensures.reaches)

pub returns-clause-reads : goal.returns-clause-reads
returns-clause-reads c =
    let e : c.extend_from_slice.new.self.items ≡ c.args.self.now.held.items ++ c.args.bytes.now = search rules in
    let p = sym c.make_room.ensures.place in
    held_more c.args.self.now c.make_room.new.self c.args.bytes.now c.requires.inside c.make_room.ensures.checker (c.make_room.ensures.held ∙ e)
    (subst (λ to. LeadsToPlace c.args.self.now.place c.args.bytes.now (Some to)) p c.in-Some.ensures.leads) (subst (λ to. ReachesPlace c.args.self.now.place c.args.bytes.now (Some to)) p c.in-Some.ensures.reaches)
