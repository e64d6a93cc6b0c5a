use Rattle.std.proofs.Common.{[], None, Some, refl, arith}
use Rattle.sat_checker.proofs.lemmas.store.Entries.{on_err}
use Rattle.sat_hints.specs.inner.Holding.{ReadsFurther}
use Rattle.sat_hints.proofs.lemmas.Holding.{reads_none, split_off}
use Rattle.sat_hints.proofs.lemmas.InPlace.{reads_fault, reads_then}
use Rattle.sat_hints.proofs.lemmas.Stopping.{end_stops, stops_later_if}
use Rattle.sat_hints.proofs.checking.Checking.feed.Goals as goal

pub returns-in-Some-2-clause-reads : goal.returns-in-Some-2-clause-reads
returns-in-Some-2-clause-reads c =
    let line = c.split_at.result.0.now in
    let h : ReadsFurther (Some c.in-Some-2.why) c.args.self.now line c.end_line.new.self = rw c.in-Some-2.is at c.in_ok-why.ensures.reads in
    let e = split_off c.args.piece.now [] c.args.piece.now line c.split_at.result.1.now c.in-Some.end refl c.split_at.ensures.front c.split_at.ensures.back in
    reads_fault c.in-Some-2.why c.args.self.now c.args.self.now c.end_line.new.self c.args.piece.now [] line c.split_at.result.1.now e (reads_none c.args.self.now) h

pub returns-in-None-clause-reads : goal.returns-in-None-clause-reads
returns-in-None-clause-reads c =
    let line = c.split_at.result.0.now in
    let h : ReadsFurther None c.args.self.now line c.end_line.new.self = rw c.in-None.is at c.in_ok-why.ensures.reads in
    let e = split_off c.args.piece.now [] c.args.piece.now line c.split_at.result.1.now c.in-Some.end refl c.split_at.ensures.front c.split_at.ensures.back in
    reads_then c.feed_in_place-in-None.result c.args.self.now c.end_line.new.self c.feed_in_place-in-None.new.self c.args.piece.now line c.split_at.result.1.now e h c.feed_in_place-in-None.ensures.reads

pub returns-in_err-why-clause-stops : goal.returns-in_err-why-clause-stops
returns-in_err-why-clause-stops c =
    let line = c.split_at.result.0.now in
    let e = split_off c.args.piece.now [] c.args.piece.now line c.split_at.result.1.now c.in-Some.end refl c.split_at.ensures.front c.split_at.ensures.back in
    on_err c.from_residual.result _ (end_stops c.args.self.now c.args.piece.now line c.split_at.result.1.now e (omega (arith, c.split_at.ensures.front_len, c.in-Some.ensures.0)) c.in_err-why.ensures.stops)

pub returns-in-None-clause-stops : goal.returns-in-None-clause-stops
returns-in-None-clause-stops c =
    let line = c.split_at.result.0.now in
    let h : ReadsFurther None c.args.self.now line c.end_line.new.self = rw c.in-None.is at c.in_ok-why.ensures.reads in
    let e = split_off c.args.piece.now [] c.args.piece.now line c.split_at.result.1.now c.in-Some.end refl c.split_at.ensures.front c.split_at.ensures.back in
    stops_later_if c.feed_in_place-in-None.result c.args.self.now c.end_line.new.self c.args.piece.now line c.split_at.result.1.now e h c.feed_in_place-in-None.ensures.stops
