use Rattle.std.proofs.Common.{◌++◌, None, Some, length, refl, sym, subst}
use Rattle.sat_checker.proofs.lemmas.store.Entries.{on_err}
use Rattle.sat_hints.specs.Lines.{line_text}
use Rattle.sat_hints.specs.declared.checking.Checking.{Checking}
use Rattle.sat_hints.specs.inner.LineChecking.{LineResult}
use Rattle.sat_hints.specs.inner.LineReading.{line_of_view, BeginsWithHintLine}
use Rattle.sat_hints.proofs.lemmas.Words.{no_longer}
use Rattle.sat_hints.proofs.lemmas.Holding.{reads_more}
use Rattle.sat_hints.proofs.lemmas.InPlace.{line_off, reads_line, reads_fault, reads_then, reads_still}
use Rattle.sat_hints.proofs.lemmas.Stopping.{room_kept, place_stops, stops_later, stops_later_if}
use Rattle.sat_hints.proofs.checking.Checking.feed_in_place.Goals as goal

pub returns-in_err-why-clause-stops : goal.returns-in_err-why-clause-stops
returns-in_err-why-clause-stops c =
    let d = c.loop-found.invariant.done in
    let line = line_of_view c.line.result in
    let read : BeginsWithHintLine c.loop-found.rest.now line c.in-Some.found.1.now = subst (λ l. BeginsWithHintLine c.loop-found.rest.now l c.in-Some.found.1.now) (sym c.line.ensures) c.in-Some.ensures.line in
    let stops = place_stops c.loop-found.self c.loop-found.rest.now c.in-Some.found.1.now line c.loop-found.invariant.empty read c.in_err-why.ensures.on_error in
    on_err c.from_residual.result _ (stops_later c.args.self.now c.loop-found.self c.args.piece.now d.0 c.loop-found.rest.now d.1 d.2 stops)

pub returns-in-Some-2-clause-reads : goal.returns-in-Some-2-clause-reads
returns-in-Some-2-clause-reads c =
    let d = c.loop-found.invariant.done in
    let line = line_of_view c.line.result in
    let read : BeginsWithHintLine c.loop-found.rest.now line c.in-Some.found.1.now = subst (λ l. BeginsWithHintLine c.loop-found.rest.now l c.in-Some.found.1.now) (sym c.line.ensures) c.in-Some.ensures.line in
    let new : Checking = record c.loop-found.self { lists = c.read_line.new.self; checker = c.take.new.self } in
    let t : LineResult (Some c.in-Some-2.why) c.loop-found.self.checker c.take.new.self line = rw c.in-Some-2.is at c.in_ok-why.ensures.takes in
    let h = reads_line (Some c.in-Some-2.why) c.loop-found.self new c.loop-found.rest.now c.in-Some.found.1.now line c.loop-found.invariant.empty refl refl read t in
    reads_fault c.in-Some-2.why c.args.self.now c.loop-found.self new c.args.piece.now d.0 (line_text line) c.in-Some.found.1.now (line_off c.args.piece.now d.0 c.loop-found.rest.now (line_text line) c.in-Some.found.1.now d.1 read.1) d.2 h

pub loop-found-preserved : goal.loop-found-preserved
loop-found-preserved c =
    let d = c.loop-found.invariant.done in
    let line = line_of_view c.line.result in
    let read : BeginsWithHintLine c.loop-found.rest.now line c.in-Some.found.1.now = subst (λ l. BeginsWithHintLine c.loop-found.rest.now l c.in-Some.found.1.now) (sym c.line.ensures) c.in-Some.ensures.line in
    let new : Checking = record c.loop-found.self { lists = c.read_line.new.self; checker = c.take.new.self } in
    let t : LineResult None c.loop-found.self.checker c.take.new.self line = rw c.in-None.is at c.in_ok-why.ensures.takes in
    let h = reads_line None c.loop-found.self new c.loop-found.rest.now c.in-Some.found.1.now line c.loop-found.invariant.empty refl refl read t in
    let shorter = no_longer c.loop-found.rest.now (line_text line) c.in-Some.found.1.now read.1 in
    record {
      ready = c.in_ok-why.ensures.ready c.in-None.is;
      empty = c.loop-found.invariant.empty;
      room = room_kept c.loop-found.self.lists c.read_line.new.self (length c.loop-found.rest.now) (length c.in-Some.found.1.now) shorter c.loop-found.invariant.room c.read_line.ensures.room;
      done = (
        d.0 ++ line_text line,
        line_off c.args.piece.now d.0 c.loop-found.rest.now (line_text line) c.in-Some.found.1.now d.1 read.1,
        reads_more None c.args.self.now c.loop-found.self new d.0 (line_text line) d.2 h,
      );
    }

pub returns-clause-reads : goal.returns-clause-reads
returns-clause-reads c =
    let d = c.loop-found.invariant.done in
    let now : Checking = record c.loop-found.self { lists = c.read_line.new.self } in
    reads_then c.hold_rest.result c.args.self.now now c.hold_rest.new.self c.args.piece.now d.0 c.loop-found.rest.now d.1 (reads_still c.args.self.now c.loop-found.self now d.0 d.2 refl refl refl) c.hold_rest.ensures.reads

pub returns-clause-stops : goal.returns-clause-stops
returns-clause-stops c =
    let d = c.loop-found.invariant.done in
    let now : Checking = record c.loop-found.self { lists = c.read_line.new.self } in
    stops_later_if c.hold_rest.result c.args.self.now now c.args.piece.now d.0 c.loop-found.rest.now d.1 (reads_still c.args.self.now c.loop-found.self now d.0 d.2 refl refl refl) c.hold_rest.ensures.stops
