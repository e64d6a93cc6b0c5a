use Rattle.std.proofs.Common.{arith}
use Rattle.std.proofs.lemmas.Grind.{common_steps}
use Rattle.certify.specs.script.Commands.{end_reading}
use Rattle.certify.proofs.lemmas.run.ServedThrough.{both_then, served_last_if, stops_following}
use Rattle.certify.proofs.lemmas.run.Caused.{caused_after}
use Rattle.certify.proofs.run.serve.serve_last.Goals as goal

pub serve_end-requires : goal.serve_end-requires
serve_end-requires g c = (c.in_ok-serve_next.ensures.served c.requires.whole.0 c.requires.whole.1).goes_on

pub returns-clause-serves : goal.returns-clause-serves
returns-clause-serves g c x is j at =
    let A = g.A.CountedWrite.seen in
    served_last_if j x (end_reading c.args.end) c.serve_end.result c.args.session.now c.serve_next.new.session c.serve_end.new.session (A c.args.answers.now) (A c.serve_next.new.answers) (A c.serve_end.new.answers) at (c.in_ok-serve_next.ensures.served x is) c.serve_end.ensures.serves

pub returns-clause-stops : goal.returns-clause-stops
returns-clause-stops g c x is =
    let A = g.A.CountedWrite.seen in
    stops_following c.serve_end.result x (end_reading c.args.end) c.args.session.now c.serve_next.new.session c.serve_end.new.session (A c.args.answers.now) (A c.serve_next.new.answers) (A c.serve_end.new.answers) (c.in_ok-serve_next.ensures.served x is) c.serve_end.ensures.stops

pub returns-clause-written : goal.returns-clause-written
returns-clause-written g c = grind (arith, common_steps, both_then)

pub returns-clause-cause : goal.returns-clause-cause
returns-clause-cause g c x is =
    let A = g.A.CountedWrite.seen in
    caused_after c.serve_end.result x (end_reading c.args.end) c.args.session.now c.serve_next.new.session c.serve_end.new.session (A c.args.answers.now) (A c.serve_next.new.answers) (c.in_ok-serve_next.ensures.served x is) c.serve_end.ensures.cause
