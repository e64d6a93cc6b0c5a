use Rattle.std.proofs.Common.{refl}
use Rattle.certify.proofs.lemmas.run.NextLent.{refused_served, refused_stops, taken_served, taken_stops}
use Rattle.certify.proofs.lemmas.run.Caused.{taken_caused}
use Rattle.certify.proofs.lemmas.run.Next.{counted}
use Rattle.certify.proofs.run.commands.serve_command.Goals as goal

pub returns-in-Some-clause-served : goal.returns-in-Some-clause-served
returns-in-Some-clause-served g c =
    refused_served c.args.session.now c.refuse.new.session c.args.command (g.A.CountedWrite.seen c.args.answers.now) (g.A.CountedWrite.seen c.refuse.new.answers) c.requires.goes_on c.refuse.result c.in-Some.refusal c.in-Some.ensures.judges c.refuse.ensures.refused

pub returns-in-None-clause-served : goal.returns-in-None-clause-served
returns-in-None-clause-served g c =
    taken_served c.args.session.now c.serve_allowed.new.session c.args.command (g.A.CountedWrite.seen c.args.answers.now) (g.A.CountedWrite.seen c.serve_allowed.new.answers) c.requires.goes_on c.serve_allowed.result (c.in-None.ensures.within refl) c.in-None.ensures.judges c.serve_allowed.ensures.carried c.serve_allowed.ensures.names

pub returns-in-Some-clause-stops : goal.returns-in-Some-clause-stops
returns-in-Some-clause-stops g c =
    refused_stops c.args.session.now c.refuse.new.session c.args.command (g.A.CountedWrite.seen c.args.answers.now) (g.A.CountedWrite.seen c.refuse.new.answers) c.requires.goes_on c.refuse.result c.in-Some.refusal c.in-Some.ensures.judges c.refuse.ensures.stops

pub returns-in-None-clause-stops : goal.returns-in-None-clause-stops
returns-in-None-clause-stops g c =
    taken_stops c.args.session.now c.serve_allowed.new.session c.args.command (g.A.CountedWrite.seen c.args.answers.now) (g.A.CountedWrite.seen c.serve_allowed.new.answers) c.requires.goes_on c.serve_allowed.result (c.in-None.ensures.within refl) c.in-None.ensures.judges c.serve_allowed.ensures.stops

pub returns-in-None-clause-cause : goal.returns-in-None-clause-cause
returns-in-None-clause-cause g c =
    taken_caused c.args.session.now (counted c.args.session.now) c.serve_allowed.new.session c.args.command c.serve_allowed.result (c.in-None.ensures.within refl) c.in-None.ensures.judges refl c.serve_allowed.ensures.cause
