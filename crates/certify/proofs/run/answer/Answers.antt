use Rattle.std.proofs.Common.{refl, subst}
use Rattle.sat_base.specs.device.Reading.{Source, new_source}
use Rattle.sat_base.specs.script.ScriptState.{initial_state}
use Rattle.certify.specs.script.LastPiece.{source_in}
use Rattle.certify.specs.script.LastChunk.{AccountsForValidBytes}
use Rattle.sat_base.specs.script.Language.{reading, plain_reading}
use Rattle.certify.specs.run.ServedScript.{ServesScript}
use Rattle.certify.proofs.lemmas.run.Runs.{IsNew, counter_so, fresh_source, has_target, is_open_yet, runs_so, steps_so, stopped_so}
use Rattle.certify.proofs.lemmas.script.LastChunks.{ends_at_line, keeps_stops, reads_first, waiting_few}
use Rattle.certify.proofs.lemmas.run.EndLine.{line_if}
use Rattle.certify.proofs.run.answer.Given.{Over}
use Rattle.certify.proofs.run.answer.Goals as goal
use Rattle.certify.proofs.run.answer.Goals.{After-serve_all-served}

-- the script was served, by a run that is new
module _ (g : Over) (c : After-serve_all-served g) where
  fresh : IsNew c.args.budget (g.C.CountedWrite.seen c.args.certificate) c.new-session.result
  fresh = let n = c.new-session.ensures in record { steps = n.steps; target = n.target; rounds = n.rounds; budget_is = n.budget; commands = n.commands; refused = n.refused; asks = n.asks }

  abbrev left : Source
  left = source_in g.S.CountedRead.seen c.serve_all-served.new.script c.serve_all-served.new.stream.ahead

  ends : ServesScript initial_state reading plain_reading c.serve_all-served.result (new_source (g.S.CountedRead.seen c.args.script.now)) left c.new-session.result c.serve_all-served.new.session (g.A.CountedWrite.seen c.args.answers.now) (g.A.CountedWrite.seen c.serve_all-served.new.answers)
  ends =
      subst (λ (a : Source). ServesScript initial_state reading plain_reading c.serve_all-served.result a left c.new-session.result c.serve_all-served.new.session (g.A.CountedWrite.seen c.args.answers.now) (g.A.CountedWrite.seen c.serve_all-served.new.answers))
      (fresh_source g.S.CountedRead.seen c.args.script.now c.new-stream.result.ahead c.new-stream.ensures.waiting c.new-stream.ensures.reads) c.serve_all-served.ensures.serves

pub end_run-requires-clause-target : goal.end_run-requires-clause-target
end_run-requires-clause-target g c =
    let x = (goal.at.end_run-requires-clause-target g c).After-serve_all-served in
    is_open_yet c.args.budget (g.C.CountedWrite.seen c.args.certificate) c.new-session.result c.serve_all-served.new.session (fresh g x) (g.S.CountedRead.seen c.args.script.now) (left g x) c.serve_all-served.new.stream.ahead.bounded (g.C.CountedWrite.seen c.args.certificate) (g.A.CountedWrite.seen c.args.answers.now) (g.A.CountedWrite.seen c.serve_all-served.new.answers) (g.A.CountedWrite.seen c.serve_all-served.new.answers) c.serve_all-served.result (ends g x)

pub end_run-requires-clause-some : goal.end_run-requires-clause-some
end_run-requires-clause-some g c =
    let x = (goal.at.end_run-requires-clause-some g c).After-serve_all-served in
    has_target c.args.budget (g.C.CountedWrite.seen c.args.certificate) c.new-session.result c.serve_all-served.new.session (fresh g x) (g.S.CountedRead.seen c.args.script.now) (left g x) c.serve_all-served.new.stream.ahead.bounded (g.C.CountedWrite.seen c.args.certificate) (g.A.CountedWrite.seen c.args.answers.now) (g.A.CountedWrite.seen c.serve_all-served.new.answers) (g.A.CountedWrite.seen c.serve_all-served.new.answers) c.serve_all-served.result (ends g x)

pub returns-clause-runs : goal.returns-clause-runs
returns-clause-runs g c =
    let x = (goal.at.returns-clause-runs g c).After-serve_all-served in
    runs_so c.args.budget (g.C.CountedWrite.seen c.args.certificate) c.new-session.result c.serve_all-served.new.session (fresh g x) (g.S.CountedRead.seen c.args.script.now) (left g x) c.serve_all-served.new.stream.ahead.bounded (g.C.CountedWrite.seen c.end_run.result.0) (g.A.CountedWrite.seen c.args.answers.now) (g.A.CountedWrite.seen c.serve_all-served.new.answers) (g.A.CountedWrite.seen c.end_run.new.answers) c.serve_all-served.result c.end_run.result.1 (ends g x) c.end_run.ensures.ends

pub returns-clause-unfinished : goal.returns-clause-unfinished
returns-clause-unfinished g c =
    let x = (goal.at.returns-clause-unfinished g c).After-serve_all-served in
    stopped_so c.args.budget (g.C.CountedWrite.seen c.args.certificate) c.new-session.result c.serve_all-served.new.session (fresh g x) (g.S.CountedRead.seen c.args.script.now) (left g x) c.serve_all-served.new.stream.ahead.bounded (g.C.CountedWrite.seen c.end_run.result.0) (g.A.CountedWrite.seen c.args.answers.now) (g.A.CountedWrite.seen c.serve_all-served.new.answers) (g.A.CountedWrite.seen c.end_run.new.answers) c.serve_all-served.result c.end_run.result.1 (ends g x) c.end_run.ensures.ends

pub returns-clause-steps : goal.returns-clause-steps
returns-clause-steps g c =
    let x = (goal.at.returns-clause-steps g c).After-serve_all-served in
    steps_so c.args.budget (g.C.CountedWrite.seen c.args.certificate) c.new-session.result c.serve_all-served.new.session (fresh g x) (g.S.CountedRead.seen c.args.script.now) (left g x) c.serve_all-served.new.stream.ahead.bounded (g.C.CountedWrite.seen c.end_run.result.0) (g.A.CountedWrite.seen c.args.answers.now) (g.A.CountedWrite.seen c.serve_all-served.new.answers) (g.A.CountedWrite.seen c.end_run.new.answers) c.serve_all-served.result (ends g x) c.end_run.ensures.front

pub returns-clause-counter_end : goal.returns-clause-counter_end
returns-clause-counter_end g c =
    let x = (goal.at.returns-clause-counter_end g c).After-serve_all-served in
    counter_so c.args.budget (g.C.CountedWrite.seen c.args.certificate) c.new-session.result c.serve_all-served.new.session (fresh g x) (g.S.CountedRead.seen c.args.script.now) (left g x) c.serve_all-served.new.stream.ahead.bounded (g.C.CountedWrite.seen c.end_run.result.0) (g.A.CountedWrite.seen c.args.answers.now) (g.A.CountedWrite.seen c.serve_all-served.new.answers) (g.A.CountedWrite.seen c.end_run.new.answers) c.serve_all-served.result c.end_run.result.1 (ends g x) c.end_run.ensures.ends

module _ (g : Over) (c : After-serve_all-served g) where
  -- no byte was read before
  account : AccountsForValidBytes (g.S.CountedRead.seen c.args.script.now) (source_in g.S.CountedRead.seen c.args.script.now c.new-stream.result.ahead) c.new-stream.result.reader
  account = let S = g.S.CountedRead.seen in reads_first (S c.args.script.now) (source_in S c.args.script.now c.new-stream.result.ahead) c.new-stream.result.reader refl c.new-stream.ensures.waiting c.new-stream.ensures.text

pub returns-clause-stops : goal.returns-clause-stops
returns-clause-stops g c =
    let x = (goal.at.returns-clause-stops g c).After-serve_all-served in
    let S = g.S.CountedRead.seen in
    keeps_stops c.serve_all-served.result (source_in S c.args.script.now c.new-stream.result.ahead) (left g x) c.new-stream.result.reader c.serve_all-served.new.stream.reader (S c.args.script.now) c.serve_all-served.ensures.stops (account g x)

pub returns-clause-line : goal.returns-clause-line
returns-clause-line g c =
    let x = (goal.at.returns-clause-line g c).After-serve_all-served in
    let S = g.S.CountedRead.seen in
    let new = c.serve_all-served.new.stream in
    line_if c.serve_all-served.result c.end_run.result.1 c.serve_all-served.new.session (g.C.CountedWrite.seen c.end_run.result.0) (g.A.CountedWrite.seen c.serve_all-served.new.answers) (g.A.CountedWrite.seen c.end_run.new.answers) c.end_run.ensures.ends
    (source_in S c.args.script.now c.new-stream.result.ahead) (left g x) c.new-stream.result.reader new.reader (S c.args.script.now) c.line-line.result c.end_run.ensures.line c.serve_all-served.ensures.stops
    (ends_at_line (S c.args.script.now) (left g x) new.reader c.line-line.result (waiting_few new.ahead new.ahead.within) c.line-line.ensures) (account g x)
