use Rattle.std.proofs.Common.{ℕ, ◌+◌, ◌≡◌, ◌∙◌, ap, refl}
use Rattle.sat_base.specs.steps.StepReading.{reader_source, last_step_in}
use Rattle.sat_checker.specs.CheckerView.{kernel_of}
use Rattle.certify.specs.confirm.Confirming.{name_table_of}
use Rattle.certify.specs.confirm.ConfirmedScript.{confirm_place}
use Rattle.certify.specs.script.LastPiece.{source_in}
use Rattle.certify.proofs.lemmas.script.LastChunks.{reads_first}
use Rattle.certify.proofs.lemmas.confirm.Decided.{IsBegun, begins, keeps_promises, looks_added}
use Rattle.certify.proofs.confirm.compare.Goals as goal

pub returns : goal.returns
returns g c =
    let S = g.S.CountedRead.seen in
    let A = g.A.CountedRead.seen in
    let C = g.C.CountedRead.seen in
    let x = S c.args.script.now in
    let a = A c.args.answers.now in
    let d = C c.args.certificate.now in
    let script = c.new.result.ahead in
    let answers = c.new-2.result.answers.lines.ahead in
    let checker = kernel_of c.new-2.result.matching.certificate.checker in
    let step = last_step_in c.new-steps.result in
    let table = name_table_of c.new-2.result.matching in
    let ended = c.confirm_all-ended in
    let new = confirm_place S A C ended.new.script ended.new.answers ended.new.steps ended.new.self in
    let fresh : IsBegun checker step table = λ rest. c.new-2.ensures.valid rest step in
    let ends = begins ended.result x a d script answers (reader_source C c.new-steps.result) checker step (c.new-2.result.number + 1) table new
    c.new.ensures.waiting c.new.ensures.reads c.new-2.ensures.waiting c.new-2.ensures.reads c.new-steps.ensures.source (ap (λ (n : ℕ). n + 1) c.new-2.ensures.number) ended.ensures.ends in
    let now : C c.certificate-1.given.0 ≡ C ended.new.steps.reader.now = ap C (c.certificate-1.given.1 (cc) ∙ c.drop-steps.ensures) in
    rw now record {
      promised = keeps_promises x a d checker step table new fresh ended.result ended.new.self.session.asks ended.new.self.script.ahead.bounded ended.new.self.session.answers.lines.ahead.bounded ended.ensures.bound ends;
      looks = looks_added x a d checker step table fresh new c.new-2.ensures.looks ended.result c.args.looks.now c.add.new.self c.add.ensures ends;
      stops = ended.ensures.stops x (reads_first x (source_in S c.args.script.now script) c.new.result.reader refl c.new.ensures.waiting c.new.ensures.text);
    }
