use Rattle.certify.proofs.lemmas.laws.FinishedTexts.{guaranteed_yes}
use Rattle.certify.proofs.headline.certify_over.Goals as goal

pub returns-in-Ok-verdicts_over : goal.returns-in-Ok-verdicts_over
returns-in-Ok-verdicts_over c =
    let w = c.in-Ok.written in
    let v = c.in-Ok-verdicts_over in
    record {
      answered = c.in-Ok.ensures;
      confirmed = guaranteed_yes c.args.budget w.summary c.args.script.now w.answers.items w.certificate.items v.own c.in-Ok.ensures v.ensures.own;
      checked = v.ensures.own;
      any = v.ensures.other;
      looks = v.ensures.looks;
    }
