use Rattle.std.proofs.Common.{◌≡◌, ◌++◌, ◌∙◌, List, ℕ, ap, inl, inr, sym, subst}
use Rattle.sat_base.specs.device.Device.{WriterAccepts}
use Rattle.sat_base.proofs.lemmas.device.Writes.{breaks_later, breaks_within, took_more}
use Rattle.certify.specs.program.Printing.{verdict_text}
use Rattle.certify.specs.run.FinishedRun.{CertificateGuarantee}
use Rattle.certify.specs.run.RoundsLeft.{most_rounds}
use Rattle.certify.specs.declared.verdict.Verdict.TheVariants.{Yes}
use Rattle.certify.proofs.lemmas.laws.FinishedTexts.{guaranteed_yes}
use Rattle.certify.proofs.lemmas.program.Results.{on_err}
use Rattle.certify.proofs.program.standard.print_confirmed.Given.{Over}
use Rattle.certify.proofs.program.standard.print_confirmed.Goals as goal
use Rattle.certify.proofs.program.standard.print_confirmed.Goals.{In_ok-verdict, In_ok-write_out}

-- the answers were written
takes : (g : Over) (c : In_ok-write_out g) → WriterAccepts (g.O.CountedWrite.seen c.args.output.now) (g.O.CountedWrite.seen c.write_out.new.output) c.args.written.now.answers.items
takes g c = rw c.deref.ensures.value at c.in_ok-write_out.ensures.takes

-- they are confirmed, so the last line says so
module _ (g : Over) (c : In_ok-verdict g) where
  is_yes : c.in_ok-verdict.verdict ≡ Yes
  is_yes =
      let w = c.args.written.now in
      let text = c.args.script.now in
      let guarantee = subst (λ (s : List ℕ). CertificateGuarantee text most_rounds w.summary s c.deref-3.result.now) (sym c.deref-2.ensures.value)
      (subst (λ (s : List ℕ). CertificateGuarantee text most_rounds w.summary w.answers.items s) (sym c.deref-3.ensures.value) c.requires) in
      guaranteed_yes most_rounds w.summary text c.deref-2.result.now c.deref-3.result.now c.in_ok-verdict.verdict guarantee c.in_ok-verdict.ensures.says

  line_is : c.confirm_texts.new.line.items ≡ verdict_text Yes
  line_is = c.in_ok-verdict.ensures.line ∙ ap (λ (xs : List ℕ). xs ++ verdict_text c.in_ok-verdict.verdict) c.new-line.ensures.items ∙ ap verdict_text is_yes

pub returns-in_err-write_out-clause-cut : goal.returns-in_err-write_out-clause-cut
returns-in_err-write_out-clause-cut g c =
    on_err _ _ (inr (breaks_within _ _ c.args.written.now.answers.items (verdict_text Yes) (rw c.deref.ensures.value at c.in_err-write_out.ensures.breaks)))

pub returns-in_err-verdict-clause-cut : goal.returns-in_err-verdict-clause-cut
returns-in_err-verdict-clause-cut g c =
    let x = (goal.at.returns-in_err-verdict-clause-cut g c).In_ok-write_out in
    on_err _ _ (inl (takes g x))

pub returns-in_err-print_line-clause-cut : goal.returns-in_err-print_line-clause-cut
returns-in_err-print_line-clause-cut g c =
    let x = (goal.at.returns-in_err-print_line-clause-cut g c).In_ok-write_out in
    let y = (goal.at.returns-in_err-print_line-clause-cut g c).In_ok-verdict in
    on_err _ _ (inr (breaks_later _ _ _ c.args.written.now.answers.items (verdict_text Yes) (takes g x) (rw (c.deref-4.ensures.value ∙ line_is g y) at c.in_err-print_line.ensures.breaks)))

pub returns-clause-printed : goal.returns-clause-printed
returns-clause-printed g c =
    let x = (goal.at.returns-clause-printed g c).In_ok-write_out in
    let y = (goal.at.returns-clause-printed g c).In_ok-verdict in
    record {
      printed = took_more _ _ _ c.args.written.now.answers.items (verdict_text Yes) (takes g x) (rw (c.deref-4.ensures.value ∙ line_is g y) at c.in_ok-print_line.ensures.took);
      flushed = c.in_ok-print_line.ensures.flushed;
      done = (λ zero. sym c.is_some.ensures ∙ (c.status.ensures.done.0 zero).1, λ formed. c.status.ensures.done.1 (is_yes g y, c.is_some.ensures ∙ formed));
    }
