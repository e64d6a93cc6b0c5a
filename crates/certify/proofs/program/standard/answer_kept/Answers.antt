use Rattle.std.proofs.Common.{inl, refl}
use Rattle.certify.proofs.lemmas.program.PrintedVerdicts.{cut_given, prints_given}
use Rattle.certify.proofs.lemmas.program.Results.{on_err}
use Rattle.certify.proofs.program.standard.answer_kept.Goals as goal

pub returns-in_err-written-clause-cut : goal.returns-in_err-written-clause-cut
returns-in_err-written-clause-cut g c = on_err _ _ (inl refl)

pub returns-clause-printed : goal.returns-clause-printed
returns-clause-printed g c =
    let x = g.R.CountedRead.seen c.args.script.now.reader in
    let y = g.R.CountedRead.seen c.run_kept.new.script.reader in
    let a = g.O.CountedWrite.seen c.args.output.now in
    let b = g.O.CountedWrite.seen c.print_confirmed.new.output in
    prints_given c.print_confirmed.result x y a b c.run_kept.new.script.kept.items c.in_ok-written.written c.in_ok-written.ensures.gave c.print_confirmed.ensures.printed

pub returns-clause-cut : goal.returns-clause-cut
returns-clause-cut g c =
    let x = g.R.CountedRead.seen c.args.script.now.reader in
    let y = g.R.CountedRead.seen c.run_kept.new.script.reader in
    let a = g.O.CountedWrite.seen c.args.output.now in
    let b = g.O.CountedWrite.seen c.print_confirmed.new.output in
    cut_given c.print_confirmed.result x y a b c.run_kept.new.script.kept.items c.in_ok-written.written c.in_ok-written.ensures.gave c.print_confirmed.ensures.cut
