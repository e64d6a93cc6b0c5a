use Rattle.std.proofs.lemmas.Grind.{common_steps}
use Rattle.std.proofs.Common.{◌≤◌, length, ◌∙◌, arith}
use Rattle.std.proofs.lemmas.Result.{err_from_is_err_and}
use Rattle.sat_checker.specs.CheckerView.{kernel_of}
use Rattle.certify.specs.confirm.Streams.{stream_of}
use Rattle.certify.specs.script.Commands.{kind_of}
use Rattle.certify.proofs.lemmas.confirm.NamesMet.{none_taken, one_taken, none_met, next_met, next_stop, all_met, known_taken, known_met}
use Rattle.certify.proofs.confirm.names.Matching.take_names.Goals as goal

pub loop-lit-init : goal.loop-lit-init
loop-lit-init g c = grind (arith, common_steps, none_taken, none_met)

pub returns-in_err-take_name-clause-confirms : goal.returns-in_err-take_name-clause-confirms
returns-in_err-take_name-clause-confirms g c = grind (arith, common_steps, err_from_is_err_and, next_stop)

pub loop-lit-preserved : goal.loop-lit-preserved
loop-lit-preserved g c =
    let S = g.R.CountedRead.seen in
    let old = c.args.self.now in
    let l = c.loop-lit in
    record {
      same = c.in_ok-take_name.ensures.same ∙ l.invariant.same;
      goes_on = c.in_ok-take_name.ensures.goes_on;
      taken = one_taken (kind_of c.args.kind) c.args.literals.now l.lit-index c.lit-item.result c.var.result old.names l.self.names c.take_name.new.self.names c.loop-lit-test.true c.lit-item.is c.var.ensures l.invariant.taken c.in_ok-take_name.ensures.changes;
      met = next_met (kind_of c.args.kind) c.args.literals.now l.lit-index c.lit-item.result c.var.result old.names l.self.names old.certificate.names l.self.certificate.names c.take_name.new.self.certificate.names c.loop-lit-test.true c.lit-item.is c.var.ensures l.invariant.taken
          (stream_of S c.args.steps.now (kernel_of old.certificate.checker)) (stream_of S l.steps (kernel_of l.self.certificate.checker)) (stream_of S c.take_name.new.steps (kernel_of c.take_name.new.self.certificate.checker))
          c.requires.goes_on.open_yet l.invariant.met c.in_ok-take_name.ensures.confirms;
    }

pub returns-clause-confirms : goal.returns-clause-confirms
returns-clause-confirms g c =
    let S = g.R.CountedRead.seen in
    let old = c.args.self.now in
    let l = c.loop-lit in
    let over : length c.args.literals.now ≤ l.lit-index = omega arith in
    all_met (kind_of c.args.kind) c.args.literals.now l.lit-index old.names old.certificate.names l.self.certificate.names (stream_of S c.args.steps.now (kernel_of old.certificate.checker)) (stream_of S l.steps (kernel_of l.self.certificate.checker)) over l.invariant.met

pub returns-then-are_known-clause-changes : goal.returns-then-are_known-clause-changes
returns-then-are_known-clause-changes g c = known_taken (kind_of c.args.kind) c.args.literals.now c.args.self.now.names (c.are_known.ensures c.if-are_known.true)

pub returns-then-are_known-clause-confirms : goal.returns-then-are_known-clause-confirms
returns-then-are_known-clause-confirms g c =
    let old = c.args.self.now in
    known_met (kind_of c.args.kind) c.args.literals.now old.names old.certificate.names (stream_of g.R.CountedRead.seen c.args.steps.now (kernel_of old.certificate.checker)) (c.are_known.ensures c.if-are_known.true)
