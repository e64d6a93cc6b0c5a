use Rattle.std.proofs.Common.{sym, subst}
use Rattle.sat_base.specs.dimacs.Faults.{HasReceivedWithoutFault}
use Rattle.sat_base.specs.dimacs.ParserPlaces.{progress_of}
use Rattle.sat_base.proofs.lemmas.dimacs.Feeding.{taken_soundly}
use Rattle.sat_base.proofs.lemmas.dimacs.FaultsFound.{refused_by, open_before}
use Rattle.sat_base.proofs.dimacs.parser.Parser.feed_or_find_fault.Goals as goal

pub returns-in-Err-clause-refused : goal.returns-in-Err-clause-refused
returns-in-Err-clause-refused c =
    let old = c.args.self.now in
    let f = c.in-Err.ensures.answer in
    refused_by c.in-Err.error c.error_within.result c.args.piece.now (progress_of old) (progress_of c.feed.new.self) f c.error_within.ensures.same
    (λ e. c.error_within.ensures.found e old.history.fed
    (subst (HasReceivedWithoutFault old.history.fed) (sym c.copied-tokenizer.ensures) (taken_soundly old (c.requires.goes (open_before c.in-Err.error c.args.piece.now (progress_of old) (progress_of c.feed.new.self) f e)))))
