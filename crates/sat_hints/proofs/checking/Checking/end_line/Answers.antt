use Rattle.std.proofs.Common.{rules, refl, ◌≡◌, ◌++◌, ◌∙◌}
use Rattle.sat_hints.proofs.lemmas.Holding.{line_ends}
use Rattle.sat_checker.proofs.lemmas.store.Entries.{on_err}
use Rattle.sat_hints.proofs.lemmas.Stopping.{line_stops}
use Rattle.sat_hints.proofs.checking.Checking.end_line.Goals as goal

pub returns-clause-reads : goal.returns-clause-reads
returns-clause-reads c =
    let e : c.extend_from_slice.new.self.items ≡ c.args.self.now.held.items ++ c.args.bytes.now = search rules in
    line_ends c.args.self.now _ c.args.bytes.now c.requires.ends c.in_ok-why.why c.deref.result.now (c.deref.ensures.value ∙ e) c.in_ok-why.ensures.takes c.clear.ensures.items refl

pub returns-in_err-why-clause-stops : goal.returns-in_err-why-clause-stops
returns-in_err-why-clause-stops c =
    let e : c.extend_from_slice.new.self.items ≡ c.args.self.now.held.items ++ c.args.bytes.now = search rules in
    on_err c.from_residual-in_err-why.result _ (line_stops c.args.self.now c.args.bytes.now c.deref.result.now c.requires.ends (c.deref.ensures.value ∙ e) c.in_err-why.ensures.on_error)
