use Rattle.std.proofs.Common.{◌∙◌, ap}
use Rattle.sat_checker.specs.CheckerView.{view_of}
use Rattle.sat_checker.specs.listeners.ProcessingView.{listeners_of}
use Rattle.sat_checker.specs.declared.checker.Checker.{Checker}
use Rattle.sat_checker.specs.declared.processing.Nobody.{Nobody}
use Rattle.sat_solver.specs.declared.proof.hash_bits.Counting.{Counting}
use Rattle.sat_solver.proofs.lemmas.session.CheckedLemmas.{anew}
use Rattle.sat_solver.proofs.proof.checker.Checked.begin_anew.Goals as goal

pub returns : goal.returns
returns g c =
    anew g.P.ProofProcessor.takes c.args.self.now _ c.of-roll.result.items c.into_processors-former.result.processors.items (c.of-roll.ensures ∙ c.deref.ensures.value)
    (c.into_processors-former.ensures.processors ∙ ap (λ (k : Checker _ Nobody). (listeners_of (view_of k).listeners).processors) c.replace.ensures.value) (ap (λ (k : Counting). k.bits) c.new.ensures)
    c.with_listeners.ensures.valid c.with_listeners.ensures.goes_on c.with_listeners.ensures.settled (c.with_listeners.ensures.listeners ∙ ap (λ xs. record { processors = c.into_processors-former.result.processors.items; transcripts = xs }) c.new-2.ensures.items)
