use Rattle.std.proofs.Common.{◌≡◌, ◌≤◌, false, List}
use Rattle.sat_base.specs.steps.Steps.{Step}
use Rattle.sat_checker.specs.CheckerView.{checker_has_failed, kernel_of, view_of, HasAccepted}
use Rattle.sat_checker.specs.KernelView.{kernel_looks}
use Rattle.sat_checker.specs.listeners.ProcessingView.{EachListenerReceives}
use Rattle.sat_checker.proofs.lemmas.checker.Additions.{Added}
use Rattle.sat_checker.proofs.checker.Checker.add_formula.Given as goal

abbrev pub invariant-loop-clause : goal.invariant-loop-clause
invariant-loop-clause g l = (checker_has_failed (view_of l.fn.self) ≡ false)
    × (kernel_looks (kernel_of l.fn.self) ≤ kernel_looks (kernel_of l.self))
    × ((before : _) (begun : _) (earlier : List Step) → HasAccepted (EachListenerReceives g.P.ProofProcessor.takes g.T.ProofTranscriptProcessor.reads) before begun (view_of l.fn.self) earlier → Added (EachListenerReceives g.P.ProofProcessor.takes g.T.ProofTranscriptProcessor.reads) before begun (view_of l.fn.self) (view_of l.self) l.formula.clauses l.clause-iterator earlier)
