-- What a transcript step of the code represents.
use Rattle.sat_checker.specs.announcements.Transcripts.{Transcribed, WitnessVar, SampleVar, HideVar, ObserveInternalVar, AddClause, Unsat, Model, Assume, FailedAssumptions}
use Rattle.sat_checker.specs.declared.announce.transcript.ProofTranscriptStep.{ProofTranscriptStep}
use Rattle.sat_checker.specs.declared.announce.transcript.ProofTranscriptStep.TheVariants as code

-- The transcript step that the code's step represents.
abbrev pub transcribed_of : ProofTranscriptStep → Transcribed
transcribed_of (code.WitnessVar var) = WitnessVar var
transcribed_of (code.SampleVar var) = SampleVar var
transcribed_of (code.HideVar var) = HideVar var
transcribed_of (code.ObserveInternalVar var) = ObserveInternalVar var
transcribed_of (code.AddClause clause) = AddClause clause.now
transcribed_of code.Unsat = Unsat
transcribed_of (code.Model assignment) = Model assignment.now
transcribed_of (code.Assume assumptions) = Assume assumptions.now
transcribed_of (code.FailedAssumptions core) = FailedAssumptions core.now
