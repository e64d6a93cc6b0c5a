-- No step's text is a prefix of another's.
use Rattle.sat_base.specs.steps.Formats.{IsUniquelyDecodable}
use Rattle.sat_base.specs.steps.StepText.{SpellsStep}
use Rattle.sat_base.proofs.lemmas.steps.StepReads as reads

pub one_step : IsUniquelyDecodable SpellsStep
one_step = reads.one_step
