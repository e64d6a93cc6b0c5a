use Rattle.sat_checker.proofs.lemmas.meaning.Answers.{models_extend, cores_fail, cores_assumed}
use Rattle.sat_checker.proofs.laws.answers_are_sound.Goals as goal

pub returns : goal.returns
returns c = record { models = models_extend; cores = cores_fail; assumed = cores_assumed }
