use Rattle.sat_solver.proofs.lemmas.facade.LawLemmas.{flushed_is_text}
use Rattle.sat_solver.proofs.facade.laws.flushed_targets_took_texts.Goals as goal

pub returns : goal.returns
returns c = flushed_is_text
