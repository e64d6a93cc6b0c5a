use Rattle.sat_solver.proofs.lemmas.session.ProofLemmas.{closed_is_text, broken_is_front}
use Rattle.sat_solver.proofs.session.laws.targets_take_texts.Goals as goal

pub returns : goal.returns
returns c = record { closed = closed_is_text; broken = broken_is_front }
