use Rattle.std.proofs.Common.{◌++◌}
use Rattle.sat_base.proofs.lemmas.dimacs.Feeding.{sound_taken}
use Rattle.sat_base.proofs.dimacs.faults.error_within.Goals as goal

pub returns-in-Ok-clause-found : goal.returns-in-Ok-clause-found
returns-in-Ok-clause-found c e text h = sound_taken (text ++ c.args.bytes.now) c.take_bytes.new.tokenizer (c.in-Ok.ensures text h)
