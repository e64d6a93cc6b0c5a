use Rattle.std.proofs.Common.{◌∷◌, [], Some, ap}
use Rattle.certify.proofs.lemmas.program.Copying.{copy_none}
use Rattle.certify.proofs.program.keeping.Keeping.new.Goals as goal

pub invariant_of-result : goal.invariant_of-result
invariant_of-result g c = record {
  copies = rw c.new.ensures.items (copy_none (g.R.CountedRead.seen c.args.reader).given);
  none = λ _. ap (λ r. r.failures) (c.new-2.ensures.reader (λ _. Some (0 ∷ [])));
}
