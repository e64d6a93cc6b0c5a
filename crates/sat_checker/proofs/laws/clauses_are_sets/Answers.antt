use Rattle.sat_checker.proofs.lemmas.sets.Canonical.{canonical_increasing, canonical_among, both_signs, tautology_from, same_increasing}
use Rattle.sat_checker.proofs.lemmas.meaning.Clauses.{same, same_from}
use Rattle.sat_checker.proofs.laws.clauses_are_sets.Goals as goal

pub returns : goal.returns
returns c = record {
  sorted = λ ls. (canonical_increasing ls, canonical_among ls);
  signs = λ ls. ((λ e. let b = both_signs ls e in (b.literal, b.within, b.negation)), (λ h. tautology_from ls h.0 h.1 h.2));
  sets = same_increasing;
  same = λ xs ys. (same xs ys, same_from xs ys);
}
