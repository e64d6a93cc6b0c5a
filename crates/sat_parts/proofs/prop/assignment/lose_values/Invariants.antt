use Rattle.std.proofs.Common.{◌≡◌, drop, length}
use Rattle.sat_parts.specs.prop.LitValues.{MirrorsValues}
use Rattle.sat_parts.specs.prop.Undone.{with_values_lost, values_of}
use Rattle.sat_parts.proofs.prop.assignment.lose_values.Given as goal

abbrev pub invariant-loop-lit : goal.invariant-loop-lit
invariant-loop-lit l = record {
  values : with_values_lost (drop l.lit-index l.lits) (values_of l.values l.last) ≡ with_values_lost l.lits (values_of l.fn.values l.fn.last);
  size : length l.values ≡ length l.fn.values;
  last : length l.last ≡ length l.fn.last;
  mirrors : MirrorsValues l.values l.codes;
}
