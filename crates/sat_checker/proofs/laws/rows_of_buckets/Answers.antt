use Rattle.sat_checker.proofs.lemmas.rows.More.{by_name, by_left, units, turned, empty_after, empty_before}
use Rattle.sat_checker.proofs.laws.rows_of_buckets.Goals as goal

pub returns : goal.returns
returns c = record { by_name = by_name; name_left = by_left; units = units; turned = turned; following = empty_after; before = empty_before }
