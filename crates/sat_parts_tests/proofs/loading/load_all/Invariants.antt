use Rattle.sat_parts_tests.specs.Loading.{IsReady}
use Rattle.sat_parts_tests.proofs.loading.load_all.Given as goal

abbrev pub invariant-loop-numbers : goal.invariant-loop-numbers
invariant-loop-numbers l = IsReady l.parts l.count
