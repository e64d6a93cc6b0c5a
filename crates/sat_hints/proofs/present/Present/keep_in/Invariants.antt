use Rattle.sat_hints.proofs.lemmas.Listed.{KeepsFirst}
use Rattle.sat_hints.proofs.present.Present.keep_in.Given as goal

abbrev pub invariant-loop-place : goal.invariant-loop-place
invariant-loop-place l = KeepsFirst l.self l.place l.kept
