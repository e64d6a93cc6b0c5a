use Rattle.std.proofs.Common.{◌≡◌, ◌+◌, ◌*◌, take}
use Rattle.sat_hints.specs.inner.Clauses.{count_in_kept}
use Rattle.sat_hints.proofs.uses.is_in_long.Given as goal

-- no clause of two or more literals among the first has the variable
abbrev pub invariant-loop-place : goal.invariant-loop-place
invariant-loop-place l =
    count_in_kept (2 * l.var) (take l.place l.present.clauses) (take l.place l.present.removed.items) + count_in_kept (2 * l.var + 1) (take l.place l.present.clauses) (take l.place l.present.removed.items) ≡ 0
