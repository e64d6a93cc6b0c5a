use Rattle.std.proofs.Common.{◌≡◌, ◌++◌, drop}
use Rattle.std.specs.Vec.Iter.{into_iter_items}
use Rattle.certify_cli.proofs.after_first.Given as goal

abbrev pub invariant-loop-word : goal.invariant-loop-word
invariant-loop-word l = l.following.items ++ into_iter_items l.word-iterator ≡ drop 1 (into_iter_items l.fn.words)
