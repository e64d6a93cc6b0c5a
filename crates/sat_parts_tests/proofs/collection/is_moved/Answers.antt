use Rattle.std.proofs.Common.{ℕ, List, ◌/◌, inl, inr, length, sym, subst}
use Rattle.std.proofs.lemmas.Bool.{cases_lt}
use Rattle.sat_parts.specs.clause.Db.{Db, DbMatchesBuffer}
use Rattle.sat_parts_tests.proofs.collection.is_moved.Goals as goal

pub is_among-requires : goal.is_among-requires
is_among-requires c = elim (cases_lt (length c.args.clauses.now / 2) c.args.db.now.garbage) [
  | inl due ↦ (c.in_ok-collect_garbage.ensures.collected due).holds
  | inr early ↦
      let same = c.in_ok-collect_garbage.ensures.not_due early in
      subst (λ (words : List ℕ). DbMatchesBuffer words c.collect_garbage.new.db) (sym same.0)
      (subst (λ (db : Db). DbMatchesBuffer c.args.clauses.now db) (sym same.1) c.requires)
]
