use Rattle.std.proofs.Common.{◌<◌, ◌^◌, ◌++◌, ◌∷◌, [], length, arith, ap, ◌∙◌, List, ℕ}
use Rattle.sat_parts.specs.clause.Db.{Db}
use Rattle.sat_parts.proofs.lemmas.clause.DbLemmas.{added_by}
use Rattle.sat_parts.proofs.clause.db.add_clause.Goals as goal

pub returns-clause-added : goal.returns-clause-added
returns-clause-added c =
    let inside : Db = record { refs = c.db.inside.clauses.items; counts = c.db.inside.count_by_tier; garbage = c.db.inside.garbage_size } in
    let few : length c.push_reserved.new.self.items < 2 ^ 64 = omega (arith, c.push_reserved.new.self.ok.0, c.push_reserved.new.self.ok.1, c.push_reserved.auto.self) in
    added_by c.args.clauses.now c.args.db.now c.count_more.new.self inside c.store_clause.new.clauses c.push_reserved.new.self.items c.tier.result c.in_ok-cref.cref c.args.header c.args.lits.now
    c.db.view_is c.count_more.ensures (c.push_reserved.ensures.items ∙ ap (λ (xs : List ℕ). xs ++ c.in_ok-cref.cref ∷ []) c.reserve.ensures.items) c.tier.ensures
    c.requires.db c.requires.live c.requires.long few c.in_ok-cref.ensures.added
