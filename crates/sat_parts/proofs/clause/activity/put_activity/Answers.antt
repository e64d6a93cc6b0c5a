use Rattle.std.proofs.Common.{refl}
use Rattle.sat_store.specs.clause.Buffer.{header_at}
use Rattle.sat_parts.specs.clause.Db.{PutsHeader}
use Rattle.sat_parts.specs.clause.Activity.{with_activity}
use Rattle.sat_parts.proofs.lemmas.clause.DbLemmas.{header_put}
use Rattle.sat_parts.proofs.lemmas.clause.HeaderLemmas.{holds_put}
use Rattle.sat_parts.proofs.clause.activity.put_activity.Goals as goal

pub returns : goal.returns
returns c =
    let w = c.args.clauses.now in
    let v = c.set_activity.new.self in
    let db = c.args._db.now in
    let h = with_activity (header_at c.args.clauses.now c.args.cref) c.args.activity in
    let put : PutsHeader w v db.refs c.args.cref h =
    header_put w v db.refs c.args.cref h c.requires.db.holds_clauses c.requires.there c.set_activity.ensures.header c.set_activity.ensures.lits c.set_activity.ensures.others in
    let held = holds_put w v db c.args.cref h c.requires.db put refl refl in
    record { put = put; db = held.0; live = held.1 }
