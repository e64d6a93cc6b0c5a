use Rattle.std.proofs.Common.{◌≡◌, false, sym, ap, ◌∙◌, arith}
use Rattle.std.proofs.lemmas.Grind.{common_steps}
use Rattle.sat_store.specs.clause.Buffer.{header_at}
use Rattle.sat_store.specs.clause.Header.{Header}
use Rattle.sat_parts_tests.proofs.LiveLemmas.{live_there}
use Rattle.sat_parts_tests.proofs.passes.stands_at.Goals as goal

pub returns-clause-live : goal.returns-clause-live
returns-clause-live c = λ yes.
    let same : c.cref-there.result ≡ c.args.cref = grind (arith, common_steps) in
    let kept : (header_at c.args.clauses.now c.cref-there.result).deleted ≡ false = ap (λ (h : Header). h.deleted) (sym c.header.ensures.value) ∙ sym c.deleted.ensures ∙ c.if-deleted.false in
    live_there c.args.clauses.now c.args.db.now.refs c.args.at c.cref-there.result c.args.cref c.requires.within c.cref-there.ensures same kept
