use Rattle.std.proofs.Common.{ℕ, ◌+◌, ◌*◌, ◌/◌, ◌%◌, ap, ◌∙◌}
use Rattle.sat_store.specs.clause.Header.{Header, header_of}
use Rattle.sat_store.proofs.lemmas.clause.HeaderLemmas.{deleted_set}
use Rattle.sat_store.proofs.clause.header.ClauseHeader.set_deleted.Goals as goal

pub returns : goal.returns
returns c =
    ap (λ (n : ℕ). header_of c.self.inside.activity (c.self.inside.flags / 8 * 8 + n * 4 + c.self.inside.flags % 4) c.self.inside.len) c.from.ensures
    ∙ deleted_set c.self.inside.activity c.self.inside.flags c.self.inside.len c.args.deleted
    ∙ ap (λ (h : Header). record h { deleted = c.args.deleted }) c.self.view_is
