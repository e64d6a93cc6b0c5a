use Rattle.std.proofs.Common.{ℕ, ◌+◌, ◌*◌, ◌/◌, ◌%◌, ap, ◌∙◌}
use Rattle.sat_store.specs.clause.Header.{Header, header_of}
use Rattle.sat_store.proofs.lemmas.clause.HeaderLemmas.{mark_set}
use Rattle.sat_store.proofs.clause.header.ClauseHeader.set_mark.Goals as goal

pub returns : goal.returns
returns c =
    ap (λ (n : ℕ). header_of c.self.inside.activity (c.self.inside.flags / 16 * 16 + n * 8 + c.self.inside.flags % 8) c.self.inside.len) c.from.ensures
    ∙ mark_set c.self.inside.activity c.self.inside.flags c.self.inside.len c.args.mark
    ∙ ap (λ (h : Header). record h { mark = c.args.mark }) c.self.view_is
