use Rattle.std.proofs.Common.{ℕ, ◌+◌, ◌*◌, ◌/◌, ap, ◌∙◌}
use Rattle.sat_store.specs.clause.Header.{Header, header_of}
use Rattle.sat_store.proofs.lemmas.clause.HeaderLemmas.{tier_set}
use Rattle.sat_store.proofs.clause.header.ClauseHeader.set_tier.Goals as goal

pub returns : goal.returns
returns c =
    ap (λ (n : ℕ). header_of c.self.inside.activity (c.self.inside.flags / 4 * 4 + n) c.self.inside.len) c.index.ensures
    ∙ tier_set c.self.inside.activity c.self.inside.flags c.self.inside.len c.args.tier
    ∙ ap (λ (h : Header). record h { tier = c.args.tier }) c.self.view_is
