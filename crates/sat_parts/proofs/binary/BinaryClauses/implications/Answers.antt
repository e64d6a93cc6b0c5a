use Rattle.std.proofs.Common.{ap, sym, arith}
use Rattle.std.proofs.lemmas.List.{get_or_read}
use Rattle.sat_parts.specs.prop.Binaries.{Binaries}
use Rattle.sat_parts.specs.prop.Places.{no_place}
use Rattle.sat_parts.proofs.lemmas.prop.PlaceLemmas.{counted_more}
use Rattle.sat_parts.proofs.binary.BinaryClauses.implications.Goals as goal

pub loop-code-preserved : goal.loop-code-preserved
loop-code-preserved c =
    counted_more c.self.inside.by_lit.items c.self.inside.lits.items c.args.self.now.implied c.loop-code.code c.loop-code.all c.saturating_add-all.result c.index-place.result.now
    (sym (ap (λ (b : Binaries). b.implied) c.self.view_is))
    (get_or_read c.self.inside.by_lit.items c.loop-code.code c.index-place.result.now (omega arith) c.index-place.ensures no_place)
    c.self.invariant (omega arith) c.loop-code.invariant c.saturating_add-all.ensures
