use Rattle.std.proofs.Common.{◌≡◌, Some, None, ap, ◌∙◌, arith}
use Rattle.sat_store.specs.variables.Maps.{MapAndInverse, target}
use Rattle.sat_store.proofs.lemmas.variables.MapLemmas.{cut_back}
use Rattle.sat_store.proofs.var_map.VarBiMap.link.Goals as goal

pub invariant_of-self-in-Err : goal.invariant_of-self-in-Err
invariant_of-self-in-Err c =
    let free : target c.self.inside.fwd c.args.from ≡ None = ap (λ (m : MapAndInverse). target m.fwd c.args.from) c.self.view_is ∙ c.requires.from_unmapped in
    let fwd : c.cut.new.self ≡ c.self.inside.fwd = cut_back c.self.inside.fwd c.insert.new.self c.cut.new.self c.args.from (Some c.args.into) free c.in_ok-insert.ensures.put (c.cut.ensures.watermark ∙ c.watermark-watermark.ensures) (λ v within. c.cut.ensures.put v (omega (arith, c.watermark-watermark.ensures))) in
    rw (fwd, c.in-Err.ensures.kept) c.self.invariant

pub returns-in-Err-clause-kept : goal.returns-in-Err-clause-kept
returns-in-Err-clause-kept c =
    let free : target c.self.inside.fwd c.args.from ≡ None = ap (λ (m : MapAndInverse). target m.fwd c.args.from) c.self.view_is ∙ c.requires.from_unmapped in
    let fwd : c.cut.new.self ≡ c.self.inside.fwd = cut_back c.self.inside.fwd c.insert.new.self c.cut.new.self c.args.from (Some c.args.into) free c.in_ok-insert.ensures.put (c.cut.ensures.watermark ∙ c.watermark-watermark.ensures) (λ v within. c.cut.ensures.put v (omega (arith, c.watermark-watermark.ensures))) in
    rw (fwd, c.in-Err.ensures.kept) c.self.view_is
