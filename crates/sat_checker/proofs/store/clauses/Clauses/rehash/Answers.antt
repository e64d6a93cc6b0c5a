use Rattle.std.proofs.Common.{◌∙◌, sym, refl}
use Rattle.sat_checker.specs.HasherView.{solver_name_of, width_of}
use Rattle.sat_checker.proofs.lemmas.store.Dropping.{gone_hashed}
use Rattle.sat_checker.proofs.lemmas.store.Kept.{kept_hashed}
use Rattle.sat_checker.proofs.store.clauses.Clauses.rehash.Goals as goal

pub invariant_of-self : goal.invariant_of-self
invariant_of-self c =
    let names = solver_name_of c.args.hasher.now in
    let width = width_of c.args.hasher.now in
    let slots = c.self.inside.slots in
    let hashed = c.file_all.ensures.hashed in (
      kept_hashed names width slots slots c.file_all.new.slots c.self.inside.index c.file_all.new.index c.self.inside.occurrences refl c.self.invariant.0 hashed c.file_all.ensures.filed,
      c.self.invariant.1 ∙ sym (gone_hashed names width slots c.file_all.new.slots hashed),
    )
