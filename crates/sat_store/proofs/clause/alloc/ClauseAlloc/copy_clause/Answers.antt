use Rattle.std.proofs.Common.{◌≡◌, ◌∙◌, arith, length}
use Rattle.sat_store.proofs.lemmas.clause.BufferLemmas.{copied_by}
use Rattle.sat_store.proofs.lemmas.clause.HeldClauses.{lits_fit}
use Rattle.sat_store.proofs.clause.alloc.ClauseAlloc.copy_clause.Goals as goal

pub returns-clause-added : goal.returns-clause-added
returns-clause-added c =
    let place : c.len-offset.result ≡ length c.self.inside.words.items = omega (arith, c.len-offset.ensures, c.self.inside.words.ok.0) in
    copied_by c.self.inside.words.items _ _ _ c.deref.result.now _ _ c.cref.inside.offset c.index.result.now c.self.view_is (c.deref.ensures.value ∙ c.from.view_is) c.cref.view_is place (rw (c.deref.ensures.value) c.index.ensures) c.in_ok-extend_from_slice.ensures.items c.requires (lits_fit c.args.from.now c.args.cref c.requires)
