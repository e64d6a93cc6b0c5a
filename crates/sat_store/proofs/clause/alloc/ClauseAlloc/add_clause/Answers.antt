use Rattle.std.proofs.Common.{◌≡◌, arith, ℕ, List, [], ◌∷◌, ◌++◌, length, ap, ◌∙◌, refl}
use Rattle.sat_store.proofs.lemmas.clause.BufferLemmas.{pushed_clause}
use Rattle.sat_store.proofs.clause.alloc.ClauseAlloc.add_clause.Goals as goal

pub returns-clause-added : goal.returns-clause-added
returns-clause-added c =
    let lits = c.args.lits.now in
    let a = c.activity.result in
    let f = c.flags.result in
    let words = c.push_lits.ensures.words
    ∙ ap (λ (ws : List ℕ). ws ++ lits) (c.push_reserved-3.ensures.items
    ∙ ap (λ (ws : List ℕ). ws ++ length lits ∷ []) (c.push_reserved-2.ensures.items
    ∙ ap (λ (ws : List ℕ). ws ++ f ∷ []) (c.push_reserved.ensures.items
    ∙ ap (λ (ws : List ℕ). ws ++ a ∷ []) c.in_ok-reserve.ensures.items))) in
    let place : c.len-offset.result ≡ length c.self.inside.words.items = omega (arith, c.len-offset.ensures, c.self.inside.words.ok.0) in
    pushed_clause _ _ _ _ a f (length lits) lits c.args.header c.self.view_is place words refl c.flags.ensures.bound c.push_lits.ensures.literals c.activity.ensures c.flags.ensures.value
