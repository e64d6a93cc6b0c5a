use Rattle.std.proofs.Common.{◌≡◌, ◌<◌, ◌≤◌, ℕ, List, true, false, not, length, get_or, sym, ap, ◌∙◌, subst, arith}
use Rattle.std.proofs.lemmas.List.{get_or_read}
use Rattle.std.specs.List.{Contains}
use Rattle.sat_store.specs.clause.Header.{Header}
use Rattle.sat_parts.specs.clause.Db.{Db, is_live, live_refs}
use Rattle.sat_parts.specs.clause.Stored.{size_of}
use Rattle.sat_parts.proofs.lemmas.prop.BuildLemmas.{built_skip, built_by, built_all, live_place}
use Rattle.sat_parts.proofs.prop.watch.enable_watchlists.Given.{Over}
use Rattle.sat_parts.proofs.prop.watch.enable_watchlists.Goals as goal
use Rattle.sat_parts.proofs.prop.watch.enable_watchlists.Goals.{After-cref-item, Then-not-deleted, then-not-deleted+in_ok-watch_clause, else-not-deleted}

-- the reference of this iteration, which the database has there
module _ (g : Over) (c : After-cref-item g) where
  same : c.deref-cref-items.result.now ≡ c.args.db.now.refs
  same = c.deref-cref-items.ensures.value ∙ ap (λ (d : Db). d.refs) c.db.view_is

  within : c.loop-cref.cref-index < length c.args.db.now.refs
  within = subst (λ (xs : List ℕ). c.loop-cref.cref-index < length xs) same (omega arith)

  found : c.cref-item.result ≡ get_or c.args.db.now.refs c.loop-cref.cref-index 0
  found = get_or_read c.deref-cref-items.result.now c.loop-cref.cref-index c.cref-item.result (omega arith) c.cref-item.is 0 ∙ ap (λ (xs : List ℕ). get_or xs c.loop-cref.cref-index 0) same

-- it's a live clause's, which is long
module _ (g : Over) (c : Then-not-deleted g) where
  live : is_live c.args.clauses.now c.cref-item.result ≡ true
  live = ap (λ b. not b) (ap (λ (h : Header). h.deleted) (sym c.header.ensures.value) ∙ sym c.deleted.ensures ∙ c.if-not-deleted.true)

  held : Contains (live_refs c.args.clauses.now c.args.db.now.refs) c.cref-item.result
  held = let x = (goal.at.Then-not-deleted g c).After-cref-item in live_place c.args.clauses.now c.args.db.now.refs c.loop-cref.cref-index c.cref-item.result (within g x) (found g x) live

  long : 3 ≤ size_of c.args.clauses.now c.cref-item.result
  long = c.requires.1.0.long c.cref-item.result held

pub lit-requires-clause-within : goal.lit-requires-clause-within
lit-requires-clause-within g c = omega (arith, long g (goal.at.lit-requires-clause-within g c).Then-not-deleted)

pub lit-requires-then-not-deleted-clause-within : goal.lit-requires-then-not-deleted-clause-within
lit-requires-then-not-deleted-clause-within g c = omega (arith, long g (goal.at.lit-requires-then-not-deleted-clause-within g c).Then-not-deleted)

pub watch_clause-requires-clause-first : goal.watch_clause-requires-clause-first
watch_clause-requires-clause-first g c =
    let x = (goal.at.watch_clause-requires-clause-first g c).Then-not-deleted in
    omega (arith, c.requires.1.0.below c.cref-item.result 0 (held g x) (omega (arith, long g x)), c.lit.ensures.value, c.loop-cref.invariant.built.room)

pub watch_clause-requires-clause-second : goal.watch_clause-requires-clause-second
watch_clause-requires-clause-second g c =
    let x = (goal.at.watch_clause-requires-clause-second g c).Then-not-deleted in
    omega (arith, c.requires.1.0.below c.cref-item.result 1 (held g x) (omega (arith, long g x)), c.lit-then-not-deleted.ensures.value, c.loop-cref.invariant.built.room)

pub loop-cref-preserved : goal.loop-cref-preserved
loop-cref-preserved g c =
    let x = (goal.at.loop-cref-preserved g c).After-cref-item in
    elim c.if-not-deleted.branch [
      | then-not-deleted+in_ok-watch_clause w ↦
          let live : is_live c.args.clauses.now c.cref-item.result ≡ true = ap (λ b. not b) (ap (λ (h : Header). h.deleted) (sym c.header.ensures.value) ∙ sym c.deleted.ensures ∙ w.if-not-deleted.true) in
          let step = built_by c.args.clauses.now c.args.db.now.refs c.loop-cref.watchlists c.if-not-deleted.watchlists g.count c.loop-cref.cref-index c.cref-item.result w.lit.result w.lit-then-not-deleted.result
          c.requires.1.0 c.loop-cref.invariant.built (within g x) (found g x) live w.lit.ensures.value w.lit-then-not-deleted.ensures.value c.loop-cref.invariant.enabled (w.watchlists-is ∙ w.in_ok-watch_clause.ensures.done) in
          record { built = step.0; enabled = step.1 }
      | else-not-deleted w ↦
          let dead : is_live c.args.clauses.now c.cref-item.result ≡ false = ap (λ b. not b) (ap (λ (h : Header). h.deleted) (sym c.header.ensures.value) ∙ sym c.deleted.ensures ∙ w.if-not-deleted.false) in
          record {
            built = rw w.watchlists-is (built_skip c.args.clauses.now c.args.db.now.refs c.loop-cref.watchlists.lists g.count c.loop-cref.cref-index c.loop-cref.invariant.built (within g x) (subst (λ z. is_live c.args.clauses.now z ≡ false) (found g x) dead));
            enabled = rw w.watchlists-is c.loop-cref.invariant.enabled;
          }
    ]

pub returns-clause-built : goal.returns-clause-built
returns-clause-built g c =
    let same : c.deref-cref-items.result.now ≡ c.args.db.now.refs = c.deref-cref-items.ensures.value ∙ ap (λ (d : Db). d.refs) c.db.view_is in
    let e : c.loop-cref.cref-index ≡ length c.deref-cref-items.result.now = omega arith in
    λ _. built_all c.args.clauses.now c.args.db.now.refs c.loop-cref.watchlists.lists g.count c.loop-cref.cref-index c.loop-cref.invariant.built (e ∙ ap (λ (xs : List ℕ). length xs) same)
