use Rattle.std.proofs.lemmas.Grind.{common_steps}
use Rattle.std.proofs.Common.{◌≡◌, ◌<◌, ℕ, true, false, not, length, get_or, List, sym, ap, ◌∙◌, subst, arith, Bool}
use Rattle.sat_store.specs.clause.Buffer.{SameClauseAt}
use Rattle.sat_store.specs.clause.Header.{Header}
use Rattle.sat_parts.specs.clause.Db.{is_live}
use Rattle.sat_parts.specs.clause.Filtered.{ReturnsForClause}
use Rattle.sat_parts.specs.prop.WatchLists.{WatchState}
use Rattle.sat_parts.proofs.lemmas.prop.BuildLemmas.{live_place}
use Rattle.sat_parts.proofs.lemmas.clause.FilterLemmas.{filtering_none, filtering_skip, filtering_keep, filtering_drop, filtering_all, filtering_alive, filtering_kept}
use Rattle.sat_parts.proofs.clause.filter.filter_clauses.Given.{Over}
use Rattle.sat_parts.proofs.clause.filter.filter_clauses.Goals as goal
use Rattle.sat_parts.proofs.clause.filter.filter_clauses.Goals.{After-deleted}

-- the clause of this iteration
module _ (g : Over) (c : After-deleted g) where
  inside : c.loop-at.at < length c.args.db.now.refs
  inside = omega (arith, ap length c.loop-at.invariant.refs)

  at_place : c.cref-cref.result ≡ get_or c.args.db.now.refs c.loop-at.at 0
  at_place = c.cref-cref.ensures ∙ ap (λ (xs : List ℕ). get_or xs c.loop-at.at 0) c.loop-at.invariant.refs

  lives : (b : Bool) → c.deleted.result ≡ b → is_live c.loop-at.clauses c.cref-cref.result ≡ not b
  lives b e = ap (λ d. not d) (ap (λ (x : Header). x.deleted) (sym c.header.ensures.value) ∙ sym c.deleted.ensures ∙ e)

  same : SameClauseAt c.args.clauses.now c.loop-at.clauses c.cref-cref.result
  same = filtering_kept _ _ _ _ _ _ _ _ c.loop-at.invariant.pass inside at_place

pub loop-at-init : goal.loop-at-init
loop-at-init g c = grind (arith, common_steps, filtering_none)

pub loop-at-preserved-then-deleted : goal.loop-at-preserved-then-deleted
loop-at-preserved-then-deleted g c =
    let x = (goal.at.loop-at-preserved-then-deleted g c).After-deleted in
    let h = c.loop-at.invariant in
    record {
      db = h.db;
      refs = h.refs;
      off = h.off;
      pass = filtering_skip _ _ _ _ _ _ _ h.pass (inside g x) (subst (λ o. is_live c.loop-at.clauses o ≡ false) (at_place g x) (lives g x true c.if-deleted.true));
    }

pub keep-requires : goal.keep-requires
keep-requires g c =
    let x = (goal.at.keep-requires g c).After-deleted in
    c.requires.callable c.loop-at.keep _ c.cref-cref.result (filtering_alive _ _ _ _ _ _ _ _ c.loop-at.invariant.pass (inside g x) (at_place g x) (lives g x false c.if-deleted.false)) (same g x)

pub loop-at-preserved-then-keep : goal.loop-at-preserved-then-keep
loop-at-preserved-then-keep g c =
    let x = (goal.at.loop-at-preserved-then-keep g c).After-deleted in
    let h = c.loop-at.invariant in
    let returned_in_turn : ReturnsForClause g.F.FnMut c.args.clauses.now c.loop-at.keep c.cref-cref.result c.keep.result c.keep.new.self = record { shown = _; same = same g x; called = c.keep.ensures } in
    record {
      db = h.db;
      refs = h.refs;
      off = h.off;
      pass = filtering_keep _ _ _ c.keep.new.self _ _ _ _ c.cref-cref.result h.pass (inside g x) (at_place g x) (lives g x false c.if-deleted.false)
          (subst (λ (b : Bool). ReturnsForClause g.F.FnMut c.args.clauses.now c.loop-at.keep c.cref-cref.result b c.keep.new.self) c.if-keep.true returned_in_turn);
    }

pub delete_clause-requires-clause-live : goal.delete_clause-requires-clause-live
delete_clause-requires-clause-live g c =
    let x = (goal.at.delete_clause-requires-clause-live g c).After-deleted in
    live_place c.loop-at.clauses c.loop-at.db.refs c.loop-at.at c.cref-cref.result (omega (arith, ap length c.loop-at.invariant.refs)) c.cref-cref.ensures (lives g x false c.if-deleted.false)

pub loop-at-preserved : goal.loop-at-preserved
loop-at-preserved g c =
    let x = (goal.at.loop-at-preserved g c).After-deleted in
    let h = c.loop-at.invariant in
    let returned_in_turn : ReturnsForClause g.F.FnMut c.args.clauses.now c.loop-at.keep c.cref-cref.result c.keep.result c.keep.new.self = record { shown = _; same = same g x; called = c.keep.ensures } in
    let d = c.delete_clause.ensures.deleted in
    record {
      db = d.holds;
      refs = d.refs ∙ h.refs;
      off = c.delete_clause.ensures.watches ∙ ap (λ (w : WatchState). record w { enabled = false }) h.off;
      pass = filtering_drop _ _ _ c.keep.new.self _ _ _ _ _ c.cref-cref.result c.requires.db.rising h.pass (inside g x) (at_place g x) (lives g x false c.if-deleted.false)
          (subst (λ (b : Bool). ReturnsForClause g.F.FnMut c.args.clauses.now c.loop-at.keep c.cref-cref.result b c.keep.new.self) c.if-keep.false returned_in_turn) (rw h.refs at d.put);
    }

pub returns-clause-kept : goal.returns-clause-kept
returns-clause-kept g c =
    let h = c.loop-at.invariant in
    let end : c.loop-at.at ≡ length c.args.db.now.refs = omega arith in
    rw h.refs (filtering_all (ReturnsForClause g.F.FnMut c.args.clauses.now) c.args.keep c.loop-at.keep c.args.clauses.now c.loop-at.clauses c.args.db.now.refs c.loop-at.at h.pass end).1
