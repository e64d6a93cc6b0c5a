-- The invariant of the list of clauses holds if at most the order of literals changed.
use Rattle.std.proofs.Common.{ℕ, ◌+◌, ◌-◌, ◌^◌, ◌≤◌, min, List, length, sym, ap, ◌∙◌, subst, not, ◌&&◌, ◌==◌, cond}
use Rattle.sat_store.specs.clause.Buffer.{lits_at}
use Rattle.sat_store.specs.clause.Header.{Header, tier_index}
use Rattle.sat_parts.specs.clause.Db.{Db, DbMatchesBuffer, is_live, live_refs, is_live_in_tier, garbage_of}
use Rattle.sat_parts.specs.clause.Orders.{SameUpToOrder, PermutesClauses}
use Rattle.sat_parts.proofs.lemmas.clause.ListLemmas.{sum_same}
use Rattle.sat_parts.proofs.lemmas.prop.BuildLemmas.{live_in}

pub held_kept : (old new : List ℕ) (db : Db) → DbMatchesBuffer old db → SameUpToOrder old new db.refs → DbMatchesBuffer new db
held_kept old new db h k = record {
  holds_clauses = k.holds_clauses;
  rising = h.rising;
  tiers = h.tiers;
  counts = λ t. h.counts t ∙ sym (sum_same (λ p. cond (is_live_in_tier old t p) 1 0) (λ p. cond (is_live_in_tier new t p) 1 0) db.refs
      (λ p c. ap (λ (y : Header). cond (not y.deleted && (tier_index y.tier == tier_index t)) 1 0) (k.headers p c)));
  garbage = h.garbage ∙ ap (λ z. min z (2 ^ 64 - 1)) (sym (sum_same (garbage_of old) (garbage_of new) db.refs
      (λ p c. ap (λ (y : Header). cond (not y.deleted) 0 (length (lits_at new p) + 3)) (k.headers p c) ∙ ap (λ n. cond (is_live old p) 0 (n + 3)) (k.lits p c).size)));
  few = h.few;
  long = λ p c. subst (λ n. 3 ≤ n) (sym (k.lits p c).size) (h.long p c);
}

pub held_reordered : (old new : List ℕ) (db : Db) → DbMatchesBuffer old db → PermutesClauses old new (live_refs old db.refs) → DbMatchesBuffer new db
held_reordered old new db h r = held_kept old new db h (r.all db.refs (λ o g. live_in old db.refs o g) h.holds_clauses)
