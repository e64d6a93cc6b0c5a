use Rattle.std.proofs.Common.{ℕ, ◌≡◌, map, get_or, rules}
use Rattle.std.specs.List.{filter}
use Rattle.std.specs.List.Sorted.{IsPermutation, IsNonDecreasingBy}
use Rattle.std.proofs.lemmas.Result.{on_ok_weaker}
use Rattle.std.proofs.lemmas.List.Sorted.{IsNonDecreasingBy-from_sort_by_key}
use Rattle.sat_store.specs.declared.clause.tier.Tier.TheVariants.{Local}
use Rattle.sat_parts.specs.clause.Db.{is_live_in_tier}
use Rattle.sat_parts.proofs.lemmas.clause.ListLemmas.{place_in}
use Rattle.sat_parts.specs.parts.Reducing.{clause_rank, with_rank}
use Rattle.sat_parts.proofs.lemmas.parts.ReduceLemmas.{filter_in, permuted_ranks, rising_ranks, listed_once, listed_live}
use Rattle.sat_parts.proofs.parts.reduce.list_locals.Goals as goal

pub rank_all-requires : goal.rank_all-requires
rank_all-requires c =
    let locals = filter (is_live_in_tier c.args.parts.now.clauses Local) c.args.parts.now.db.refs in
    rw (c.deref.ensures.value, c.in_ok-find_locals.ensures) (λ k b. c.requires.holds.below.db_matches.holds_clauses.clauses (get_or locals k 0) (filter_in (is_live_in_tier c.args.parts.now.clauses Local) c.args.parts.now.db.refs (get_or locals k 0) (place_in locals k b)).0)

pub returns-clause-locals : goal.returns-clause-locals
returns-clause-locals c =
    let locals = filter (is_live_in_tier c.args.parts.now.clauses Local) c.args.parts.now.db.refs in
    let pairs : IsPermutation (map (with_rank c.args.parts.now.clauses) locals) c.sort_unstable_by_key.new.self.items = rw (c.in_ok-rank_all.ensures, c.deref.ensures.value, c.in_ok-find_locals.ensures) at c.sort_unstable_by_key.ensures.permutation in
    let all : c.take_clauses.new.list.items ≡ map (λ (x : ℕ × ℕ). x.1) c.deref-2.result.now → IsPermutation locals c.take_clauses.new.list.items = λ e.
    rw (e, c.deref-2.ensures.value) (permuted_ranks c.args.parts.now.clauses locals c.sort_unstable_by_key.new.self.items pairs) in
    on_ok_weaker c.take_clauses.result all c.take_clauses.ensures

pub returns-clause-rising : goal.returns-clause-rising
returns-clause-rising c =
    let locals = filter (is_live_in_tier c.args.parts.now.clauses Local) c.args.parts.now.db.refs in
    let pairs : IsPermutation (map (with_rank c.args.parts.now.clauses) locals) c.sort_unstable_by_key.new.self.items = rw (c.in_ok-rank_all.ensures, c.deref.ensures.value, c.in_ok-find_locals.ensures) at c.sort_unstable_by_key.ensures.permutation in
    let sorted = IsNonDecreasingBy-from_sort_by_key (λ (x : ℕ × ℕ). x.0) _ c.sort_unstable_by_key.ensures.sorted (λ a r q k. search rules) in
    let all : c.take_clauses.new.list.items ≡ map (λ (x : ℕ × ℕ). x.1) c.deref-2.result.now → IsNonDecreasingBy (clause_rank c.args.parts.now.clauses) c.take_clauses.new.list.items = λ e.
    rw (e, c.deref-2.ensures.value) (rising_ranks c.args.parts.now.clauses locals c.sort_unstable_by_key.new.self.items pairs sorted) in
    on_ok_weaker c.take_clauses.result all c.take_clauses.ensures

pub returns-clause-once : goal.returns-clause-once
returns-clause-once c =
    let p = c.args.parts.now in
    on_ok_weaker c.take_clauses.result (λ e. listed_once p.clauses p.db.refs c.take_clauses.new.list.items Local c.requires.holds.below.db_matches.rising e) (returns-clause-locals c)

pub returns-clause-live : goal.returns-clause-live
returns-clause-live c =
    let p = c.args.parts.now in
    on_ok_weaker c.take_clauses.result (λ e. listed_live p.clauses p.db.refs c.take_clauses.new.list.items Local e) (returns-clause-locals c)
