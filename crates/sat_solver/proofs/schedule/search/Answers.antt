use Rattle.std.proofs.Common.{ℕ, ◌+◌, ◌-◌, ◌≤◌, ◌≡◌, ◌∙◌, subst, refl, sym, arith}
use Rattle.std.proofs.lemmas.Bool.{true≢false}
use Rattle.std.proofs.lemmas.Result.{err_from_is_err_and}
use Rattle.sat_parts.specs.parts.Words.{trail_letters}
use Rattle.sat_solver.specs.declared.context.Context.{Context}
use Rattle.sat_solver.specs.schedule.Climbing.{RaisesEachWord}
use Rattle.sat_solver.specs.schedule.Rounds.{no_round, one_more as one_more_round}
use Rattle.sat_solver.specs.schedule.Solving.{IsWordOf, search_var_count, RoundsLeadTo, AskEnds, RoundOf}
use Rattle.sat_solver.proofs.lemmas.schedule.ProgressLemmas.{come_begins, come_climbs, come_keeps, few_rounds, none_left}
use Rattle.sat_solver.proofs.lemmas.schedule.SolvingLemmas.{core_word, gone_none, reduced_at, reduced_sound, reduced_words, reduced_goes, reduced_fails, round_sound, round_most, round_words, round_goes, round_ends, round_fails}
use Rattle.sat_solver.proofs.schedule.search.Goals as goal

-- no count has gone on by itself
from_start : (A : ℕ → Type 0) (n : ℕ) → A 0 → A (n - n)
from_start A n h = subst A (let e : 0 ≡ n - n = omega arith in e) h

one_more : (A : ℕ → Type 0) (m n : ℕ) → n ≤ m → A (m - n + 1) → A (m + 1 - n)
one_more A m n le h = subst A (let e : m - n + 1 ≡ m + 1 - n = omega arith in e) h

one_less : (A : ℕ → Type 0) (m n : ℕ) → n ≤ m → A (m - n) → A (m + 1 - n - 1)
one_less A m n le h = subst A (let e : m - n ≡ m + 1 - n - 1 = omega arith in e) h

pub loop-rounds-init : goal.loop-rounds-init
loop-rounds-init g c =
    let core = c.args.context.now in
    record {
      joined = c.requires.joined;
      scale = c.requires.scale;
      same = refl;
      most = refl;
      before = omega arith;
      within = omega (arith, c.saturating_add-end.ensures);
      come = λ few. come_begins IsWordOf core (search_var_count core) c.args.rounds.now c.args.restarts.now.next c.args.restarts.now.sequence (trail_letters core.search.parts.trail) (core_word core) few;
      goes = from_start (λ k. RoundsLeadTo g.W.CountedWrite.seen core c.args.names.now k core c.args.names.now) c.args.rounds.now (gone_none g.W.CountedWrite.seen core c.args.names.now c.requires.joined.valid);
      rounds = no_round;
    }

pub conflict_step-requires : goal.conflict_step-requires
conflict_step-requires g c =
    let b = c.restart_where_due.new.context in
    let r : Context g.row.W.Denot g.row.P.Denot g.P.ProofProcessor = record b { proof = c.reduce.new.proof; search = c.reduce.new.search } in
    let restarted = c.restart_where_due.ensures.joined c.loop-rounds.names c.loop-rounds.invariant.joined in
    let reduced = reduced_sound g.W.CountedWrite.seen b r c.loop-rounds.names c.loop-rounds.rounds refl restarted tt c.in_ok-reduce.ensures in
    record { together = record { keeps = reduced.sound.keeps; valid = reduced.valid; search = reduced.sound.search; shares = reduced.shares } }

pub loop-rounds-preserved : goal.loop-rounds-preserved
loop-rounds-preserved g c =
    let seen = g.W.CountedWrite.seen in
    let i = c.loop-rounds.invariant in
    let n : ℕ = search_var_count c.args.context.now in
    let b = c.restart_where_due.new.context in
    let r : Context g.row.W.Denot g.row.P.Denot g.P.ProofProcessor = record b { proof = c.reduce.new.proof; search = c.reduce.new.search } in
    let d : Context g.row.W.Denot g.row.P.Denot g.P.ProofProcessor = record b { proof = c.conflict_step.new.proof; search = c.conflict_step.new.search } in
    let learned = c.if-not-is_learned.ensures.0 refl in
    let restarted = c.restart_where_due.ensures.joined c.loop-rounds.names i.joined in
    let sound = reduced_sound seen b r c.loop-rounds.names c.loop-rounds.rounds refl restarted tt c.in_ok-reduce.ensures in
    let most : search_var_count r ≡ n = c.in_ok-reduce.ensures.ends.0.moved.size ∙ c.restart_where_due.ensures.most ∙ i.most in
    let rounded = c.in_ok-outcome.ensures in
    let out = c.in_ok-outcome.outcome in
    let names = c.conflict_step.new.names in
    record {
      joined = round_sound seen r d c.loop-rounds.names names refl sound out rounded learned;
      scale = omega (arith, c.restart_where_due.ensures.scale, i.scale);
      same = c.restart_where_due.ensures.scale ∙ i.same;
      most = round_most seen r d c.loop-rounds.names names refl sound out rounded learned ∙ most;
      before = omega (arith, i.before);
      within = omega (arith, c.loop-rounds-test.true);
      come = λ few.
          come_climbs IsWordOf r d n c.args.rounds.now c.loop-rounds.rounds c.restart_where_due.new.restarts.next c.restart_where_due.new.restarts.sequence
          (subst (λ m. RaisesEachWord IsWordOf m r d) most (round_words seen r d c.loop-rounds.names names refl sound out rounded learned))
          (come_keeps IsWordOf b r n c.args.rounds.now c.loop-rounds.rounds c.restart_where_due.new.restarts.next c.restart_where_due.new.restarts.sequence
          (reduced_words seen b r c.loop-rounds.names c.loop-rounds.rounds refl restarted tt c.in_ok-reduce.ensures)
          (c.restart_where_due.ensures.come n c.args.rounds.now (i.come few)));
      goes =
          one_more (λ k. RoundsLeadTo seen c.args.context.now c.args.names.now k d names) c.loop-rounds.rounds c.args.rounds.now i.before
          (round_goes seen r d c.loop-rounds.names names refl sound out rounded learned c.args.context.now c.args.names.now (c.loop-rounds.rounds - c.args.rounds.now)
          (reduced_goes seen b r c.loop-rounds.names c.loop-rounds.rounds refl restarted tt c.in_ok-reduce.ensures c.args.context.now c.args.names.now (c.loop-rounds.rounds - c.args.rounds.now)
          (c.restart_where_due.ensures.goes c.args.context.now c.args.names.now c.loop-rounds.names (c.loop-rounds.rounds - c.args.rounds.now) i.goes)));
      rounds = one_more_round i.rounds (record {
        after_restart = b;
        due = c.restart_where_due.ensures.due;
        after_reduction = r;
        reduction = reduced_at seen b r c.loop-rounds.rounds refl tt c.in_ok-reduce.ensures;
        ends = subst (λ o. RoundOf seen r c.loop-rounds.names o d names) learned (record { ends = rounded; config = refl });
      });
    }

pub returns-then-not-is_learned-clause-counts : goal.returns-then-not-is_learned-clause-counts
returns-then-not-is_learned-clause-counts g c = record {
  more = omega (arith, c.loop-rounds.invariant.before);
  within = omega (arith, c.loop-rounds-test.true, c.saturating_add-end.ensures);
  few = few_rounds IsWordOf c.loop-rounds.context (search_var_count c.args.context.now) c.args.rounds.now c.loop-rounds.rounds c.loop-rounds.restarts.next c.loop-rounds.restarts.sequence
      (omega (arith, c.loop-rounds-test.true, c.saturating_add-end.ensures)) c.loop-rounds.invariant.come;
}

pub returns-then-not-is_learned-clause-ends : goal.returns-then-not-is_learned-clause-ends
returns-then-not-is_learned-clause-ends g c =
    let seen = g.W.CountedWrite.seen in
    let i = c.loop-rounds.invariant in
    let k : ℕ = c.loop-rounds.rounds - c.args.rounds.now in
    let b = c.restart_where_due.new.context in
    let r : Context g.row.W.Denot g.row.P.Denot g.P.ProofProcessor = record b { proof = c.reduce.new.proof; search = c.reduce.new.search } in
    let d : Context g.row.W.Denot g.row.P.Denot g.P.ProofProcessor = record b { proof = c.conflict_step.new.proof; search = c.conflict_step.new.search } in
    let restarted = c.restart_where_due.ensures.joined c.loop-rounds.names i.joined in
    let sound = reduced_sound seen b r c.loop-rounds.names c.loop-rounds.rounds refl restarted tt c.in_ok-reduce.ensures in
    one_less (λ k. AskEnds seen c.args.context.now c.args.names.now k c.in_ok-outcome.outcome d c.conflict_step.new.names) c.loop-rounds.rounds c.args.rounds.now i.before
    (round_ends seen r d c.loop-rounds.names c.conflict_step.new.names refl sound c.in_ok-outcome.outcome c.in_ok-outcome.ensures (λ e. true≢false (sym (c.if-not-is_learned.ensures.1 e))) c.args.context.now c.args.names.now k
    (reduced_goes seen b r c.loop-rounds.names c.loop-rounds.rounds refl restarted tt c.in_ok-reduce.ensures c.args.context.now c.args.names.now k
    (c.restart_where_due.ensures.goes c.args.context.now c.args.names.now c.loop-rounds.names k i.goes)))

pub returns-then-not-is_learned-clause-rounds : goal.returns-then-not-is_learned-clause-rounds
returns-then-not-is_learned-clause-rounds g c =
    let b = c.restart_where_due.new.context in
    let r : Context g.row.W.Denot g.row.P.Denot g.P.ProofProcessor = record b { proof = c.reduce.new.proof; search = c.reduce.new.search } in (
      c.loop-rounds.context,
      c.loop-rounds.names,
      c.loop-rounds.restarts,
      c.loop-rounds.rounds,
      refl,
      c.loop-rounds.invariant.rounds,
      record {
        after_restart = b;
        due = c.restart_where_due.ensures.due;
        after_reduction = r;
        reduction = reduced_at g.W.CountedWrite.seen b r c.loop-rounds.rounds refl tt c.in_ok-reduce.ensures;
        ends = record { ends = c.in_ok-outcome.ensures; config = refl };
      },
    )

pub returns : goal.returns
returns g c =
    let few = few_rounds IsWordOf c.loop-rounds.context (search_var_count c.args.context.now) c.args.rounds.now c.loop-rounds.rounds c.loop-rounds.restarts.next c.loop-rounds.restarts.sequence
    (omega (arith, c.loop-rounds.invariant.within, c.saturating_add-end.ensures)) c.loop-rounds.invariant.come in
    record {
      scale = c.loop-rounds.invariant.same;
      counts = record {
        more = c.loop-rounds.invariant.before;
        within = omega (arith, c.loop-rounds.invariant.within, c.saturating_add-end.ensures);
        few = omega (arith, few);
      };
      round = λ k. absurd (k refl);
      interrupted = λ e. omega (arith, c.loop-rounds-test.false, c.saturating_add-end.ensures, c.loop-rounds.invariant.within);
      answered = λ n le left e. none_left n (search_var_count c.args.context.now) c.args.rounds.now c.loop-rounds.rounds c.args.max_steps le (omega (arith, few)) c.loop-rounds.invariant.before left
          (omega (arith, c.loop-rounds-test.false, c.saturating_add-end.ensures));
      goes = λ e. record { joined = c.loop-rounds.invariant.joined; gone = c.loop-rounds.invariant.goes };
      ends = tt;
      rounds = c.loop-rounds.invariant.rounds;
      fails = tt;
    }

pub returns-in_err-reduce-clause-counts : goal.returns-in_err-reduce-clause-counts
returns-in_err-reduce-clause-counts g c =
    let few = few_rounds IsWordOf c.loop-rounds.context (search_var_count c.args.context.now) c.args.rounds.now c.loop-rounds.rounds c.loop-rounds.restarts.next c.loop-rounds.restarts.sequence
    (omega (arith, c.loop-rounds-test.true, c.saturating_add-end.ensures)) c.loop-rounds.invariant.come in
    record {
      more = c.loop-rounds.invariant.before;
      within = omega (arith, c.loop-rounds-test.true, c.saturating_add-end.ensures);
      few = omega (arith, few);
    }

pub returns-in_err-reduce-clause-fails : goal.returns-in_err-reduce-clause-fails
returns-in_err-reduce-clause-fails g c =
    let seen = g.W.CountedWrite.seen in
    let i = c.loop-rounds.invariant in
    let k : ℕ = c.loop-rounds.rounds - c.args.rounds.now in
    let b = c.restart_where_due.new.context in
    let r : Context g.row.W.Denot g.row.P.Denot g.P.ProofProcessor = record b { proof = c.reduce.new.proof; search = c.reduce.new.search } in
    let p = err_from_is_err_and c.from_residual.result c.from_residual.ensures.1 in
    rw (p.1, p.2) (reduced_fails seen b r c.loop-rounds.names c.loop-rounds.rounds refl (c.restart_where_due.ensures.joined c.loop-rounds.names i.joined) _ c.in_err-reduce.ensures c.args.context.now c.args.names.now k
    (c.restart_where_due.ensures.goes c.args.context.now c.args.names.now c.loop-rounds.names k i.goes))

pub returns-in_err-outcome-clause-counts : goal.returns-in_err-outcome-clause-counts
returns-in_err-outcome-clause-counts g c =
    let few = few_rounds IsWordOf c.loop-rounds.context (search_var_count c.args.context.now) c.args.rounds.now c.loop-rounds.rounds c.loop-rounds.restarts.next c.loop-rounds.restarts.sequence
    (omega (arith, c.loop-rounds-test.true, c.saturating_add-end.ensures)) c.loop-rounds.invariant.come in
    record {
      more = c.loop-rounds.invariant.before;
      within = omega (arith, c.loop-rounds-test.true, c.saturating_add-end.ensures);
      few = omega (arith, few);
    }

pub returns-in_err-outcome-clause-fails : goal.returns-in_err-outcome-clause-fails
returns-in_err-outcome-clause-fails g c =
    let seen = g.W.CountedWrite.seen in
    let i = c.loop-rounds.invariant in
    let k : ℕ = c.loop-rounds.rounds - c.args.rounds.now in
    let b = c.restart_where_due.new.context in
    let r : Context g.row.W.Denot g.row.P.Denot g.P.ProofProcessor = record b { proof = c.reduce.new.proof; search = c.reduce.new.search } in
    let d : Context g.row.W.Denot g.row.P.Denot g.P.ProofProcessor = record b { proof = c.conflict_step.new.proof; search = c.conflict_step.new.search } in
    let restarted = c.restart_where_due.ensures.joined c.loop-rounds.names i.joined in
    let sound = reduced_sound seen b r c.loop-rounds.names c.loop-rounds.rounds refl restarted tt c.in_ok-reduce.ensures in
    let p = err_from_is_err_and c.from_residual-in_err-outcome.result c.from_residual-in_err-outcome.ensures.1 in
    rw (p.1, p.2) (round_fails seen r d c.loop-rounds.names c.conflict_step.new.names refl sound _ c.in_err-outcome.ensures c.args.context.now c.args.names.now k
    (reduced_goes seen b r c.loop-rounds.names c.loop-rounds.rounds refl restarted tt c.in_ok-reduce.ensures c.args.context.now c.args.names.now k
    (c.restart_where_due.ensures.goes c.args.context.now c.args.names.now c.loop-rounds.names k i.goes)))
