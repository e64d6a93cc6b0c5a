-- How rounds end.
use Rattle.std.proofs.Common.{ℕ, ◌≡◌, false, List, ◌++◌, sym, ap, subst, append_assoc}
use Rattle.sat_base.specs.steps.Steps.{Step}
use Rattle.sat_parts.specs.parts.Words.{TrailWordExtendsFor}
use Rattle.sat_parts.proofs.lemmas.parts.WordSteps.{rises_after}
use Rattle.sat_solver.specs.session.Session.{Session, session_after}
use Rattle.sat_solver.specs.session.Empowering.{IsEmpowering}
use Rattle.sat_solver.specs.session.Quiet.{AreQuiet}
use Rattle.sat_solver.proofs.lemmas.fits.QuietLemmas.{quiet_both}
use Rattle.sat_solver.specs.declared.schedule.RoundOutcome.{RoundOutcome}
use Rattle.sat_solver.specs.declared.schedule.RoundOutcome.TheVariants as outcomes
use Rattle.sat_solver.specs.declared.context.Search.{Search}
use Rattle.sat_solver.specs.cdcl.Joint.{assumed_indices, SearchInvariant, SameVarsAndAssumptions}
use Rattle.sat_solver.specs.cdcl.Learning.{LastIsEmpowering}
use Rattle.sat_solver.specs.cdcl.Rounds.{LastRefutes, RoundResult}
use Rattle.sat_solver.proofs.lemmas.cdcl.TurnLemmas.{moved_trans}

-- if the newest step advances, it still does when earlier quiet steps are counted with the new ones
pub last_later : (earlier xs ys : List Step) → AreQuiet xs → LastIsEmpowering (xs ++ earlier) ys → LastIsEmpowering earlier (ys ++ xs)
last_later earlier xs ys quiet l = record {
  redundant = l.redundant;
  clause = l.clause;
  hashes = l.hashes;
  rest = l.rest ++ xs;
  is = ap (λ zs. zs ++ xs) l.is;
  advances = subst (λ zs. IsEmpowering (session_after zs) l.clause) (sym (append_assoc l.rest xs earlier)) l.advances;
  quiet = quiet_both xs l.rest quiet l.quiet;
}

-- the same for a newest step that records unsat
pub refutes_later : (earlier xs ys : List Step) (s : Session) → AreQuiet xs → LastRefutes (xs ++ earlier) ys s → LastRefutes earlier (ys ++ xs) s
refutes_later earlier xs ys s quiet l = record {
  last = l.last;
  rest = l.rest ++ xs;
  is = ap (λ zs. zs ++ xs) l.is;
  before = subst (λ zs. (session_after zs).unsat ≡ false) (sym (append_assoc l.rest xs earlier)) l.before;
  now = l.now;
  quiet = quiet_both xs ys quiet l.quiet;
}

-- the result of a round also holds from an earlier state, if only quiet steps were made in between
pub round_from : (outcome : RoundOutcome) (earlier xs ys : List Step) (s : Session) (a b c : Search) → SameVarsAndAssumptions a b → TrailWordExtendsFor (assumed_indices a) a.parts b.parts → AreQuiet xs → RoundResult outcome (xs ++ earlier) ys s b c → RoundResult outcome earlier (ys ++ xs) s a c
round_from outcomes.Learned earlier xs ys s a b c moved word quiet r = record {
  search = r.search;
  moved = moved_trans a b c moved r.moved;
  rises = rises_after (assumed_indices a) a.parts b.parts c.parts word (rw moved.lits at r.rises);
  last = last_later earlier xs ys quiet r.last;
}
round_from outcomes.Model earlier xs ys s a b c moved word quiet r = (record { search = r.0.search; moved = moved_trans a b c moved r.0.moved; complete = r.0.complete }, quiet_both xs ys quiet r.1)
round_from outcomes.Unsat earlier xs ys s a b c moved word quiet r = refutes_later earlier xs ys s quiet r
round_from outcomes.Failed earlier xs ys s a b c moved word quiet r = (record { search = r.0.search; moved = moved_trans a b c moved r.0.moved; failing = r.0.failing }, quiet_both xs ys quiet r.1)

-- storing the failed assumption preserves the invariant
pub search_failed : (s : Session) (c : Search) (l : ℕ) → SearchInvariant s c → SearchInvariant s (record c { failed = l })
search_failed s c l h = record {
  valid = h.valid;
  ready = record {
    free = record { names = h.ready.free.names; size = h.ready.free.size; clear = h.ready.free.clear; flags_size = h.ready.free.flags_size; flags_clear = h.ready.free.flags_clear };
    placed = h.ready.placed;
    there = h.ready.there;
    asked = h.ready.asked;
    used = h.ready.used;
  };
}
