-- Session and checker agree after every step.
use Rattle.std.proofs.Common.{◌≡◌, Bool, true, false, List, [], ◌∷◌, refl, sym, ◌∙◌, ap, subst, None}
use Rattle.sat_base.specs.steps.Steps.{Step}
use Rattle.sat_checker.specs.Stored.{Stored, nothing_stored}
use Rattle.sat_checker.specs.Storing.{with_conflict_settled}
use Rattle.sat_checker.specs.Accepts.{Accepts, AcceptsAll, effect, stored_after, ready_after}
use Rattle.sat_checker.specs.Contents.{count_in}
use Rattle.sat_checker.proofs.lemmas.invariants.Counted.{TidyClauses, tidy_effect, tidy_settled}
use Rattle.sat_checker.proofs.lemmas.meaning.Orderly.{OrderInvariant, orderly_settled}
use Rattle.sat_checker.proofs.lemmas.meaning.OrderlySteps.{orderly_effect, orderly}
use Rattle.sat_solver.specs.session.Session.{Session, IsAllowedStep, AreAllowedSteps, after, session_after}
use Rattle.sat_solver.specs.session.MatchesStored.{MatchesStored}
use Rattle.sat_solver.specs.session.Promises.{AllowedIsAccepted, SessionsAreAccepted}
use Rattle.sat_solver.proofs.lemmas.session.Views.{view, view_after, view_settled}
use Rattle.sat_solver.proofs.lemmas.session.LastLemmas.{LastIs, no_last, last_kept, last_settled}
use Rattle.sat_solver.proofs.lemmas.session.AcceptLemmas.{accepts_view}

-- SESSIONS AND CHECKERS AGREE

-- the session is its view of the checker, whose clauses are tidy
pub record Fits (s : Session) (f : Stored) : Type 0 where
  pub same : view s.last f ≡ s
  pub tidy : TidyClauses f.clauses
  pub last : LastIs s.last f

-- `MatchesStored` implies `Fits`
pub fits : (s : Session) (f : Stored) → MatchesStored s f → Fits s f
fits s f a = record {
  same = λ i. record { live = λ r set. a.live r set i; units = λ l. a.units l i; unsat = a.unsat i; variables = a.variables i; solver_names = a.solver_names i; width = a.width i; assumed = a.assumed i; last = s.last };
  tidy = record { once = a.once; counted = a.counted };
  last = a.last;
}

-- `Fits` implies `MatchesStored`
pub agrees : (s : Session) (f : Stored) → Fits s f → MatchesStored s f
agrees s f h = record {
  live = λ r set. ap (λ x. x.live r set) h.same;
  units = λ l. ap (λ x. x.units l) h.same;
  unsat = ap (λ x. x.unsat) h.same;
  variables = ap (λ x. x.variables) h.same;
  solver_names = ap (λ x. x.solver_names) h.same;
  width = ap (λ x. x.width) h.same;
  assumed = ap (λ x. x.assumed) h.same;
  last = h.last;
  once = h.tidy.once;
  counted = h.tidy.counted;
}

-- settling a conflict preserves `Fits`
pub fits_settled : (s : Session) (f : Stored) → Fits s f → Fits s (with_conflict_settled f)
fits_settled s f h = record { same = view_settled s.last f ∙ h.same; tidy = tidy_settled f h.tidy; last = last_settled s.last f h.last }

-- if both fit, the checker accepts every allowed step
pub accepts_fit : (s : Session) (f : Stored) (step : Step) → Fits s f → IsAllowedStep s step → Accepts f step
accepts_fit s f step h m = accepts_view step s.last f h.tidy h.last (subst (λ x. IsAllowedStep x step) (sym h.same) m)

-- an accepted step preserves `Fits`
pub fits_after : (s : Session) (f : Stored) (step : Step) → Fits s f → OrderInvariant f → Accepts f step → Fits (after step s) (effect step f)
fits_after s f step h o a = record {
  same = view_after s.last step f h.tidy.once ∙ ap (after step) h.same;
  tidy = tidy_effect step f h.tidy;
  last = last_kept step s.last f (orderly_effect step f a o) h.last;
}

-- the checker accepts what a session may write
pub may_is_accepted : AllowedIsAccepted
may_is_accepted s f step a m = accepts_fit s f step (fits s f a) m

-- an absent clause has count 0
none_counts : (r : Bool) → count_in r None ≡ 0
none_counts true = refl
none_counts false = refl

-- allowed steps are accepted in turn, and both fit after them
pub valid : (steps : List Step) → AreAllowedSteps steps → AcceptsAll steps × Fits (session_after steps) (stored_after steps)
valid [] h = (
  tt,
  record {
    same = λ i. record { live = λ r set. none_counts r i; units = λ l. false; unsat = false; variables = nothing_stored.variables; solver_names = nothing_stored.solver_names; width = 64; assumed = []; last = None };
    tidy = record { once = tt; counted = tt };
    last = λ set e. absurd (no_last set e);
  },
)
valid (step ∷ earlier) h =
    let ih = valid earlier h.0 in
    let r = fits_settled (session_after earlier) (stored_after earlier) ih.1 in
    let a : Accepts (ready_after earlier) step = accepts_fit (session_after earlier) (ready_after earlier) step r h.1 in
    ((ih.0, a), fits_after (session_after earlier) (ready_after earlier) step r (orderly_settled (stored_after earlier) (orderly earlier ih.0)) a)

-- the same, stated by `MatchesStored`
pub sessions_are_accepted : SessionsAreAccepted
sessions_are_accepted steps h =
    let s = valid steps h in (s.0, agrees (session_after steps) (ready_after steps) (fits_settled (session_after steps) (stored_after steps) s.1))
