-- What the target of a proof received since it was opened, even if a call failed.
use Rattle.std.proofs.Common.{◌≡◌, ◌∙◌, inl, inr, false, Some, List, [], ◌∷◌, ◌++◌, append_assoc, refl, sym, ap, subst}
use Rattle.std.proofs.lemmas.Bool.{true≢false}
use Rattle.std.specs.Io.KnownBytes.{Appends}
use Rattle.sat_base.specs.device.Device.{Writer}
use Rattle.sat_base.specs.device.Sink.{empty_sink}
use Rattle.sat_base.specs.steps.Steps.{Step, SolverVarName, UserVarName, DeleteVar, ChangeSamplingMode, AddClause, AtClause, UnitClauses, DeleteClause, ChangeHashBits, Model, Assumptions, FailedAssumptions, End}
use Rattle.sat_checker.specs.declared.processing.ProofProcessor.{Ghosts}
use Rattle.sat_solver.specs.proof.Checked.{has_begun}
use Rattle.sat_solver.specs.proof.Counting.{nothing_counted}
use Rattle.sat_solver.specs.proof.Prefixes.{PrefixText, TargetReceivesPrefix, ProofReachesBySteps, PrefixesAreAccepted}
use Rattle.sat_solver.specs.proof.ProofView.{Target, Closed, Open, Broken as Faulty, TargetReceives, TargetFails, ReturnsWriter, target_of, steps_of, EmitsExactly, FailsToEmit}
use Rattle.sat_solver.specs.session.Session.{empty_session, IsAllowedStep, AreAllowedSteps, after, session_after}
use Rattle.sat_solver.specs.declared.proof.format.ProofFormat.{ProofFormat}
use Rattle.sat_solver.specs.declared.proof.Proof.{Proof}
use Rattle.sat_solver.proofs.lemmas.session.CutsLemmas.{cuts_are_free}
use Rattle.sat_solver.proofs.lemmas.session.ProofLemmas.{carries_none, carries_more, stops_later}
use Rattle.sat_solver.proofs.lemmas.session.StepLemmas.{sessions_are_accepted}

-- STEPS AFTER AN END

-- after ends of proofs only, the session is the empty one
ended : (before : List Step) → has_begun before ≡ false → session_after before ≡ empty_session
ended [] h = refl
ended (End ∷ before) h = ap (after End) (ended before h)
ended (SolverVarName v n ∷ before) h = absurd (true≢false h)
ended (UserVarName v n ∷ before) h = absurd (true≢false h)
ended (DeleteVar v ∷ before) h = absurd (true≢false h)
ended (ChangeSamplingMode v b ∷ before) h = absurd (true≢false h)
ended (AddClause c ∷ before) h = absurd (true≢false h)
ended (AtClause r c hs ∷ before) h = absurd (true≢false h)
ended (UnitClauses us ∷ before) h = absurd (true≢false h)
ended (DeleteClause c p ∷ before) h = absurd (true≢false h)
ended (ChangeHashBits w ∷ before) h = absurd (true≢false h)
ended (Model ls ∷ before) h = absurd (true≢false h)
ended (Assumptions ls ∷ before) h = absurd (true≢false h)
ended (FailedAssumptions c hs ∷ before) h = absurd (true≢false h)

-- so later steps lead to the same session as without them
alone : (before steps : List Step) → has_begun before ≡ false → session_after (steps ++ before) ≡ session_after steps
alone before [] h = ended before h
alone before (step ∷ steps) h = ap (after step) (alone before steps h)

-- later steps are also allowed without them
may_alone : (before steps : List Step) → has_begun before ≡ false → AreAllowedSteps (steps ++ before) → AreAllowedSteps steps
may_alone before [] h m = tt
may_alone before (step ∷ steps) h m = (may_alone before steps h m.0, subst (λ s. IsAllowedStep s step) (alone before steps h) m.1)

-- the first ones of allowed steps are allowed
may_first : (later first : List Step) → AreAllowedSteps (later ++ first) → AreAllowedSteps first
may_first [] first m = m
may_first (step ∷ later) first m = may_first later first m.0

-- PREFIXES OF THE TEXT

module _ (f : ProofFormat) (from given : Writer) where
  -- the target received the text of these steps
  carried_front : (steps : List Step) (now : Target) → AreAllowedSteps steps → TargetReceives (Open f nothing_counted (empty_sink from)) steps now → ReturnsWriter now (Some given) → PrefixText f from given steps
  carried_front steps now m h g =
      let q : Some given ≡ Some h.1.writer = subst (λ (z : Target). ReturnsWriter z (Some given)) h.2 g in
      let same : h.1.writer ≡ given = cc in
      let may = (cuts_are_free steps h.3.written h.0 h.3.cuts m).may in
      record {
        written = h.3.written;
        counting = h.0;
        cuts = h.3.cuts;
        may = may;
        accepts = (sessions_are_accepted h.3.written may).0;
        front = h.3.wrote.sent.fresh;
        following = h.1.waiting;
        whole = h.3.wrote.sent.flows;
        taken = ap (λ (z : Writer). z.taken) (sym same) ∙ h.3.wrote.sent.takes.taken;
        known_bytes = subst (λ (z : Writer). Appends from.contents z.contents h.3.wrote.sent.fresh) same h.3.wrote.sent.takes.known_bytes;
      }

  -- a call failed while their text was written
  stopped_front : (steps : List Step) (now : Target) → AreAllowedSteps steps → TargetFails (Open f nothing_counted (empty_sink from)) steps now → ReturnsWriter now (Some given) → PrefixText f from given steps
  stopped_front steps now m h g =
      let q : Some given ≡ Some h.0 = subst (λ (z : Target). ReturnsWriter z (Some given)) h.1 g in
      let same : h.0 ≡ given = cc in
      let may = (cuts_are_free steps h.2.written h.2.counting h.2.cuts m).may in
      record {
        written = h.2.written;
        counting = h.2.counting;
        cuts = h.2.cuts;
        may = may;
        accepts = (sessions_are_accepted h.2.written may).0;
        front = h.2.breaks.front;
        following = h.2.breaks.following;
        whole = h.2.breaks.whole;
        taken = ap (λ (z : Writer). z.taken) (sym same) ∙ h.2.breaks.taken;
        known_bytes = subst (λ (z : Writer). Appends from.contents z.contents h.2.breaks.front) same h.2.breaks.known_bytes;
      }

pub fronts_are_accepted : PrefixesAreAccepted
fronts_are_accepted f from given before steps now b m follows g =
    let may = may_alone before steps b m in
    elim follows [
      | inl h ↦ record { later = []; steps = steps; following = refl; front = carried_front f from given steps now may h g }
      | inr h ↦ record {
        later = h.0;
        steps = h.1;
        following = ap (λ (z : List Step). z ++ before) h.2 ∙ append_assoc h.0 h.1 before;
        front = stopped_front f from given h.1 now (may_first h.0 h.1 (subst AreAllowedSteps h.2 may)) h.3 g;
      }
    ]

-- FROM STEP TO STEP

-- a target that failed receives nothing more
broken_follows : (w : Writer) (ys : List Step) (c : Target) → TargetReceivesPrefix (Faulty w) ys c → c ≡ Faulty w
broken_follows w ys c h = elim h [ inl k ↦ k | inr k ↦ absurd k.3 ]

-- steps, and then later ones
pub follows_more : (a b c : Target) (xs ys : List Step) → TargetReceivesPrefix a xs b → TargetReceivesPrefix b ys c → TargetReceivesPrefix a (ys ++ xs) c
follows_more a b c xs ys p q = elim p [
  | inl k ↦ elim q [
    | inl l ↦ inl (carries_more a b c xs ys k l)
    | inr l ↦ inr (l.0, l.1 ++ xs, ap (λ (z : List Step). z ++ xs) l.2 ∙ append_assoc l.0 l.1 xs, stops_later a b c xs l.1 k l.3)
  ]
  | inr k ↦ inr (ys ++ k.0, k.1, ap (λ (z : List Step). ys ++ z) k.2 ∙ sym (append_assoc ys k.0 k.1), stays a k.1 k.3 q)
]
  where
    stays : (t : Target) (first : List Step) → TargetFails t first b → TargetReceivesPrefix b ys c → TargetFails t first c
    stays (Closed n) first s r = absurd s
    stays (Open f n z) first s r =
        let e : c ≡ Faulty s.0 = broken_follows s.0 ys c (subst (λ (z : Target). TargetReceivesPrefix z ys c) s.1 r) in
        (s.0, e, s.2)
    stays (Faulty w) first s n = absurd s

-- a flush writes no step
pub went_none : {W L : Type 0} {G : Ghosts L} (seen : W → Writer) (p : Proof W L G) → ProofReachesBySteps seen p p
went_none seen p = record { steps = []; history = refl; target = inl (carries_none (target_of seen p)) }

pub went_more : {W L : Type 0} {G : Ghosts L} (seen : W → Writer) (a b c : Proof W L G) → ProofReachesBySteps seen a b → ProofReachesBySteps seen b c → ProofReachesBySteps seen a c
went_more seen a b c p q = record {
  steps = q.steps ++ p.steps;
  history = q.history ∙ ap (λ z. q.steps ++ z) p.history ∙ sym (append_assoc q.steps p.steps (steps_of a));
  target = follows_more (target_of seen a) (target_of seen b) (target_of seen c) p.steps q.steps p.target q.target;
}

-- steps were made, and their text was written
pub went_added : {W L : Type 0} {G : Ghosts L} (seen : W → Writer) (steps : List Step) (a b : Proof W L G) → EmitsExactly seen steps a b → ProofReachesBySteps seen a b
went_added seen steps a b h = record { steps = steps; history = h.history; target = inl h.target }

-- steps were made, and a call failed while their text was written
pub went_failed : {W L : Type 0} {G : Ghosts L} (seen : W → Writer) (steps : List Step) (a b : Proof W L G) → FailsToEmit seen steps a b → ProofReachesBySteps seen a b
went_failed seen steps a b h = record { steps = steps; history = h.history; target = inr ([], steps, refl, h.target) }
